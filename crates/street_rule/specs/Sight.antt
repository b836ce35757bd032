-- What a driver sees from the keys of two lists, and what follows from it.
-- Source: symmetric lane changes by Rickert, Nagel, Schreckenberg and Latour 1996; the turn zone and closed cells are this
-- profile.
use Rattle.std.specs.Prelude.{ℕ, ◌+◌, ◌-◌, nat_lt, nat_le, Bool, ◌&&◌, List, Option, if◌then◌else◌, ◌≡◌, ◌≤◌, [], Some, false, option_map, unwrap_or}
use Rattle.std.specs.Option.{option_map_or}
use Rattle.street_base.specs.declared.net.NetSpec.{NetSpec}
use Rattle.street_base.specs.Prelude.{serves, lane_draw, Vehicle, next_link, Track, rear, are_free, Changing, free_ahead, free_behind, zone_wish}
use Rattle.street_rule.specs.Odds.{Odds}
use Rattle.street_gap.specs.Prelude.{entrance_after, closed_marks, lesser}
use Rattle.street_rule.specs.Road.{Road, RoadLane, lane_of, lane_seen, length_of, track_of, IsRoadLane}
use Rattle.street_rule.specs.declared.sight.Outlook.{Outlook}
use Rattle.street_yard.specs.Prelude.{Yard, cell_at, rear_at, vehicle_with}

-- the seed, the dawdle odds and the lane change odds that the load of a network gave
abbrev pub odds_of : NetSpec → Odds
odds_of net = record { seed = net.seed; dawdle = net.dawdle; change = net.change }

-- what all vehicles of a road share in a step's lane changes: the turn zone, which of its lanes serves which next link,
-- and which numbers may change: those whose lane draw of this step is below the odds
abbrev pub changing_of : Road → ℕ → Changing
changing_of road step = record {
  zone = road.network.zone;
  serves = λ lane next. serves road.network (record { link = road.link; lane = lane }) next;
  may_change = λ number. nat_lt (lane_draw road.network.seed number step) road.network.change;
}

-- the gap ahead of cell x for lane changes, given the obstacle ahead: the cells up to it, or 16 where there is none
abbrev pub change_gap_to : Option ℕ → ℕ → ℕ
change_gap_to obstacle x = unwrap_or (option_map (λ y. y - x - 1) obstacle) 16

-- the gap ahead of cell x for lane changes: the cells up to `ahead`, the rear of the vehicle ahead, or to the next
-- entrance of a closed stretch above x, whichever is lower; 16 where neither is
abbrev pub change_gap_ahead : List Bool → Option ℕ → ℕ → ℕ
change_gap_ahead closed ahead x = change_gap_to (lesser ahead (entrance_after closed x)) x

-- the gap behind a rear in cell x for lane changes: the cells down to `below`, the cell of the vehicle behind, if there
-- is one; else 16
abbrev pub change_gap_behind : Option ℕ → ℕ → ℕ
change_gap_behind below x = unwrap_or (option_map (λ y. x - y - 1) below) 16

-- whether a vehicle in cell x wants the other lane: if it is slow (its gap is at most its speed); but in the turn zone
-- of a lane of `count` cells, if it has a next link, yes if its own lane does not serve that, no if only its own does
abbrev pub wishes_with : Changing → ℕ → ℕ → ℕ → ℕ → ℕ → Option ℕ → Bool
wishes_with changing lane count gap x speed next =
    if nat_le count (x + changing.zone)
    then option_map_or (λ n. zone_wish (changing.serves lane n) (changing.serves (1 - lane) n) (nat_lt gap (speed + 1))) next (nat_lt gap (speed + 1))
    else nat_lt gap (speed + 1)

-- whether a vehicle with its front at x and its rear at r fits on the other lane: all cells from r to x are free there,
-- the gap ahead is above speed + 1, the gap behind above 5 (16 each where nothing is in sight)
abbrev pub has_room : Track → ℕ → ℕ → ℕ → Bool
has_room other x r speed = are_free other r x && (nat_lt (speed + 1) (free_ahead other x) && nat_lt 5 (free_behind other r))

-- whether there is room on the other lane: the cells beside are open (`is_open`), the gap from x to `above`, the rear
-- ahead, or to a closed stretch is above speed + 1, and that from r to `below`, the cell behind, above 5; a gap is 16
-- where nothing is in sight
abbrev pub has_room_between : List Bool → Bool → Option ℕ → Option ℕ → ℕ → ℕ → ℕ → Bool
has_room_between closed is_open above below x r speed =
    is_open && (nat_lt (speed + 1) (change_gap_ahead closed above x) && nat_lt 5 (change_gap_behind below r))

-- whether vehicle v in cell x of a lane changes to the other lane, whose track is `other`: it wants to, by its gap to
-- `ahead`, the rear of the vehicle ahead, or to a closed stretch; it fits there; and its lane draw allows it
abbrev pub decision : Changing → ℕ → ℕ → List Bool → Option ℕ → Track → ℕ → Vehicle → Bool
decision changing lane count closed ahead other x v =
    wishes_with changing lane count (change_gap_ahead closed ahead x) x v.speed (next_link v) && (has_room other x (rear x v) v.speed && changing.may_change v.number)

-- whether the vehicle v, in the cell of a key on a lane (0 or 1) of a road, changes to the other lane in this step,
-- given the closed marks of its own lane and `ahead`, the rear of the vehicle ahead there, if there is one
abbrev pub decision_of : Yard → Road → ℕ → ℕ → List Bool → Option ℕ → ℕ → Vehicle → Bool
decision_of y road lane step closed ahead key v =
    decision (changing_of road step) lane (length_of road) closed ahead (track_of y (length_of road) (lane_of road (1 - lane))) (cell_at y key) v

-- ---- what the code tells

-- that `fits` says whether a vehicle with its front at x and its rear at r fits on a lane (cells free, gap ahead above
-- speed + 1, gap behind above 5), however many cells the lane's list stands for
abbrev pub TellsRoom : Yard → RoadLane → ℕ → ℕ → ℕ → Bool → Type 0
TellsRoom y lane x r speed fits = (count : ℕ) → IsRoadLane y count lane → fits ≡ has_room (track_of y count lane) x r speed

-- that there is a key `above`, whose vehicle's rear is at most two cells further from cell x than the speed
abbrev pub IsNear : Yard → Option ℕ → ℕ → ℕ → Type 0
IsNear y above x speed = (k : ℕ) × (above ≡ Some k) × (rear_at y k ≤ x + speed + 2)

-- that an outlook is of lane 0 or 1 of the road, with that lane's list and closed cells (none where `has_closed` is
-- false), and that its `zone` is the cell where the turn zone begins, 0 where the zone is longer than the lane
pub record IsOutlook (road : Road) (outlook : Outlook) : Type 0 where
  pub lane : outlook.lane ≤ 1
  pub own : lane_seen outlook.own ≡ lane_of road outlook.lane
  pub closed : outlook.has_closed ≡ false → outlook.own.closures.now ≡ []
  pub zone : outlook.zone ≡ length_of road - road.network.zone

-- that `goes` says whether the vehicle of a key changes to the other lane in this step, given its lane's closed cells
-- and `ahead`, the rear of the vehicle ahead, if there is one; nothing is said where no car is under the key
abbrev pub Decides : Yard → Road → ℕ → ℕ → Option ℕ → ℕ → Bool → Type 0
Decides y road lane step ahead key goes =
    (v : Vehicle) → vehicle_with y key ≡ Some v → goes ≡ decision_of y road lane step (closed_marks (lane_of road lane).closed (length_of road)) ahead key v

-- that `goes` says whether the vehicle of a key changes to the other lane in this step, given its gap ahead, whatever
-- vehicle or closed cells ahead make that gap; nothing is said where no car is under the key
abbrev pub DecidesAt : Yard → Road → ℕ → ℕ → ℕ → ℕ → Bool → Type 0
DecidesAt y road lane step gap key goes =
    (v : Vehicle) (closed : List Bool) (ahead : Option ℕ) → vehicle_with y key ≡ Some v
    → gap ≡ change_gap_ahead closed ahead (cell_at y key) → goes ≡ decision_of y road lane step closed ahead key v
