-- What a driver decides, from what the code has looked up.
use Rattle.std.proofs.Common.{◌≡◌, ℕ, zero, suc, ◌+◌, ◌-◌, ◌<◌, ◌≤◌, Bool, false, List, [], ◌∷◌, ◌++◌, IsSome, Option, Some, None, refl, sym, ap, subst, ◌∙◌, arith, inl, inr, MatchOption, ◌&&◌, not, option_map}
use Rattle.std.specs.List.{list_all, range_with_len}
use Rattle.std.proofs.lemmas.List.{append_assoc}
use Rattle.street_base.specs.declared.car.Car.{Car}
use Rattle.street_base.specs.Prelude.{Vehicle, vehicle_of, next_link, Track, is_closed, Changing}
use Rattle.street_yard.specs.Prelude.{YardEntry, Yard, list_at, entry_at, car_of, first_or, last_or, IsWhole, cell_at, rear_at, vehicle_with, IsFalling, AllAbove}
use Rattle.street_yard.proofs.Keys.{snoc_cases, last_or-push}
use Rattle.street_yard.proofs.YardLemmas.{cell_is, some_car}
use Rattle.street_yard.proofs.FallingLists.{falling-split}
use Rattle.street_gap.specs.Prelude.{is_in, closed_marks, entrance_after, are_open, IsWithin, lesser, IsUpTo, IsPosition}
use Rattle.street_gap.proofs.Sights.{AllAbove-last}
use Rattle.street_gap.specs.declared.closures.Stretch.{Stretch}
use Rattle.street_gap.proofs.Marks.{closed_marks-length, closed_marks-at}
use Rattle.street_rule.specs.Prelude.{RoadLane, IsRoadLane, track_of, change_gap_to, change_gap_ahead, has_room, has_room_between, IsNear, wishes_with, decision}
use Rattle.street_rule.proofs.ChangeSights.{room-is, no-room-near}

-- the vehicles below the last above fall from the cell on
under : (y : Yard) (count cell : ℕ) (up down : List ℕ) → IsFalling (cell_at y) count (up ++ down) → MatchOption (first_or down None) (Unit {0}) (λ k. cell_at y k ≤ cell) → IsFalling (cell_at y) (cell + 1) down
under y count cell up [] f b = tt
under y count cell up (d ∷ down) f b = (let h : cell_at y d ≤ cell = b in let r = falling-split (cell_at y) count up d down f in ((let g : cell_at y d < cell + 1 = omega arith in g), r.2))

-- closed cells by stretches and by marks
open-marks : (closed : List Stretch) (count low n : ℕ) → IsWithin closed count → list_all (λ z. not (is_in closed z)) (range_with_len low n) ≡ list_all (λ z. not (is_closed (closed_marks closed count) z)) (range_with_len low n)
open-marks closed count low zero within = refl
open-marks closed count low (suc n) within = rw (closed_marks-at closed count low within, open-marks closed count (low + 1) n within) refl

-- whether there is room beside cells, by the last key above the front's cell there and the key behind it
pub room-beside : (y : Yard) (count : ℕ) (lane : RoadLane) (cell rear speed : ℕ) (above : Option ℕ) → IsWhole y → IsRoadLane y count lane → (p : IsPosition y lane.list cell above) → rear ≤ cell
    → has_room_between (closed_marks lane.closed count) (are_open lane.closed rear cell) (option_map (rear_at y) above) (option_map (cell_at y) (first_or p.down None)) cell rear speed ≡ has_room (track_of y count lane) cell rear speed
room-beside y count lane cell rear speed above whole ok p low =
    ap (λ o. has_room_between (closed_marks lane.closed count) (are_open lane.closed rear cell) (option_map (rear_at y) o) (option_map (cell_at y) (first_or p.down None)) cell rear speed) p.at_position
    ∙ room-is y lane.list count whole ok.stands p.up p.down p.split cell p.above (under y count cell p.up p.down (subst (IsFalling (cell_at y) count) p.split ok.stands.falls) p.below)
    (closed_marks lane.closed count) (closed_marks-length lane.closed count) rear speed low (are_open lane.closed rear cell) (open-marks lane.closed count rear (cell + 1 - rear) ok.within)

-- the gap up to the obstacle ahead, and the room beside, on a lane of the road
pub gap-by : (count : ℕ) (lane seen : RoadLane) (ahead obstacle : Option ℕ) (cell : ℕ) → seen ≡ lane → IsWithin lane.closed count
    → ((n : ℕ) → IsWithin seen.closed n → obstacle ≡ lesser ahead (entrance_after (closed_marks seen.closed n) cell)) → change_gap_to obstacle cell ≡ change_gap_ahead (closed_marks lane.closed count) ahead cell
gap-by count lane seen ahead obstacle cell same within is =
    ap (λ o. change_gap_to o cell) (is count (subst (λ (l : RoadLane). IsWithin l.closed count) (sym same) within)) ∙ ap (λ (l : RoadLane). change_gap_ahead (closed_marks l.closed count) ahead cell) same

pub room-by : (y : Yard) (count : ℕ) (lane seen : RoadLane) (cell rear speed : ℕ) (r : Bool) → seen ≡ lane → IsRoadLane y count lane
    → ((n : ℕ) → IsRoadLane y n seen → r ≡ has_room (track_of y n seen) cell rear speed) → r ≡ has_room (track_of y count lane) cell rear speed
room-by y count lane seen cell rear speed r same ok is =
    is count (subst (IsRoadLane y count) (sym same) ok) ∙ ap (λ l. has_room (track_of y count l) cell rear speed) same

-- there is no room where the key from which on to look stands near
pub shut-by : (y : Yard) (count : ℕ) (lane : RoadLane) (cell rear speed : ℕ) (above : Option ℕ) → IsWhole y → IsRoadLane y count lane → IsUpTo y lane.list cell above → rear ≤ cell → IsNear y above cell speed → has_room (track_of y count lane) cell rear speed ≡ false
shut-by y count lane cell rear speed above whole ok p low near = elim (snoc_cases p.up) as (λ _. has_room (track_of y count lane) cell rear speed ≡ false) [
  | inl e ↦ absurd (let bad : ◌≡◌ {A = Option ℕ} None (Some near.0) = sym (p.at_position ∙ ap (λ l. last_or l None) e) ∙ near.1 in cc)
  | inr s ↦ (
      let both : ◌≡◌ {A = Option ℕ} (Some s.1) (Some near.0) = sym (p.at_position ∙ ap (λ l. last_or l None) s.2 ∙ last_or-push s.0 s.1 None) ∙ near.1 in
      let same : near.0 ≡ s.1 = cc in
      let parts : list_at y lane.list ≡ s.0 ++ s.1 ∷ p.down = p.split ∙ ap (λ l. l ++ p.down) s.2 ∙ append_assoc s.0 (s.1 ∷ []) p.down in
      let over : cell < cell_at y s.1 = AllAbove-last (cell_at y) cell s.0 s.1 [] (subst (AllAbove (cell_at y) cell) s.2 p.above) in
      no-room-near y lane.list count whole ok.stands s.0 s.1 p.down parts cell over (closed_marks lane.closed count) rear speed low (subst (λ k. rear_at y k ≤ cell + speed + 2) same near.2))
]

-- the car of an entry
pub its_car : (y : Yard) (key : ℕ) → IsSome (entry_at y key) → (car : Car) × (car_of y key ≡ Some car)
its_car y key h = some_car (entry_at y key) h

-- the same car
some-vehicle : (car : Car) (v : Vehicle) (o : Option Car) → o ≡ Some car → option_map vehicle_of o ≡ Some v → vehicle_of car ≡ v
some-vehicle car v o e f = (let s : ◌≡◌ {A = Option Vehicle} (Some (vehicle_of car)) (Some v) = sym (ap (option_map vehicle_of) e) ∙ f in cc)

-- what is read of a car apart from the rest
pub field-is : {A : Type 0} (get : Car → A) (car : Car) (o : Option Car) (n : A) → o ≡ Some car → option_map get o ≡ Some n → n ≡ get car
field-is {A = A} get car o n e f = (let s : ◌≡◌ {A = Option A} (Some n) (Some (get car)) = sym f ∙ ap (option_map get) e in cc)

-- the decision by its parts: the wish, and room with the draw
pub decided-by : (changing : Changing) (lane count : ℕ) (closed : List Bool) (ahead : Option ℕ) (other : Track) (y : Yard) (key : ℕ) (car : Car) (v : Vehicle) (cell tail speed gap : ℕ) (wish goes : Bool)
    → car_of y key ≡ Some car → vehicle_with y key ≡ Some v → cell ≡ car.cell → tail ≡ car.cell - (car.size - 1) → speed ≡ car.speed → gap ≡ change_gap_ahead closed ahead cell → wish ≡ wishes_with changing lane count gap cell speed (next_link (vehicle_of car))
    → goes ≡ (wish && (has_room other cell tail speed && changing.may_change car.number)) → goes ≡ decision changing lane count closed ahead other (cell_at y key) v
decided-by changing lane count closed ahead other y key car v cell tail speed gap wish goes is seen cell_here tail_here speed_here gap_is wish_is goes_is =
    goes_is
    ∙ ap (λ w. w && (has_room other cell tail speed && changing.may_change car.number)) (wish_is ∙ ap (λ g. wishes_with changing lane count g cell speed (next_link (vehicle_of car))) gap_is)
    ∙ ap (λ r. wishes_with changing lane count (change_gap_ahead closed ahead cell) cell speed (next_link (vehicle_of car)) && (has_room other cell r speed && changing.may_change car.number)) tail_here
    ∙ ap (λ x. wishes_with changing lane count (change_gap_ahead closed ahead x) x speed (next_link (vehicle_of car)) && (has_room other x (car.cell - (car.size - 1)) speed && changing.may_change car.number)) cell_here
    ∙ ap (λ s. wishes_with changing lane count (change_gap_ahead closed ahead car.cell) car.cell s (next_link (vehicle_of car)) && (has_room other car.cell (car.cell - (car.size - 1)) s && changing.may_change car.number)) speed_here
    ∙ ap (λ x. decision changing lane count closed ahead other x (vehicle_of car)) (sym (cell_is y key car is))
    ∙ ap (decision changing lane count closed ahead other (cell_at y key)) (some-vehicle car v (car_of y key) is seen)
