-- Lane changes of a link, on the lists that its lanes stand for.
use Rattle.std.specs.Prelude.{◌≡◌, ℕ, List, map, length, Some}
use Rattle.street_base.specs.Prelude.{Traffic, LaneState, changing_on, changed_lanes}
use Rattle.street_yard.specs.Prelude.{Yard, list_at, entry_at, car_of, list_on, Has, Away, IsWhole}
use Rattle.street_rule.specs.Road.{Road, tracks}

-- that the lists of a road stand for these lanes, lane by lane: as many lanes, with the same cells and closed marks; of
-- buffers and of who waits nothing is said
abbrev pub TracksStandFor : Yard → Road → List LaneState → Type 0
TracksStandFor y road lanes = tracks y road ≡ map (λ lane. lane.track) lanes

-- that, whatever lanes the road's old lists stood for, its new ones stand for these lanes after the lane changes of
-- this step by the road's network; lanes that are not two stay as they are
abbrev pub Changes : Yard → Yard → Road → ℕ → Type 0
Changes old new road step =
    (m : Traffic) (lanes : List LaneState) → m.network ≡ road.network → m.clock ≡ step
    → TracksStandFor old road lanes → TracksStandFor new road (changed_lanes (changing_on m road.link) lanes)

-- that key k is on none of these lists; true of a key on no list at all
abbrev pub IsOff : Yard → List ℕ → ℕ → Type 0
IsOff y lists k = (n : ℕ) → list_on y k ≡ Some n → Away n lists

-- that key k is on one of these lists
pub record IsOn (y : Yard) (lists : List ℕ) (k : ℕ) : Type 0 where
  pub list : ℕ
  pub among : Has lists list
  pub on : list_on y k ≡ Some list

-- that lane changes touched no more than the road's `lists`: all cars, all other lists and all keys not on these are as
-- before; who was on one of these is on one, its mark perhaps another; as many lists, as much room, and lists and
-- entries agree
pub record KeepsRest (old new : Yard) (lists : List ℕ) : Type 0 where
  pub others : (n : ℕ) → Away n lists → list_at new n ≡ list_at old n
  pub cars : (k : ℕ) → car_of new k ≡ car_of old k
  pub entries : (k : ℕ) → IsOff old lists k → entry_at new k ≡ entry_at old k
  pub stays : (k : ℕ) → IsOn old lists k → IsOn new lists k
  pub count : length new.lists ≡ length old.lists
  pub room : new.room ≡ old.room
  pub whole : IsWhole new
