-- Worked rows: what a driver sees on both lanes, whether they wish to change and have room for it, reckoned by hand.
use Rattle.std.proofs.Common.{◌≡◌, ℕ, Bool, true, false, List, [], ◌∷◌, Option, Some, None, refl, ◌==◌}
use Rattle.street_base.specs.Prelude.{least, Changing}
use Rattle.street_gap.specs.declared.closures.Stretch.{Stretch}
use Rattle.street_gap.specs.Prelude.{closed_marks, are_open}
use Rattle.street_rule.specs.Prelude.{change_gap_ahead, wishes_with, has_room_between}

-- the marks of a lane of 20 cells with these closed
abbrev marks : List Stretch → List Bool
marks closed = closed_marks closed 20

-- one closed stretch
abbrev closed_from : ℕ → ℕ → List Stretch
closed_from first last = record { first = first; last = last } ∷ []

-- the gap ahead ends at a vehicle or an entrance, and is 16 where neither is in sight; cells 5 and 6 are closed, or none
pub gaps_with_open_cells : (change_gap_ahead (marks []) None 3 ≡ 16) × (change_gap_ahead (marks []) (Some 5) 3 ≡ 1)
unfolding closed_marks least
gaps_with_open_cells = (refl, refl)

pub gaps_before_an_entrance : (change_gap_ahead (marks (closed_from 5 6)) None 3 ≡ 1) × (change_gap_ahead (marks (closed_from 5 6)) (Some 4) 3 ≡ 0) × (change_gap_ahead (marks (closed_from 5 6)) (Some 9) 3 ≡ 1)
unfolding closed_marks least
gaps_before_an_entrance = (refl, refl, refl)

pub gap_within_a_closed_stretch : change_gap_ahead (marks (closed_from 5 6)) None 5 ≡ 16
unfolding closed_marks least
gap_within_a_closed_stretch = refl

-- whether there is room in cell x of a lane, and down to cell r, for a vehicle of this speed, with a rear in the cell `above` and a front in the cell `below`
abbrev long_room : List Stretch → Option ℕ → Option ℕ → ℕ → ℕ → ℕ → Bool
long_room closed above below x r speed = has_room_between (marks closed) (are_open closed r x) above below x r speed

-- the same for a vehicle of one cell
abbrev room : List Stretch → Option ℕ → Option ℕ → ℕ → ℕ → Bool
room closed above below x speed = long_room closed above below x x speed

-- nobody is in sight; 5 cells lie behind, and 6; the cell is taken
pub room_behind : (room [] None None 6 3 ≡ true) × (room [] None (Some 0) 6 3 ≡ false) × (room [] None (Some 3) 10 4 ≡ true) × (room [] None (Some 10) 10 4 ≡ false)
unfolding closed_marks least
room_behind = (refl, refl, refl, refl)

-- 4 cells lie ahead, and 5
pub room_ahead : (room [] (Some 9) None 4 3 ≡ false) × (room [] (Some 10) None 4 3 ≡ true)
unfolding closed_marks least
room_ahead = (refl, refl)

-- cell 5 is closed: so is the cell itself; 3 cells lie between cell 1 and the entrance
pub room_before_an_entrance : (room (closed_from 5 5) None None 5 2 ≡ false) × (room (closed_from 5 5) None None 1 2 ≡ false) × (room (closed_from 5 5) None None 1 1 ≡ true)
unfolding closed_marks least
room_before_an_entrance = (refl, refl, refl)

-- a vehicle of 3 cells: 5 and 6 cells behind its rear, somebody beside its tail, and a rear beside its front
pub room_for_three : (long_room [] None (Some 2) 10 8 2 ≡ false) × (long_room [] None (Some 1) 10 8 2 ≡ true) × (long_room [] None (Some 9) 10 8 2 ≡ false) × (long_room [] (Some 10) None 10 8 2 ≡ false)
unfolding closed_marks least
room_for_three = (refl, refl, refl, refl)

-- the cell beside its rear is closed, and the one behind that
pub tail_beside_closed : (long_room (closed_from 8 8) None None 10 8 2 ≡ false) × (long_room (closed_from 7 7) None None 10 8 2 ≡ true)
unfolding closed_marks least
tail_beside_closed = (refl, refl)

-- a turn zone of 10 cells, and lane 0 alone serves the next link
abbrev low_serves : Changing
low_serves = record { zone = 10; serves = λ lane next. lane == 0; may_change = λ number. true }

-- whether the vehicle in cell x of a link of 20 cells wants the other lane
abbrev wish : ℕ → ℕ → ℕ → ℕ → Option ℕ → Bool
wish lane gap x speed next = wishes_with low_serves lane 20 gap x speed next

-- slow before the zone, and fast
pub wish_before_the_zone : (wish 0 2 9 2 (Some 0) ≡ true) × (wish 0 3 9 2 (Some 0) ≡ false)
wish_before_the_zone = (refl, refl)

-- slow on the one lane that serves; fast on the lane that does not
pub wish_in_the_zone : (wish 0 2 10 2 (Some 0) ≡ false) × (wish 1 3 10 2 (Some 0) ≡ true)
wish_in_the_zone = (refl, refl)

-- slow on the last link, and fast
pub wish_on_the_last_link : (wish 0 2 10 2 None ≡ true) × (wish 1 3 10 2 None ≡ false)
wish_on_the_last_link = (refl, refl)
