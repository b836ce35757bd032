-- Closed cells, before and after a change.
use Rattle.std.specs.Prelude.{◌≡◌, ℕ, List, Bool, if◌then◌else◌}
use Rattle.street_gap.specs.declared.closures.Stretch.{Stretch}
use Rattle.street_gap.specs.Prelude.{is_between, is_in}

-- that the cells from `first` to `last`, both with them, are closed in the stretches `new`, or open where `closed` is
-- false, and every other cell is as in `old`
abbrev pub Marks : Bool → ℕ → ℕ → List Stretch → List Stretch → Type 0
Marks closed first last old new = (x : ℕ) → is_in new x ≡ (if is_between first last x then closed else is_in old x)
