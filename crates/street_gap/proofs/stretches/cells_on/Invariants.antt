use Rattle.std.proofs.Common.{◌≡◌, take}
use Rattle.street_gap.specs.Prelude.{closed_count}
use Rattle.street_gap.proofs.stretches.cells_on.Given as goal

-- the cells of the stretches so far
abbrev pub invariant-loop-stretch : goal.invariant-loop-stretch
invariant-loop-stretch l = l.cells ≡ closed_count (take l.stretch-index l.stretches)
