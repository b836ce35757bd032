use Rattle.std.proofs.Common.{◌≡◌, None, replicate}
use Rattle.street_tile.proofs.cut.nones.Given as goal

abbrev pub invariant-loop-none : goal.invariant-loop-none
invariant-loop-none g l = l.nones.items ≡ replicate l._none None
