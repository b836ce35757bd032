use Rattle.street_tile.proofs.MovedHandOvers.{IsMovedUpTo}
use Rattle.street_tile.specs.Prelude.{KeepsHints}
use Rattle.street_tile.proofs.hand_over.move_all.Given as goal

abbrev pub invariant-loop-i : goal.invariant-loop-i
invariant-loop-i l = record { moved : IsMovedUpTo l.fn.tiles l.i l.tiles; hints : KeepsHints l.fn.hints l.hints }
