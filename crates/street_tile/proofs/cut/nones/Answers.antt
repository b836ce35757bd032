use Rattle.std.specs.Prelude.{None}
use Rattle.std.proofs.lemmas.List.{replicate_more}
use Rattle.street_tile.proofs.cut.nones.Goals as goal

pub loop-none-preserved : goal.loop-none-preserved
loop-none-preserved g c = rw (c.in_ok-push.ensures.items, c.loop-none.invariant) (replicate_more c.loop-none._none None)
