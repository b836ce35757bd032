use Rattle.street_tile.proofs.PublishedView.{IsPublished}
use Rattle.street_tile.proofs.view.publish.Given as goal

abbrev pub invariant-loop-i : goal.invariant-loop-i
invariant-loop-i l = IsPublished l.net l.tiles l.i l.view
