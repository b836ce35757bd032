use Rattle.std.proofs.Common.{◌≡◌}
use Rattle.street_tile.proofs.tiles.Tiles.take_on_link.Given as goal

abbrev pub invariant-loop-lane : goal.invariant-loop-lane
invariant-loop-lane l = l.self ≡ l.fn.self
