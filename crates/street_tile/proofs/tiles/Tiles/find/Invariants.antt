use Rattle.std.proofs.Common.{ℕ, ◌<◌}
use Rattle.street_tile.specs.Prelude.{TileHasNot}
use Rattle.street_tile.proofs.tiles.Tiles.find.Given as goal

abbrev pub invariant-loop-i : goal.invariant-loop-i
invariant-loop-i l = (k : ℕ) → k < l.i → TileHasNot l.self k l.number
