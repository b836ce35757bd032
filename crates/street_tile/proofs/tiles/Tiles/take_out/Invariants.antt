use Rattle.std.proofs.Common.{◌≡◌, ℕ, ◌<◌}
use Rattle.street_tile.specs.Prelude.{TileHasNot}
use Rattle.street_tile.proofs.tiles.Tiles.take_out.Given as goal

abbrev pub invariant-loop-i : goal.invariant-loop-i
invariant-loop-i l = record {
  same : l.self ≡ l.fn.self;
  none : (k : ℕ) → k < l.i → TileHasNot l.fn.self k l.number;
}
