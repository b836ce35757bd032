use Rattle.std.proofs.Common.{ℕ, ◌<◌, get_or}
use Rattle.street_tile.specs.Prelude.{TileView, IsPrepared, TilesKeep}
use Rattle.street_tile.proofs.tiles.Tiles.prepare.Given as goal

abbrev pub invariant-loop-i : goal.invariant-loop-i
invariant-loop-i l = record {
  kept : TilesKeep l.fn.self l.self;
  done : (k : ℕ) (d : TileView) → k < l.i → IsPrepared (get_or l.self.tiles k d);
}
