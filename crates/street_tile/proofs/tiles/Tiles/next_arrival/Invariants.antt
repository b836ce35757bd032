use Rattle.std.proofs.Common.{◌≡◌, ℕ, ◌<◌, [], get_or}
use Rattle.street_tile.specs.Prelude.{TileView}
use Rattle.street_tile.proofs.tiles.Tiles.next_arrival.Given as goal

abbrev pub invariant-loop-i : goal.invariant-loop-i
invariant-loop-i l = record {
  same : l.self ≡ l.fn.self;
  none : (k : ℕ) (d : TileView) → k < l.i → (get_or l.fn.self.tiles k d).arrived ≡ [];
}
