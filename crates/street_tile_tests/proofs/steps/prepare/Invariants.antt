use Rattle.std.proofs.Common.{◌≡◌, ℕ, ◌<◌, ◌≤◌, length, get_or}
use Rattle.street_tile.specs.Prelude.{KeepsAll, TileView, IsPrepared}
use Rattle.street_tile_tests.proofs.steps.prepare.Given as goal

abbrev pub invariant-loop-i : goal.invariant-loop-i
invariant-loop-i l = record {
  long : length l.tiles ≡ length l.fn.tiles;
  done : (k : ℕ) (d : TileView) → k < l.i → KeepsAll (get_or l.fn.tiles k d) (get_or l.tiles k d) × IsPrepared (get_or l.tiles k d);
  rest : (k : ℕ) (d : TileView) → l.i ≤ k → get_or l.tiles k d ≡ get_or l.fn.tiles k d;
}
