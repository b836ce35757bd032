use Rattle.std.proofs.Common.{◌-◌, ◌++◌, List, get_or, take, drop, All}
use Rattle.street_tile.specs.Prelude.{Transfer, TileView, Awaits, IsMoved, KeepsHints}
use Rattle.street_tile.proofs.hand_over.move_from.Given as goal

abbrev pub invariant-loop-k : goal.invariant-loop-k
invariant-loop-k l = record {
  moved : (es : List Transfer) (d : TileView) → All (Awaits es) l.fn.tiles → IsMoved l.i (take (l.count - l.k) (get_or l.fn.tiles l.i d).handed) (drop (l.count - l.k) (get_or l.fn.tiles l.i d).handed ++ es) l.fn.tiles l.tiles;
  hints : KeepsHints l.fn.hints l.hints;
}
