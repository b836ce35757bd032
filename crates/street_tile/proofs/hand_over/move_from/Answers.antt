use Rattle.std.proofs.Common.{◌≡◌, ℕ, ◌+◌, ◌-◌, ◌≤◌, List, ◌++◌, length, take, drop, get_or, ap, arith}
use Rattle.std.proofs.lemmas.List.{take_all, drop_all, get_or_default}
use Rattle.street_tile.specs.Prelude.{Transfer, TileView, IsMoved}
use Rattle.street_tile.proofs.BetweenPhases.{tiles-same}
use Rattle.street_tile.proofs.MovedHandOvers.{moved-start, moved-same, moved-lanes, moved-left, moved-awaits, moves-step}
use Rattle.street_tile.proofs.KeepsHints.{hints-none, hints-then}
use Rattle.street_tile.proofs.hand_over.move_from.Goals as goal

moved-all : (xs ys : List TileView) (i n : ℕ) (d : TileView) (es : List Transfer) → length (get_or xs i d).handed ≤ n → IsMoved i (get_or xs i d).handed es xs ys → IsMoved i (take n (get_or xs i d).handed) (drop n (get_or xs i d).handed ++ es) xs ys
moved-all xs ys i n d es all m = rw (take_all n (get_or xs i d).handed all, drop_all n (get_or xs i d).handed all) m

pub loop-k-init : goal.loop-k-init
loop-k-init c = record {
  hints = hints-none c.args.hints.now;
  moved = λ es d awaits.
      let same : length (get_or c.args.tiles.now c.args.i c.index-tiles-i.result).handed ≡ length (get_or c.args.tiles.now c.args.i d).handed = ap (λ (t : TileView). length t.handed) (get_or_default c.args.tiles.now c.args.i c.index-tiles-i.result d c.requires.inside) in
      moved-all c.args.tiles.now c.args.tiles.now c.args.i (c.hand_overs-count.result - 0) d es (omega (arith, c.hand_overs-count.ensures)) (moved-start c.args.tiles.now c.args.i d es c.requires.inside awaits);
}

pub move_one-requires-clause-tiles : goal.move_one-requires-clause-tiles
move_one-requires-clause-tiles c =
    let moved = c.loop-k.invariant.moved c.requires.awaits.0 c.index-tiles-i.result c.requires.awaits.1 in
    tiles-same c.args.net.now c.args.tiles.now c.loop-k.tiles (omega arith) (moved-same c.args.tiles.now c.loop-k.tiles c.args.i _ _ moved) c.requires.tiles

pub move_one-requires-clause-lanes : goal.move_one-requires-clause-lanes
move_one-requires-clause-lanes c =
    let moved = c.loop-k.invariant.moved c.requires.awaits.0 c.index-tiles-i.result c.requires.awaits.1 in
    moved-lanes c.args.net.now c.args.tiles.now c.loop-k.tiles c.args.i _ _ (omega arith) moved (moved-left c.args.net.now _ _ (c.requires.lanes c.args.i c.index-tiles-i.result c.requires.inside)) c.requires.lanes

pub move_one-requires-clause-awaits : goal.move_one-requires-clause-awaits
move_one-requires-clause-awaits c =
    let moved = c.loop-k.invariant.moved c.requires.awaits.0 c.index-tiles-i.result c.requires.awaits.1 in (
      drop (c.hand_overs-count.result - c.loop-k.k) (get_or c.args.tiles.now c.args.i c.index-tiles-i.result).handed ++ c.requires.awaits.0,
      moved-awaits c.args.tiles.now c.loop-k.tiles c.args.i (take (c.hand_overs-count.result - c.loop-k.k) (get_or c.args.tiles.now c.args.i c.index-tiles-i.result).handed) (drop (c.hand_overs-count.result - c.loop-k.k) (get_or c.args.tiles.now c.args.i c.index-tiles-i.result).handed ++ c.requires.awaits.0) (omega arith) moved,
    )

pub loop-k-preserved : goal.loop-k-preserved
loop-k-preserved c = record {
  hints = hints-then c.args.hints.now c.loop-k.hints c.move_one.new.hints c.loop-k.invariant.hints c.move_one.ensures.hints;
  moved = λ es d awaits.
      let xs = c.args.tiles.now in
      let n = c.hand_overs-count.result - (c.loop-k.k + 1) in
      let same : length (get_or xs c.args.i c.index-tiles-i.result).handed ≡ length (get_or xs c.args.i d).handed = ap (λ (t : TileView). length t.handed) (get_or_default xs c.args.i c.index-tiles-i.result d c.requires.inside) in
      let more : c.hand_overs-count.result - c.loop-k.k ≡ n + 1 = omega arith in
      let first : IsMoved c.args.i (take (n + 1) (get_or xs c.args.i d).handed) (drop (n + 1) (get_or xs c.args.i d).handed ++ es) xs c.loop-k.tiles = rw more at (c.loop-k.invariant.moved es d awaits) in
      moves-step xs c.loop-k.tiles c.move_one.new.tiles c.args.i n d es c.requires.inside (omega (arith, c.hand_overs-count.ensures)) (omega arith) first (λ left e fs d' is await. c.move_one.ensures.moved left e fs d' is await);
}

pub returns-clause-moved : goal.returns-clause-moved
returns-clause-moved c = λ es d awaits.
    let none : c.hand_overs-count.result - c.loop-k.k ≡ 0 = omega arith in
    rw none at (c.loop-k.invariant.moved es d awaits)
