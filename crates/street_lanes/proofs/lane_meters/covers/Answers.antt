use Rattle.std.proofs.Common.{IsSome, refl, sym, ap, subst, arith, unwrap_or}
use Rattle.street_yard.proofs.YardLemmas.{on_has_entry, cell_reads}
use Rattle.street_lanes.proofs.ListWalk.{walk-on, walk-smaller}
use Rattle.street_lanes.proofs.Down.{down-start, down-step, down-found, down-none, down-end}
use Rattle.street_lanes.proofs.lane_meters.covers.Goals as goal

pub loop-cursor-init : goal.loop-cursor-init
loop-cursor-init c = down-start c.args.yard.now c.args.cells.0 c.args.cell _ c.list_front-cursor.ensures.front

pub cell-requires : goal.cell-requires
cell-requires c = on_has_entry c.args.yard.now c.in-Some.key c.args.cells.0 (walk-on c.in-Some.key c.list_front-cursor.ensures.whole c.loop-cursor.invariant.walk c.in-Some.is)

pub rear-requires : goal.rear-requires
rear-requires c = on_has_entry c.args.yard.now c.in-Some.key c.args.cells.0 (walk-on c.in-Some.key c.list_front-cursor.ensures.whole c.loop-cursor.invariant.walk c.in-Some.is)

pub behind-cursor-requires : goal.behind-cursor-requires
behind-cursor-requires c = subst IsSome (sym (walk-on c.in-Some.key c.list_front-cursor.ensures.whole c.loop-cursor.invariant.walk c.in-Some.is)) refl

pub loop-cursor-smaller : goal.loop-cursor-smaller
loop-cursor-smaller c = walk-smaller c.in-Some.key c.list_front-cursor.ensures.whole c.loop-cursor.invariant.walk c.in-Some.is _ c.behind-cursor.ensures.behind

pub loop-cursor-preserved : goal.loop-cursor-preserved
loop-cursor-preserved c =
    let reads = ap (λ o. unwrap_or o 0) c.rear.ensures in
    let over = c.if-rear-cell.false in
    down-step c.args.yard.now c.args.cells.0 c.args.cell _ c.in-Some.key c.list_front-cursor.ensures.whole c.loop-cursor.invariant c.in-Some.is _ c.behind-cursor.ensures.behind (omega arith)

pub returns-then-cell : goal.returns-then-cell
returns-then-cell c = λ count lane.
    let reads = cell_reads c.args.yard.now c.in-Some.key c.cell.result c.cell.ensures in
    let under = c.if-cell.true in
    sym (down-none c.args.yard.now c.args.cells.0 c.args.cell _ c.in-Some.key c.list_front-cursor.ensures.whole c.loop-cursor.invariant c.in-Some.is count lane (omega arith))

pub returns-then-rear-cell : goal.returns-then-rear-cell
returns-then-rear-cell c = λ count lane.
    let reads = cell_reads c.args.yard.now c.in-Some.key c.cell.result c.cell.ensures in
    let rear_reads = ap (λ o. unwrap_or o 0) c.rear.ensures in
    let over = c.if-cell.false in
    let reach = c.if-rear-cell.true in
    sym (down-found c.args.yard.now c.args.cells.0 c.args.cell _ c.in-Some.key c.list_front-cursor.ensures.whole c.loop-cursor.invariant c.in-Some.is count lane (omega arith) (omega arith))

pub returns : goal.returns
returns c = down-end c.args.yard.now c.args.cells.0 c.args.cell _ c.list_front-cursor.ensures.whole c.loop-cursor.invariant c.in_default.is
