use Rattle.std.proofs.Common.{◌<◌, refl, subst}
use Rattle.street_yard.proofs.YardLemmas.{left, on_has_entry, cell_reads}
use Rattle.street_gap.proofs.Sights.{last_on}
use Rattle.street_gap.proofs.PositionSearch.{IsSeek, IsSeek-start, IsSeek-on, IsSeek-step, IsSeek-found}
use Rattle.street_gap.proofs.sight.last_above.Goals as goal

pub next_behind-cursor-requires-clause-ahead : goal.next_behind-cursor-requires-clause-ahead
next_behind-cursor-requires-clause-ahead c = last_on c.args.yard.now c.args.list.0 c.requires.from.up c.requires.from.down c.args.from c.whole.ensures c.requires.from.split c.requires.from.at_position

pub loop-cursor-init : goal.loop-cursor-init
loop-cursor-init c = IsSeek-start c.args.yard.now c.args.list.0 c.args.cell c.args.from c.next_behind-cursor.result c.whole.ensures c.requires.from c.next_behind-cursor.ensures.next

pub cell-here-requires : goal.cell-here-requires
cell-here-requires c = on_has_entry c.args.yard.now c.in-Some.key c.args.list.0 (IsSeek-on c.args.yard.now c.args.list.0 c.args.cell c.in-Some.key c.loop-cursor.above c.loop-cursor.cursor c.in-Some.is c.loop-cursor.invariant)

pub returns-then-here-cell : goal.returns-then-here-cell
returns-then-here-cell c = IsSeek-found c.args.yard.now c.args.list.0 c.args.cell c.in-Some.key c.loop-cursor.above c.loop-cursor.cursor c.in-Some.is c.loop-cursor.invariant c.cell-here.result (cell_reads c.args.yard.now c.in-Some.key c.cell-here.result c.cell-here.ensures) c.if-here-cell.true

pub behind-cursor-requires : goal.behind-cursor-requires
behind-cursor-requires c = rw (IsSeek-on c.args.yard.now c.args.list.0 c.args.cell c.in-Some.key c.loop-cursor.above c.loop-cursor.cursor c.in-Some.is c.loop-cursor.invariant) refl

step : (c : goal.After-behind-cursor) → IsSeek c.args.yard.now c.args.list.0 c.args.cell c.loop-cursor.cursor c.behind-cursor.result × (left c.args.yard.now c.args.list.0 c.behind-cursor.result < left c.args.yard.now c.args.list.0 c.loop-cursor.cursor)
step c = IsSeek-step c.args.yard.now c.args.list.0 c.args.cell c.in-Some.key c.loop-cursor.above c.loop-cursor.cursor c.in-Some.is c.loop-cursor.invariant c.behind-cursor.result c.cell-here.result (cell_reads c.args.yard.now c.in-Some.key c.cell-here.result c.cell-here.ensures) c.if-here-cell.false c.behind-cursor.ensures.behind

pub loop-cursor-smaller : goal.loop-cursor-smaller
loop-cursor-smaller c = (step c).1

pub loop-cursor-preserved : goal.loop-cursor-preserved
loop-cursor-preserved c = subst (λ o. IsSeek c.args.yard.now c.args.list.0 c.args.cell o c.behind-cursor.result) c.in-Some.is (step c).0
