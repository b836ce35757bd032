use Rattle.std.proofs.Common.{Some, ◌<◌, refl}
use Rattle.street_yard.proofs.YardLemmas.{left, on_has_entry, cell_reads}
use Rattle.street_rule.proofs.RelinkWalk.{IsRelink, IsRelink-start, IsRelink-on, IsRelink-up_to, IsRelink-stay, IsRelink-go}
use Rattle.street_rule.proofs.relinks.relink.Goals as goal
use Rattle.street_gap.proofs.Sights.{last_on}

pub loop-cursor-init : goal.loop-cursor-init
loop-cursor-init c = IsRelink-start c.args.yard.now c.args.from.0 c.args.to.0 c.list_front-cursor.result c.list_front-cursor.ensures.whole c.requires.falls c.list_front-cursor.ensures.front

pub behind-cursor-requires : goal.behind-cursor-requires
behind-cursor-requires c = rw (IsRelink-on c.args.yard.now c.loop-cursor.yard c.args.from.0 c.args.to.0 c.in-Some.key c.loop-cursor.position c.loop-cursor.cursor c.in-Some.is c.loop-cursor.invariant) refl

pub is_marked-requires : goal.is_marked-requires
is_marked-requires c = on_has_entry c.loop-cursor.yard c.in-Some.key c.args.from.0 (IsRelink-on c.args.yard.now c.loop-cursor.yard c.args.from.0 c.args.to.0 c.in-Some.key c.loop-cursor.position c.loop-cursor.cursor c.in-Some.is c.loop-cursor.invariant)

pub last_above-above-requires-clause-from : goal.last_above-above-requires-clause-from
last_above-above-requires-clause-from c = IsRelink-up_to c.args.yard.now c.loop-cursor.yard c.args.from.0 c.args.to.0 c.in-Some.key c.loop-cursor.position c.loop-cursor.cursor c.in-Some.is c.loop-cursor.invariant c.cell-cell.result (cell_reads c.loop-cursor.yard c.in-Some.key c.cell-cell.result c.cell-cell.ensures)

pub carry-requires-clause-key : goal.carry-requires-clause-key
carry-requires-clause-key c = IsRelink-on c.args.yard.now c.loop-cursor.yard c.args.from.0 c.args.to.0 c.in-Some.key c.loop-cursor.position c.loop-cursor.cursor c.in-Some.is c.loop-cursor.invariant

pub carry-requires-clause-position : goal.carry-requires-clause-position
carry-requires-clause-position c = last_on c.loop-cursor.yard c.args.to.0 c.last_above-above.ensures.up c.last_above-above.ensures.down c.last_above-above.result c.loop-cursor.invariant.others.whole c.last_above-above.ensures.split c.last_above-above.ensures.at_position

go : (c : goal.After-carry) → IsRelink c.args.yard.now c.carry.new.yard c.args.from.0 c.args.to.0 (Some c.in-Some.key) c.behind-cursor.result × (left c.carry.new.yard c.args.from.0 c.behind-cursor.result < left c.loop-cursor.yard c.args.from.0 c.loop-cursor.cursor)
go c = IsRelink-go c.args.yard.now c.loop-cursor.yard c.args.from.0 c.args.to.0 c.in-Some.key c.loop-cursor.position c.loop-cursor.cursor c.in-Some.is c.loop-cursor.invariant c.behind-cursor.result c.last_above-above.result c.cell-cell.result c.carry.new.yard c.requires.apart c.behind-cursor.ensures.behind c.if-is_marked.ensures (cell_reads c.loop-cursor.yard c.in-Some.key c.cell-cell.result c.cell-cell.ensures) c.last_above-above.ensures c.carry.ensures

pub loop-cursor-smaller-then-is_marked : goal.loop-cursor-smaller-then-is_marked
loop-cursor-smaller-then-is_marked c = (go c).1

pub loop-cursor-preserved-then-is_marked : goal.loop-cursor-preserved-then-is_marked
loop-cursor-preserved-then-is_marked c = (go c).0

pub loop-cursor-smaller : goal.loop-cursor-smaller
loop-cursor-smaller c = (IsRelink-stay c.args.yard.now c.loop-cursor.yard c.args.from.0 c.args.to.0 c.in-Some.key c.loop-cursor.position c.loop-cursor.cursor c.in-Some.is c.loop-cursor.invariant c.behind-cursor.result c.behind-cursor.ensures.behind c.if-is_marked.ensures).1

pub loop-cursor-preserved : goal.loop-cursor-preserved
loop-cursor-preserved c = (IsRelink-stay c.args.yard.now c.loop-cursor.yard c.args.from.0 c.args.to.0 c.in-Some.key c.loop-cursor.position c.loop-cursor.cursor c.in-Some.is c.loop-cursor.invariant c.behind-cursor.result c.behind-cursor.ensures.behind c.if-is_marked.ensures).0
