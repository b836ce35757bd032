use Rattle.std.proofs.Common.{sym}
use Rattle.street_lanes.proofs.FreeFirstCell.{last-held, shut-by-last, open-by-last, open-empty}
use Rattle.street_lanes.proofs.first_cell.is_open.Goals as goal
use Rattle.street_lanes.proofs.first_cell.is_open.Goals.{in_default-via-in-Some+else-rear-eq0, in_default-via-in_default}

pub rear-requires : goal.rear-requires
rear-requires c = last-held c.args.yard.now c.args.cells.0 c.in-Some.last c.in-Some.ensures.whole (sym c.in-Some.ensures.back)

pub returns-in-Some : goal.returns-in-Some
returns-in-Some c count some lane within = shut-by-last c.args.yard.now c.args.cells.0 c.in-Some.last count c.args.closures.now c.rear.result c.in-Some.ensures.whole lane (sym c.in-Some.ensures.back) c.rear.ensures c.if-rear-eq0.true

pub returns-in_default : goal.returns-in_default
returns-in_default c count some lane within =
    elim c.in_default.branch [
      | in_default-via-in-Some+else-rear-eq0 w ↦ open-by-last c.args.yard.now c.args.cells.0 w.in-Some.last count c.args.closures.now w.rear.result c.is_closed.result w.in-Some.ensures.whole lane within (sym w.in-Some.ensures.back) w.rear.ensures w.if-rear-eq0.false c.is_closed.ensures
      | in_default-via-in_default w ↦ open-empty c.args.yard.now c.args.cells.0 count c.args.closures.now c.is_closed.result w.in_default.ensures.whole lane within (sym w.in_default.ensures.back) c.is_closed.ensures
    ]
