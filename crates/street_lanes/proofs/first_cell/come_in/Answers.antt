use Rattle.std.proofs.Common.{arith}
use Rattle.street_lanes.proofs.Joins.{enters}
use Rattle.street_lanes.proofs.first_cell.come_in.Goals as goal

pub returns : goal.returns
returns c = enters c.args.yard.now c.admit_reserved-key.new.self c.push_back.new.self c.args.cells.0 c.admit_reserved-key.result c.args.car c.admit_reserved-key.ensures.was_whole c.requires.list (c.requires.short, omega arith) c.admit_reserved-key.ensures.was_vacant c.admit_reserved-key.ensures.updates c.admit_reserved-key.ensures.lists c.admit_reserved-key.ensures.room c.push_back.ensures.after
