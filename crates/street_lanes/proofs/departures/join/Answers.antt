use Rattle.std.proofs.Common.{arith}
use Rattle.street_lanes.proofs.Joins.{at-listed, joins}
use Rattle.street_lanes.proofs.departures.join.Goals as goal

pub insert_behind-requires-clause-at : goal.insert_behind-requires-clause-at
insert_behind-requires-clause-at c = at-listed c.args.yard.now c.admit_reserved-key.new.self c.args.list.0 c.admit_reserved-key.result c.args.car c.place_for-at.result c.admit_reserved-key.ensures.was_whole c.admit_reserved-key.ensures.was_vacant c.admit_reserved-key.ensures.updates c.place_for-at.ensures

pub returns : goal.returns
returns c = joins c.args.yard.now c.admit_reserved-key.new.self c.insert_behind.new.self c.args.list.0 c.admit_reserved-key.result c.args.car c.place_for-at.result c.admit_reserved-key.ensures.was_whole c.requires.list (c.requires.short, omega arith) c.place_for-at.ensures c.admit_reserved-key.ensures.was_vacant c.admit_reserved-key.ensures.updates c.admit_reserved-key.ensures.lists c.admit_reserved-key.ensures.room c.insert_behind.ensures.after
