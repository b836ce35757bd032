use Rattle.street_lanes.proofs.Sought.{takes-out}
use Rattle.street_lanes.proofs.search.take_out.Goals as goal

pub returns : goal.returns
returns c = takes-out c.args.yard.now c.unlink.new.self c.take.new.self c.args.key c.unlink.result.0 c.take.result c.unlink.ensures.was_whole c.unlink.ensures.list c.unlink.ensures.after c.unlink.ensures.whole c.take.ensures.car c.take.ensures.after
