use Rattle.std.proofs.Common.{IsSome, sym, subst, refl}
use Rattle.street_yard.proofs.YardLemmas.{head-on}
use Rattle.street_lanes.proofs.FirstOfList.{departs}
use Rattle.street_lanes.proofs.first_cell.depart.Goals as goal

pub unlink-requires : goal.unlink-requires
unlink-requires c = subst IsSome (sym (head-on c.args.yard.now c.args.waiting.0 c.args.first c.whole.ensures c.requires.first)) refl

pub returns : goal.returns
returns c car is = departs c.args.yard.now c.unlink.new.self c.set_motion.new.self c.push_back.new.self c.args.waiting.0 c.args.cells.0 c.args.first c.unlink.result.0 car c.whole.ensures c.requires.list c.requires.apart c.requires.first is c.unlink.ensures.list c.unlink.ensures.after c.unlink.ensures.whole c.set_motion.ensures.after c.push_back.ensures.after
