use Rattle.street_rule.proofs.Carries.{carries}
use Rattle.street_rule.proofs.relinks.carry.Goals as goal

pub returns : goal.returns
returns c = carries c.args.yard.now c.set_mark.new.self c.unlink.new.self c.insert_behind.new.self c.args.from.0 c.args.to.0 c.args.key c.unlink.result.0 c.args.position c.requires.from c.requires.to c.requires.apart c.requires.key c.set_mark.ensures c.unlink.ensures.list c.unlink.ensures.after c.insert_behind.ensures.after c.insert_behind.ensures.whole
