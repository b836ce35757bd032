use Rattle.std.proofs.Common.{refl}
use Rattle.street_yard.specs.Prelude.{YardEntry}
use Rattle.street_yard.specs.Inside.{hot_at}
use Rattle.street_yard.proofs.Fields.{named_below, IsWhole-seen}
use Rattle.street_yard.proofs.Writes.{rewritten-sound, rewritten-seen}
use Rattle.street_yard.proofs.yard.Yard.set_motion.Goals as goal

pub set_motion-requires : goal.set_motion-requires
set_motion-requires c = named_below c.self.inside c.args.self.now c.args.key c.self.invariant c.self.view_is c.requires

pub invariant_of-self : goal.invariant_of-self
invariant_of-self c = rewritten-sound c.self.inside c.args.self.now c.args.key c.self.invariant c.self.view_is c.requires (c.args.cell, (hot_at c.self.inside.hots c.args.key).number, c.args.speed, (hot_at c.self.inside.hots c.args.key).step, (hot_at c.self.inside.hots c.args.key).mark, (hot_at c.self.inside.hots c.args.key).size) (λ (e : YardEntry). record e { car = record e.car { cell = c.args.cell; speed = c.args.speed } }) (λ list d. refl) c.set_motion.new.self c.set_motion.ensures

pub returns-clause-after : goal.returns-clause-after
returns-clause-after c = rewritten-seen c.self.inside c.args.self.now c.args.key c.self.invariant c.self.view_is c.requires (c.args.cell, (hot_at c.self.inside.hots c.args.key).number, c.args.speed, (hot_at c.self.inside.hots c.args.key).step, (hot_at c.self.inside.hots c.args.key).mark, (hot_at c.self.inside.hots c.args.key).size) (λ (e : YardEntry). record e { car = record e.car { cell = c.args.cell; speed = c.args.speed } }) (λ list d. refl) c.set_motion.new.self c.set_motion.ensures

pub returns-clause-whole : goal.returns-clause-whole
returns-clause-whole c = IsWhole-seen (record c.self.inside { hots = c.set_motion.new.self }) (invariant_of-self c)
