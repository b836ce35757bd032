use Rattle.std.proofs.Common.{refl, arith}
use Rattle.street_yard.specs.declared.hot.Hot.{Hot}
use Rattle.street_yard.proofs.Zipped.{near-below, near-written}
use Rattle.street_yard.proofs.tables.Hots.set_motion.Goals as goal

pub index_mut-near-requires : goal.index_mut-near-requires
index_mut-near-requires c = let lt = near-below c.self.inside.near.items c.self.inside.aheads.items c.self.inside.steps.items c.args.self.now c.self.invariant c.self.view_is c.args.key c.requires in omega arith

pub returns : goal.returns
returns c = rw c.key.view_is (near-written c.self.inside.near.items c.self.inside.aheads.items c.self.inside.steps.items c.args.self.now c.self.invariant c.self.view_is c.args.key c.requires c.index_mut-near.result.now _ (λ (h : Hot). record h { cell = c.args.cell; speed = c.args.speed }) (rw (← c.key.view_is) c.index_mut-near.ensures.value) (λ a s. refl))
