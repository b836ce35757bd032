use Rattle.std.proofs.Common.{◌<◌, List, length, sym, subst, Option, Some}
use Rattle.street_tile.specs.Prelude.{Transfer}
use Rattle.street_tile.proofs.Slots.{bit-there, marked-put}
use Rattle.street_tile.proofs.hand_over.Comers.put.Goals as goal

pub add-requires : goal.add-requires
add-requires c = bit-there c.self.inside.by_lane.items c.self.inside.full c.self.invariant c.args.n (subst (λ (cs : List (Option Transfer)). c.args.n < length cs) (sym c.self.view_is) c.requires)

pub invariant_of-self : goal.invariant_of-self
invariant_of-self c = rw c.add.ensures (marked-put c.self.inside.by_lane.items c.self.inside.full c.self.invariant c.args.n (subst (λ (cs : List (Option Transfer)). c.args.n < length cs) (sym c.self.view_is) c.requires) (Some c.args.hand_over))
