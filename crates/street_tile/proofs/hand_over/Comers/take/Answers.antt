use Rattle.std.proofs.Common.{◌<◌, List, length, sym, subst, Option, None}
use Rattle.street_tile.specs.Prelude.{Transfer}
use Rattle.street_tile.proofs.Slots.{bit-there, marked-taken}
use Rattle.street_tile.proofs.hand_over.Comers.take.Goals as goal

pub remove-requires : goal.remove-requires
remove-requires c = bit-there c.self.inside.by_lane.items c.self.inside.full c.self.invariant c.args.n (subst (λ (cs : List (Option Transfer)). c.args.n < length cs) (sym c.self.view_is) c.requires)

pub invariant_of-self : goal.invariant_of-self
invariant_of-self c = rw (c.remove.ensures, c.take.ensures.after) (marked-taken c.self.inside.by_lane.items c.self.inside.full c.self.invariant c.args.n (subst (λ (cs : List (Option Transfer)). c.args.n < length cs) (sym c.self.view_is) c.requires))
