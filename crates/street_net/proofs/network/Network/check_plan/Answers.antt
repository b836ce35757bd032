use Rattle.std.proofs.Common.{sym, ◌∙◌}
use Rattle.street_net.proofs.PlanRefusal.{not-refused}
use Rattle.street_net.proofs.network.Network.check_plan.Goals as goal

pub links_of-requires : goal.links_of-requires
links_of-requires c = not-refused _ _ (sym c.plan_refusal.ensures ∙ c.in-None.is)
