use Rattle.std.proofs.Common.{◌≡◌, subst, ap, sym, ◌∙◌, Some, None, refl}
use Rattle.street_base.specs.declared.net.NetSpec.{NetSpec}
use Rattle.street_base.specs.Prelude.{plan_links, entered}
use Rattle.street_net.specs.Prelude.{plan_refusal}
use Rattle.street_net.proofs.PlanRefusal.{taken}
use Rattle.street_engine.specs.Prelude.{StreetsStandFor}
use Rattle.street_engine.proofs.EnterCommand.{enter-refused, enter-starved, enter-done}
use Rattle.street_engine.proofs.vehicle_commands.enter.Goals as goal

pub returns-in-Err-clause-serves : goal.returns-in-Err-clause-serves
returns-in-Err-clause-serves c = enter-refused c.args.streets.now c.args.plan.now c.args.lane c.args.depart c.args.size (Some c.in-Err.refusal) c.in-Err.ensures.refused c.in-Err.refusal refl

pub links_of-requires : goal.links_of-requires
links_of-requires c = (taken c.network.result.now c.args.plan.now c.args.lane
    (subst (λ (net : NetSpec). plan_refusal net c.args.plan.now c.args.lane ≡ None) (sym c.network.ensures) c.in-Ok.ensures.planned)).0

pub returns-in_default-clause-serves : goal.returns-in_default-clause-serves
returns-in_default-clause-serves c = enter-starved c.args.streets.now c.args.plan.now c.args.lane c.args.depart c.args.size None c.in-Ok.ensures.taken refl _ (λ m stands. stands)

pub returns-in-Err-admit-clause-serves : goal.returns-in-Err-admit-clause-serves
returns-in-Err-admit-clause-serves c = enter-starved c.args.streets.now c.args.plan.now c.args.lane c.args.depart c.args.size None c.in-Ok.ensures.taken refl _ c.in-Err-admit.ensures.starved

pub returns-in-Ok-admit-clause-serves : goal.returns-in-Ok-admit-clause-serves
returns-in-Ok-admit-clause-serves c =
    let now = c.admit.new.self in
    let plan = c.args.plan.now in
    let entry = c.in-Ok.entry in
    let is = c.in-Ok.ensures.entry in
    let links = c.in-Ok-links_of.ensures.links ∙ ap (λ (net : NetSpec). plan_links net plan) c.network.ensures in
    enter-done c.args.streets.now plan c.args.lane c.args.depart c.args.size None c.in-Ok.ensures.taken refl now _ (c.from-car.ensures ∙ c.admitted.ensures.count)
    (λ m stands. subst (λ lane. StreetsStandFor now (entered m plan lane c.args.depart c.args.size)) is.0
    (subst (λ depart. StreetsStandFor now (entered m plan entry.lane depart c.args.size)) is.1
    (subst (λ size. StreetsStandFor now (entered m plan entry.lane entry.depart size)) is.2 (c.in-Ok-admit.ensures.waits plan links m stands))))
