use Rattle.std.proofs.Common.{◌≡◌, ◌+◌, ◌%◌, ◌∙◌, refl, sym}
use Rattle.street_base.specs.declared.names.Place.{Place}
use Rattle.street_base.specs.Prelude.{cycle}
use Rattle.street_node.specs.Prelude.{shown, plan_seen}
use Rattle.street_node.proofs.Shown.{shown-at}
use Rattle.street_node.proofs.plan.SignalPlan.is_green.Goals as goal

pub returns : goal.returns
returns c =
    let place : Place = record { link = c.args.turn.now.link; lane = c.args.turn.now.lane } in
    let next = c.args.turn.now.next in
    let phases = c.self.inside.phases.items in
    let time = (c.args.step + c.self.inside.offset) % cycle (plan_seen c.self.inside.offset phases) in
    let same : shown place next c.deref.result.now ((c.from.result + c.from-2.result) % c.from-3.result) ≡ shown place next phases time = rw (c.deref.ensures.value, c.from.ensures, c.from-2.ensures, c.from-3.ensures, c.self.invariant.cycle_is) refl in
    rw (← c.self.view_is) (c.phase_shows.ensures ∙ same ∙ sym (shown-at place next phases time))
