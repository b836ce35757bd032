use Rattle.std.proofs.Common.{◌≡◌, ◌∙◌, None, get_or, ap, refl, sym, arith}
use Rattle.std.proofs.lemmas.Result.{err_from_is_err_and}
use Rattle.street_base.specs.declared.net.NodeSpec.{NodeSpec}
use Rattle.street_base.specs.Prelude.{signal_fault}
use Rattle.street_node.specs.Prelude.{node_id}
use Rattle.street_node.proofs.KeptPlan.{no-fault, told-sum, kept-cycle, kept-shows}
use Rattle.street_node.proofs.plan.SignalPlan.build.Goals as goal

abbrev no_node : NodeSpec
no_node = record { id = 0; residence = 0; capacity = 0 }

pub invariant_of-result : goal.invariant_of-result
invariant_of-result c =
    let parts = no-fault c.args.net.now _ c.args.offset c.args.phases.now (sym c.signal_fault.ensures ∙ c.in_default.is) in
    record {
      cycle_is = c.cycle_of-cycle.ensures.cycle ∙ sym (told-sum c.args.net.now c.args.phases.now) ∙ sym (kept-cycle c.args.net.now c.args.offset c.in_ok-phases.phases.items c.args.phases.now c.in_ok-phases.ensures.count c.in_ok-phases.ensures.same);
      within = omega (arith, parts.1, told-sum c.args.net.now c.args.phases.now, c.cycle_of-cycle.ensures.cycle);
    }

pub returns-clause-plan : goal.returns-clause-plan
returns-clause-plan c = kept-shows c.args.net.now c.args.offset c.in_ok-phases.phases.items c.args.phases.now c.in_ok-phases.ensures.count c.in_ok-phases.ensures.same

pub returns-in_err-phases-clause-fault : goal.returns-in_err-phases-clause-fault
returns-in_err-phases-clause-fault c =
    let p = err_from_is_err_and c.from_residual.result c.from_residual.ensures.1 in
    let id : (get_or c.as_slice.result.now c.position.result no_node).id ≡ node_id c.args.net.now c.args.node = rw (c.as_slice.ensures, c.spec.ensures.value, c.position.ensures) refl in
    let none : signal_fault c.args.net.now (node_id c.args.net.now c.args.node) c.args.offset c.args.phases.now ≡ None =
    sym (ap (λ i. signal_fault c.args.net.now i c.args.offset c.args.phases.now) id) ∙ sym c.signal_fault.ensures ∙ c.in_default.is in
    rw (p.1, p.2) none
