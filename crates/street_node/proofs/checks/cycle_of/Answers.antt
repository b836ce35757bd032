use Rattle.std.proofs.Common.{◌≡◌, get_or, ap, sym, arith}
use Rattle.std.proofs.lemmas.List.Sums.{sum_by_more}
use Rattle.street_base.specs.declared.command.PhaseSpec.{PhaseSpec}
use Rattle.street_node.proofs.KeptPlan.{good-phase, few-phases}
use Rattle.street_node.proofs.checks.cycle_of.Goals as goal

pub overflow_add-cycle : goal.overflow_add-cycle
overflow_add-cycle c =
    let good = good-phase c.args.net.now c.args.node c.args.phases.now c.requires c.loop-phase.phase-index c.phase-item.result c.loop-phase-test.true in
    let is : c.phase-item.result.duration ≡ (get_or c.args.phases.now c.loop-phase.phase-index c.phase-item.result).duration = ap (λ (p : PhaseSpec). p.duration) c.phase-item.is in
    omega (arith, good.short, good.early, c.loop-phase.invariant.small)

pub loop-phase-preserved : goal.loop-phase-preserved
loop-phase-preserved c =
    let good = good-phase c.args.net.now c.args.node c.args.phases.now c.requires c.loop-phase.phase-index c.phase-item.result c.loop-phase-test.true in
    let is : c.phase-item.result.duration ≡ (get_or c.args.phases.now c.loop-phase.phase-index c.phase-item.result).duration = ap (λ (p : PhaseSpec). p.duration) c.phase-item.is in
    let more = sum_by_more (λ (p : PhaseSpec). p.duration) c.args.phases.now c.loop-phase.phase-index c.phase-item.result c.loop-phase-test.true in
    record {
      cycle = rw (c.loop-phase.invariant.cycle, is) (sym more);
      small = omega (arith, good.short, c.loop-phase.invariant.small);
    }

pub returns-clause-few : goal.returns-clause-few
returns-clause-few c = few-phases c.args.net.now c.args.node c.args.phases.now c.requires
