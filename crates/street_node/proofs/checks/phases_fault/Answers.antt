use Rattle.std.proofs.Common.{◌∙◌, ap, sym, arith}
use Rattle.street_base.specs.Prelude.{is_bad_phase}
use Rattle.street_net.proofs.FirstBad.{first_bad-here, first_bad-none}
use Rattle.street_node.proofs.checks.phases_fault.Goals as goal

pub returns-then-is_bad_phase : goal.returns-then-is_bad_phase
returns-then-is_bad_phase c =
    sym (first_bad-here (is_bad_phase c.args.net.now c.args.node) c.args.phases.now c.loop-at.at c.index-phases-at.result c.loop-at-test.true c.loop-at.invariant
    (ap (is_bad_phase c.args.net.now c.args.node c.loop-at.at) (sym c.index-phases-at.is) ∙ sym c.is_bad_phase.ensures ∙ c.if-is_bad_phase.true))

pub returns : goal.returns
returns c = sym (first_bad-none (is_bad_phase c.args.net.now c.args.node) c.args.phases.now (λ k d l. c.loop-at.invariant k d (omega (arith, c.loop-at-test.false))))
