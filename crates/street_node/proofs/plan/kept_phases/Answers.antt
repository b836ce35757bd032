use Rattle.street_node.proofs.plan.kept_phases.Goals as goal
use Rattle.std.proofs.Common.{◌≡◌, ◌<◌, ◌≤◌, ◌++◌, ◌∷◌, [], ◌∙◌, true, length, map, get_or, ap, subst, sym, arith, inl, inr}
use Rattle.std.specs.List.{list_all}
use Rattle.std.specs.List.Sorted.{IsPermutation}
use Rattle.std.proofs.lemmas.Bool.{cases_eq}
use Rattle.std.proofs.lemmas.List.{length-append, get_or_push, get_or_append_left, get_or_default}
use Rattle.street_base.specs.Prelude.{green_of, phase_of_spec, is_turn_to}
use Rattle.street_node.specs.Prelude.{green_seen, IsSamePhase}
use Rattle.street_base.specs.declared.command.PhaseSpec.{PhaseSpec}
use Rattle.street_node.proofs.KeptPlan.{good-phase}

pub green_turns-requires-clause-good : goal.green_turns-requires-clause-good
green_turns-requires-clause-good c =
    let good = good-phase c.args.net.now c.args.node c.args.phases.now c.requires.good c.loop-phase.phase-index c.phase-item.result c.loop-phase-test.true in
    rw c.as_slice.ensures (subst (λ (p : PhaseSpec). list_all (is_turn_to c.args.net.now c.args.node) p.greens ≡ true) (sym c.phase-item.is) good.greens)

pub overflow_cast-phase : goal.overflow_cast-phase
overflow_cast-phase c =
    let good = good-phase c.args.net.now c.args.node c.args.phases.now c.requires.good c.loop-phase.phase-index c.phase-item.result c.loop-phase-test.true in
    let short : c.phase-item.result.duration ≤ 600 = subst (λ (p : PhaseSpec). p.duration ≤ 600) (sym c.phase-item.is) good.short in
    omega (arith, short)

pub loop-phase-preserved : goal.loop-phase-preserved
loop-phase-preserved c =
    let net = c.args.net.now in
    let i = c.loop-phase.phase-index in
    let kept = c.loop-phase.kept.items in
    let pushed : c.push.new.self.items ≡ kept ++ c.new.result ∷ [] = c.in_ok-push.ensures.items in
    let item : c.phase-item.result ≡ get_or c.args.phases.now i c.phase-item.result = c.phase-item.is in
    let greens : map green_seen c.in_ok-greens.greens.items ≡ map (green_of net) (get_or c.args.phases.now i c.phase-item.result).greens =
    c.in_ok-greens.ensures ∙ ap (map (green_of net)) (c.as_slice.ensures ∙ ap (λ (p : PhaseSpec). p.greens) item) in
    let here : IsSamePhase c.new.result (phase_of_spec net (get_or c.args.phases.now i c.phase-item.result)) = record {
      duration = c.new.ensures.duration ∙ ap (λ (p : PhaseSpec). p.duration) item;
      greens = subst (λ gs. IsPermutation gs c.new.result.greens) greens c.new.ensures.greens;
    } in
    record {
      count = ap length pushed ∙ omega (arith, length-append kept (c.new.result ∷ []), c.loop-phase.invariant.count);
      same = λ k d e h. elim (cases_eq k i) as (λ _. IsSamePhase (get_or c.push.new.self.items k d) (phase_of_spec net (get_or c.args.phases.now k e))) [
        | inl last ↦ subst (λ n. IsSamePhase (get_or c.push.new.self.items n d) (phase_of_spec net (get_or c.args.phases.now n e))) (sym last)
            (subst (λ q. IsSamePhase q (phase_of_spec net (get_or c.args.phases.now i e))) (sym (ap (λ ps. get_or ps i d) pushed ∙ get_or_push kept c.new.result d i c.loop-phase.invariant.count))
            (subst (λ p. IsSamePhase c.new.result (phase_of_spec net p)) (get_or_default c.args.phases.now i c.phase-item.result e c.loop-phase-test.true) here))
        | inr before ↦ (
            let low : k < i = omega arith in
            subst (λ q. IsSamePhase q (phase_of_spec net (get_or c.args.phases.now k e))) (sym (ap (λ ps. get_or ps k d) pushed ∙ get_or_append_left kept (c.new.result ∷ []) d k (omega (arith, c.loop-phase.invariant.count)))) (c.loop-phase.invariant.same k d e low))
      ];
    }
