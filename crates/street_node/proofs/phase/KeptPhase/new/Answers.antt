use Rattle.std.proofs.Common.{rules, subst}
use Rattle.std.specs.Ordering.{is_lt}
use Rattle.std.proofs.lemmas.List.Sorted.{ranks_by, answers_always, IsPermutation-map}
use Rattle.street_node.specs.declared.phase.GreenTurn.{GreenTurn}
use Rattle.street_node.specs.Prelude.{turn_cmp, green_seen, HasMarks}
use Rattle.street_node.proofs.GreenSearch.{turns_total}
use Rattle.street_node.proofs.phase.KeptPhase.new.Goals as goal

pub invariant_of-result : goal.invariant_of-result
invariant_of-result c = record {
  ordered = c.sort_unstable_by.ensures.sorted (λ (a b : GreenTurn). is_lt (turn_cmp a b)) (ranks_by turns_total (λ (t : GreenTurn). t)) (answers_always _ _ _ (λ f a r g called. search rules));
  marked = subst (HasMarks c.marks_of-marks.result) c.deref.ensures.value c.marks_of-marks.ensures;
}

pub returns-clause-greens : goal.returns-clause-greens
returns-clause-greens c = IsPermutation-map green_seen c.args.greens.items c.sort_unstable_by.new.self.items c.sort_unstable_by.ensures.permutation
