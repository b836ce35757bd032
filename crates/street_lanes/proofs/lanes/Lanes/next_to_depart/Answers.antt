use Rattle.std.proofs.Common.{◌<◌, ◌≤◌, length, inl, inr, arith}
use Rattle.std.proofs.lemmas.Bool.{cases_lt}
use Rattle.street_lanes.specs.Prelude.{lane_of, StaysAt}
use Rattle.street_lanes.proofs.FirstDue.{nobody-stays}
use Rattle.street_lanes.proofs.lanes.Lanes.next_to_depart.Goals as goal

pub loop-n-init : goal.loop-n-init
loop-n-init c = record {
  not_before = c.next_filled-n.ensures.not_before;
  within = c.next_filled-n.ensures.within;
  passed = λ k low high. nobody-stays c.args.clock (lane_of c.args.self.now k) (c.next_filled-n.ensures.passed k low high);
}

pub loop-n-preserved : goal.loop-n-preserved
loop-n-preserved c =
    let next = c.next_filled-n-in-loop-n.ensures in
    let end = c.min-end.ensures in
    let count = c.len-in-loop-n.ensures.lanes in
    let more = c.group_end.ensures.later in
    record {
      not_before = omega (arith, c.loop-n.invariant.not_before, next.not_before, end, count, more, c.loop-n-test.true, c.len.ensures.lanes);
      within = next.within;
      passed = λ k low high. elim (cases_lt k c.loop-n.n) as (λ _. StaysAt c.args.clock (lane_of c.args.self.now k)) [
        | inl before ↦ c.loop-n.invariant.passed k low before
        | inr after ↦ elim (cases_lt k c.min-end.result) as (λ _. StaysAt c.args.clock (lane_of c.args.self.now k)) [
          | inl quiet ↦ c.is_quiet.ensures c.if-not-is_quiet.false k (c.group_end.ensures.same k after (omega (arith, quiet, end))) (omega (arith, high, next.within))
          | inr past ↦ nobody-stays c.args.clock (lane_of c.args.self.now k) (next.passed k past high)
        ]
      ];
    }
