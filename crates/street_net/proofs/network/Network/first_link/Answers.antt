use Rattle.std.proofs.Common.{◌≡◌, ◌+◌, ◌-◌, ◌<◌, length, get_or, ◌∙◌, ap, arith, rules}
use Rattle.street_base.specs.Prelude.{link_of, is_bad_entry}
use Rattle.street_net.proofs.FirstBad.{NoneBad-more}
use Rattle.street_net.proofs.PlanRefusal.{whole-none, whole-at}
use Rattle.street_net.proofs.network.Network.first_link.Goals as goal

pub returns-in-None-clause-fault : goal.returns-in-None-clause-fault
returns-in-None-clause-fault c = whole-at c.args.self.now c.args.plan.now (omega arith) c.loop-at.at (omega arith) c.loop-at.invariant.none_bad c.in-None.ensures.entry

pub loop-at-preserved : goal.loop-at-preserved
loop-at-preserved c =
    let net = c.args.self.now in
    let plan = c.args.plan.now in
    let within : c.loop-at.at < length plan = omega arith in
    let here : c.loop-at.at + 1 - 1 ≡ c.loop-at.at = omega arith in
    record {
      later = omega arith;
      before = ap (λ k. link_of net (get_or plan k 0)) here ∙ c.in-Some-later_link.ensures.link;
      is_link = c.in-Some-later_link.ensures.is_link;
      none_bad = NoneBad-more (is_bad_entry net plan) plan c.loop-at.at 0 within c.loop-at.invariant.none_bad c.in-Some-later_link.ensures.entry;
    }

pub returns-clause-faultless : goal.returns-clause-faultless
returns-clause-faultless c =
    let some : 0 < length c.args.plan.now = search rules in
    whole-none c.args.self.now c.args.plan.now some (λ k d low. c.loop-at.invariant.none_bad k d (omega arith))
