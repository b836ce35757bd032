use Rattle.std.proofs.Common.{◌∙◌, refl, sym, arith}
use Rattle.street_base.proofs.FaultLemmas.{link_of_below}
use Rattle.street_net.proofs.GoodLinks.{joined, good-link}
use Rattle.street_net.proofs.turns.by_position.Goals as goal

pub unwrap-link-requires : goal.unwrap-link-requires
unwrap-link-requires c = let good = joined c.args.spec.now c.args.turn.now c.requires.joins in rw (c.find_link.ensures ∙ good.link_is) refl

pub unwrap-next-requires : goal.unwrap-next-requires
unwrap-next-requires c = let good = joined c.args.spec.now c.args.turn.now c.requires.joins in rw (c.find_link-2.ensures ∙ good.next_is) refl

pub overflow_cast-link : goal.overflow_cast-link
overflow_cast-link c = omega (arith, link_of_below c.args.spec.now c.requires.faultless c.args.turn.now.link c.unwrap-link.result (sym c.unwrap-link.ensures ∙ c.find_link.ensures))

pub overflow_cast-next : goal.overflow_cast-next
overflow_cast-next c = omega (arith, link_of_below c.args.spec.now c.requires.faultless c.args.turn.now.next c.unwrap-next.result (sym c.unwrap-next.ensures ∙ c.find_link-2.ensures))

pub overflow_cast-result : goal.overflow_cast-result
overflow_cast-result c =
    let good = joined c.args.spec.now c.args.turn.now c.requires.joins in
    let few = (good-link c.args.spec.now c.requires.faultless good.link good.link_in).few_lanes in
    omega (arith, good.lane_in)

pub overflow_cast-result-2 : goal.overflow_cast-result-2
overflow_cast-result-2 c =
    let good = joined c.args.spec.now c.args.turn.now c.requires.joins in
    let few = (good-link c.args.spec.now c.requires.faultless good.next good.next_in).few_lanes in
    omega (arith, good.next_lane_in)
