use Rattle.std.proofs.Common.{◌≡◌, ◌-◌, Some, None, refl, ap, subst}
use Rattle.street_yard.specs.Prelude.{list_at, first_or}
use Rattle.street_rule.specs.Prelude.{lane_of}
use Rattle.street_rule.proofs.MarkWalk.{IsMarking-end, IsMarking-none}
use Rattle.street_rule.proofs.Whole.{IsMarking-road}
use Rattle.street_rule.proofs.pass.mark_pass.Goals as goal

pub mark_from-requires-clause-front : goal.mark_from-requires-clause-front
mark_from-requires-clause-front c = subst (λ n. Some c.in-Some.front ≡ first_or (list_at c.args.yard.now n) None) (ap (λ l. l.list) c.lane.ensures) c.in-Some.ensures.front

pub returns-in-None-clause-marks : goal.returns-in-None-clause-marks
returns-in-None-clause-marks c =
    IsMarking-end c.args.yard.now c.args.yard.now (lane_of c.args.road.now c.args.lane).list (lane_of c.args.road.now (1 - c.args.lane)).list _ None None None refl
    (IsMarking-road c.args.yard.now c.args.road.now c.args.lane c.args.step None c.requires.lanes c.requires.lane c.requires.road c.list_front.ensures.whole (subst (λ n. None ≡ first_or (list_at c.args.yard.now n) None) (ap (λ l. l.list) c.lane.ensures) c.in-None.ensures.front))

pub returns-in-None-clause-none : goal.returns-in-None-clause-none
returns-in-None-clause-none c =
    IsMarking-none c.args.yard.now c.args.yard.now (lane_of c.args.road.now c.args.lane).list (lane_of c.args.road.now (1 - c.args.lane)).list _ None None None refl
    (IsMarking-road c.args.yard.now c.args.road.now c.args.lane c.args.step None c.requires.lanes c.requires.lane c.requires.road c.list_front.ensures.whole (subst (λ n. None ≡ first_or (list_at c.args.yard.now n) None) (ap (λ l. l.list) c.lane.ensures) c.in-None.ensures.front))
