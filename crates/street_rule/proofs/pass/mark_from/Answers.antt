use Rattle.std.proofs.Common.{◌≡◌, Some, ◌<◌, ◌-◌, refl, arith, ap, sym, ◌∙◌, length, get_or, ◌||◌, unwrap_or}
use Rattle.street_base.specs.Prelude.{changes}
use Rattle.street_yard.specs.Prelude.{list_on}
use Rattle.street_yard.proofs.YardLemmas.{left, on_has_entry, list_on-mark_set}
use Rattle.street_gap.specs.Prelude.{closed_marks}
use Rattle.street_gap.proofs.Marks.{closed_marks-length}
use Rattle.street_rule.specs.Prelude.{no_lane, lane_of, length_of, track_of, changing_of}
use Rattle.street_rule.proofs.Roads.{IsRoad-by}
use Rattle.street_rule.proofs.Whole.{IsMarking-road}
use Rattle.street_rule.proofs.MarkWalk.{IsMarking, IsMarking-lane, IsMarking-on, IsMarking-up_to, IsMarking-vehicle, IsMarking-step, decided}
use Rattle.street_rule.proofs.pass.mark_from.Goals as goal

pub loop-cursor-init : goal.loop-cursor-init
loop-cursor-init c = (
  IsMarking-road c.args.yard.now c.args.road.now c.args.lane c.args.step (Some c.args.front) c.requires.lanes c.requires.lane c.requires.road c.whole.ensures c.requires.front,
  c.requires.dice,
)

pub decide-decision-requires-clause-road : goal.decide-decision-requires-clause-road
decide-decision-requires-clause-road c =
    IsRoad-by c.args.yard.now c.loop-cursor.yard c.args.road.now (λ n h. rw c.loop-cursor.invariant.0.lists h)
    (λ k h. IsMarking-lane c.args.yard.now c.loop-cursor.yard (lane_of c.args.road.now c.args.lane).list (lane_of c.args.road.now (1 - c.args.lane)).list _ c.loop-cursor.above c.loop-cursor.ahead c.loop-cursor.cursor c.loop-cursor.invariant.0
    (get_or c.args.road.now.lanes k no_lane).list (length_of c.args.road.now) (c.requires.road.lanes k no_lane h).stands)
    c.requires.road

pub decide-decision-requires-clause-key : goal.decide-decision-requires-clause-key
decide-decision-requires-clause-key c = IsMarking-on c.args.yard.now c.loop-cursor.yard (lane_of c.args.road.now c.args.lane).list (lane_of c.args.road.now (1 - c.args.lane)).list c.in-Some.key _ c.loop-cursor.above c.loop-cursor.ahead c.loop-cursor.cursor c.in-Some.is c.loop-cursor.invariant.0

pub decide-decision-requires-clause-above : goal.decide-decision-requires-clause-above
decide-decision-requires-clause-above c = IsMarking-up_to c.args.yard.now c.loop-cursor.yard (lane_of c.args.road.now c.args.lane).list (lane_of c.args.road.now (1 - c.args.lane)).list c.in-Some.key _ c.loop-cursor.above c.loop-cursor.ahead c.loop-cursor.cursor c.in-Some.is c.loop-cursor.invariant.0

pub rear-requires : goal.rear-requires
rear-requires c = on_has_entry c.loop-cursor.yard c.in-Some.key (lane_of c.args.road.now c.args.lane).list (IsMarking-on c.args.yard.now c.loop-cursor.yard (lane_of c.args.road.now c.args.lane).list (lane_of c.args.road.now (1 - c.args.lane)).list c.in-Some.key _ c.loop-cursor.above c.loop-cursor.ahead c.loop-cursor.cursor c.in-Some.is c.loop-cursor.invariant.0)

on : (c : goal.After-set_mark) → list_on c.set_mark.new.yard c.in-Some.key ≡ Some (lane_of c.args.road.now c.args.lane).list
on c = ap (λ v. list_on v c.in-Some.key) c.set_mark.ensures ∙ list_on-mark_set c.loop-cursor.yard c.in-Some.key c.decide-decision.result.goes c.in-Some.key ∙ IsMarking-on c.args.yard.now c.loop-cursor.yard (lane_of c.args.road.now c.args.lane).list (lane_of c.args.road.now (1 - c.args.lane)).list c.in-Some.key _ c.loop-cursor.above c.loop-cursor.ahead c.loop-cursor.cursor c.in-Some.is c.loop-cursor.invariant.0

pub behind-cursor-requires : goal.behind-cursor-requires
behind-cursor-requires c = rw (on c) refl

step : (c : goal.After-behind-cursor) → IsMarking c.args.yard.now c.set_mark.new.yard (lane_of c.args.road.now c.args.lane).list (lane_of c.args.road.now (1 - c.args.lane)).list
    (changes (changing_of c.args.road.now c.args.step) c.args.lane (track_of c.args.yard.now (length_of c.args.road.now) (lane_of c.args.road.now c.args.lane)) (track_of c.args.yard.now (length_of c.args.road.now) (lane_of c.args.road.now (1 - c.args.lane))))
    c.decide-decision.result.above (Some c.rear.result) c.behind-cursor.result (c.loop-cursor.goes || c.decide-decision.result.goes)
    × (left c.set_mark.new.yard (lane_of c.args.road.now c.args.lane).list c.behind-cursor.result < left c.loop-cursor.yard (lane_of c.args.road.now c.args.lane).list c.loop-cursor.cursor)
step c =
    let here : c.args.lane < length c.args.road.now.lanes = (let l = c.requires.lane in let t = c.requires.lanes in omega arith) in
    let v = IsMarking-vehicle c.args.yard.now c.loop-cursor.yard (lane_of c.args.road.now c.args.lane).list (lane_of c.args.road.now (1 - c.args.lane)).list c.in-Some.key _ c.loop-cursor.above c.loop-cursor.ahead c.loop-cursor.cursor c.in-Some.is c.loop-cursor.invariant.0 in
    IsMarking-step c.args.yard.now c.loop-cursor.yard (lane_of c.args.road.now c.args.lane).list (lane_of c.args.road.now (1 - c.args.lane)).list c.in-Some.key _ c.loop-cursor.above c.loop-cursor.ahead c.loop-cursor.cursor c.in-Some.is c.loop-cursor.invariant.0
    c.decide-decision.result.above c.behind-cursor.result c.rear.result c.decide-decision.result.goes c.set_mark.new.yard
    (sym (ap (λ o. unwrap_or o 0) c.rear.ensures)) c.decide-decision.ensures.above
    (c.decide-decision.ensures.goes v.0 v.1
    ∙ decided c.args.yard.now c.loop-cursor.yard (lane_of c.args.road.now c.args.lane).list (lane_of c.args.road.now (1 - c.args.lane)).list c.in-Some.key _ c.loop-cursor.above c.loop-cursor.ahead c.loop-cursor.cursor c.in-Some.is c.loop-cursor.invariant.0
    (changing_of c.args.road.now c.args.step) c.args.lane (length_of c.args.road.now) (closed_marks (lane_of c.args.road.now c.args.lane).closed (length_of c.args.road.now)) (closed_marks (lane_of c.args.road.now (1 - c.args.lane)).closed (length_of c.args.road.now))
    (c.requires.road.lanes c.args.lane no_lane here).stands (closed_marks-length (lane_of c.args.road.now c.args.lane).closed (length_of c.args.road.now)) v.0 v.1)
    c.set_mark.ensures c.behind-cursor.ensures.behind

pub loop-cursor-smaller : goal.loop-cursor-smaller
loop-cursor-smaller c = (step c).1

pub loop-cursor-preserved : goal.loop-cursor-preserved
loop-cursor-preserved c = ((step c).0, c.decide-decision.ensures.dice ∙ c.loop-cursor.invariant.1)
