use Rattle.std.proofs.Common.{◌≡◌, length, sym, ap, ◌∙◌, arith}
use Rattle.street_base.specs.declared.net.NetSpec.{NetSpec}
use Rattle.street_rule.specs.Prelude.{RoadLane}
use Rattle.street_rule.proofs.Roads.{one-changes}
use Rattle.street_rule.proofs.Whole.{never-changes, marked-road, first-fallen, second-fallen, first-stays, second-stays, all-change, all-keep, all-road}
use Rattle.street_rule.proofs.pass.lane_pass.Goals as goal
use Rattle.street_rule.proofs.pass.lane_pass.Goals.{then-lanes-lt2-via-then-lanes-lt2, then-lanes-lt2-via-else-lanes-lt2+then-spec-eq0}

pub returns-then-lanes-lt2-clause-changes : goal.returns-then-lanes-lt2-clause-changes
returns-then-lanes-lt2-clause-changes c =
    let count = c.lanes.ensures.value in
    let few = c.lanes.ensures.few in
    elim c.then-lanes-lt2.branch [
      | then-lanes-lt2-via-then-lanes-lt2 w ↦ one-changes c.args.yard.now c.args.road.now c.args.step (let h = w.if-lanes-lt2.true in omega arith)
      | then-lanes-lt2-via-else-lanes-lt2+then-spec-eq0 w ↦ never-changes c.args.yard.now c.args.road.now c.args.step (let h = w.if-lanes-lt2.false in omega arith)
          (sym (ap (λ (n : NetSpec). n.change) (w.spec.ensures.value ∙ w.network.ensures)) ∙ w.if-spec-eq0.true)
    ]

pub mark_pass-comes_over-requires-clause-road : goal.mark_pass-comes_over-requires-clause-road
mark_pass-comes_over-requires-clause-road c = marked-road c.args.yard.now c.mark_pass-goes_over.new.yard c.args.road.now _ _ c.mark_pass-goes_over.ensures.marks c.requires.road

pub relink-requires-clause-falls : goal.relink-requires-clause-falls
relink-requires-clause-falls c =
    let both : length c.args.road.now.lanes ≡ 2 = (let count = c.lanes.ensures.value in let few = c.lanes.ensures.few in let h = c.if-lanes-lt2.false in omega arith) in
    first-fallen c.args.road.now c.args.step c.args.yard.now c.mark_pass-goes_over.new.yard c.mark_pass-comes_over.new.yard c.lane.result.list.0 c.lane-2.result.list.0 c.whole.ensures c.requires.road both (ap (λ (l : RoadLane). l.list) c.lane.ensures) (ap (λ (l : RoadLane). l.list) c.lane-2.ensures) c.mark_pass-goes_over.ensures.marks c.mark_pass-comes_over.ensures.marks

pub relink-requires-2-clause-falls : goal.relink-requires-2-clause-falls
relink-requires-2-clause-falls c =
    let both : length c.args.road.now.lanes ≡ 2 = (let count = c.lanes.ensures.value in let few = c.lanes.ensures.few in let h = c.if-lanes-lt2.false in omega arith) in
    second-fallen c.args.road.now c.args.step c.args.yard.now c.mark_pass-goes_over.new.yard c.mark_pass-comes_over.new.yard c.lane.result.list.0 c.lane-2.result.list.0 c.whole.ensures c.requires.road both (ap (λ (l : RoadLane). l.list) c.lane.ensures) (ap (λ (l : RoadLane). l.list) c.lane-2.ensures) c.mark_pass-goes_over.ensures.marks c.mark_pass-comes_over.ensures.marks c.relink.new.yard c.relink.ensures

pub returns-clause-changes : goal.returns-clause-changes
returns-clause-changes c =
    let both : length c.args.road.now.lanes ≡ 2 = (let count = c.lanes.ensures.value in let few = c.lanes.ensures.few in let h = c.if-lanes-lt2.false in omega arith) in
    all-change c.args.road.now c.args.step c.args.yard.now c.mark_pass-goes_over.new.yard c.mark_pass-comes_over.new.yard c.lane.result.list.0 c.lane-2.result.list.0 c.whole.ensures c.requires.road both (ap (λ (l : RoadLane). l.list) c.lane.ensures) (ap (λ (l : RoadLane). l.list) c.lane-2.ensures) c.mark_pass-goes_over.ensures.marks c.mark_pass-comes_over.ensures.marks c.relink.new.yard c.relink.ensures c.relink-2.new.yard c.relink-2.ensures

pub returns-clause-road : goal.returns-clause-road
returns-clause-road c =
    let both : length c.args.road.now.lanes ≡ 2 = (let count = c.lanes.ensures.value in let few = c.lanes.ensures.few in let h = c.if-lanes-lt2.false in omega arith) in
    all-road c.args.road.now c.args.step c.args.yard.now c.mark_pass-goes_over.new.yard c.mark_pass-comes_over.new.yard c.lane.result.list.0 c.lane-2.result.list.0 c.whole.ensures c.requires.road both (ap (λ (l : RoadLane). l.list) c.lane.ensures) (ap (λ (l : RoadLane). l.list) c.lane-2.ensures) c.mark_pass-goes_over.ensures.marks c.mark_pass-comes_over.ensures.marks c.relink.new.yard c.relink.ensures c.relink-2.new.yard c.relink-2.ensures

pub returns-clause-rest : goal.returns-clause-rest
returns-clause-rest c =
    let both : length c.args.road.now.lanes ≡ 2 = (let count = c.lanes.ensures.value in let few = c.lanes.ensures.few in let h = c.if-lanes-lt2.false in omega arith) in
    all-keep c.args.road.now c.args.step c.args.yard.now c.mark_pass-goes_over.new.yard c.mark_pass-comes_over.new.yard c.lane.result.list.0 c.lane-2.result.list.0 c.whole.ensures c.requires.road both (ap (λ (l : RoadLane). l.list) c.lane.ensures) (ap (λ (l : RoadLane). l.list) c.lane-2.ensures) c.mark_pass-goes_over.ensures.marks c.mark_pass-comes_over.ensures.marks c.relink.new.yard c.relink.ensures c.relink-2.new.yard c.relink-2.ensures

pub returns-then-not-comes_over-clause-changes : goal.returns-then-not-comes_over-clause-changes
returns-then-not-comes_over-clause-changes c =
    let both : length c.args.road.now.lanes ≡ 2 = (let count = c.lanes.ensures.value in let few = c.lanes.ensures.few in let h = c.if-lanes-lt2.false in omega arith) in
    all-change c.args.road.now c.args.step c.args.yard.now c.mark_pass-goes_over.new.yard c.mark_pass-comes_over.new.yard c.lane.result.list.0 c.lane-2.result.list.0 c.whole.ensures c.requires.road both (ap (λ (l : RoadLane). l.list) c.lane.ensures) (ap (λ (l : RoadLane). l.list) c.lane-2.ensures) c.mark_pass-goes_over.ensures.marks c.mark_pass-comes_over.ensures.marks
    c.mark_pass-comes_over.new.yard (first-stays c.args.road.now c.args.step c.args.yard.now c.mark_pass-goes_over.new.yard c.mark_pass-comes_over.new.yard c.lane.result.list.0 c.lane-2.result.list.0 c.whole.ensures c.requires.road both (ap (λ (l : RoadLane). l.list) c.lane.ensures) (ap (λ (l : RoadLane). l.list) c.lane-2.ensures) c.mark_pass-goes_over.ensures.marks c.mark_pass-comes_over.ensures.marks (c.mark_pass-goes_over.ensures.none c.if-not-goes_over.true))
    c.mark_pass-comes_over.new.yard (second-stays c.args.road.now c.args.step c.args.yard.now c.mark_pass-goes_over.new.yard c.mark_pass-comes_over.new.yard c.lane.result.list.0 c.lane-2.result.list.0 c.whole.ensures c.requires.road both (ap (λ (l : RoadLane). l.list) c.lane.ensures) (ap (λ (l : RoadLane). l.list) c.lane-2.ensures) c.mark_pass-goes_over.ensures.marks c.mark_pass-comes_over.ensures.marks (c.mark_pass-comes_over.ensures.none c.if-not-comes_over.true))

pub returns-then-not-comes_over-clause-road : goal.returns-then-not-comes_over-clause-road
returns-then-not-comes_over-clause-road c =
    let both : length c.args.road.now.lanes ≡ 2 = (let count = c.lanes.ensures.value in let few = c.lanes.ensures.few in let h = c.if-lanes-lt2.false in omega arith) in
    all-road c.args.road.now c.args.step c.args.yard.now c.mark_pass-goes_over.new.yard c.mark_pass-comes_over.new.yard c.lane.result.list.0 c.lane-2.result.list.0 c.whole.ensures c.requires.road both (ap (λ (l : RoadLane). l.list) c.lane.ensures) (ap (λ (l : RoadLane). l.list) c.lane-2.ensures) c.mark_pass-goes_over.ensures.marks c.mark_pass-comes_over.ensures.marks
    c.mark_pass-comes_over.new.yard (first-stays c.args.road.now c.args.step c.args.yard.now c.mark_pass-goes_over.new.yard c.mark_pass-comes_over.new.yard c.lane.result.list.0 c.lane-2.result.list.0 c.whole.ensures c.requires.road both (ap (λ (l : RoadLane). l.list) c.lane.ensures) (ap (λ (l : RoadLane). l.list) c.lane-2.ensures) c.mark_pass-goes_over.ensures.marks c.mark_pass-comes_over.ensures.marks (c.mark_pass-goes_over.ensures.none c.if-not-goes_over.true))
    c.mark_pass-comes_over.new.yard (second-stays c.args.road.now c.args.step c.args.yard.now c.mark_pass-goes_over.new.yard c.mark_pass-comes_over.new.yard c.lane.result.list.0 c.lane-2.result.list.0 c.whole.ensures c.requires.road both (ap (λ (l : RoadLane). l.list) c.lane.ensures) (ap (λ (l : RoadLane). l.list) c.lane-2.ensures) c.mark_pass-goes_over.ensures.marks c.mark_pass-comes_over.ensures.marks (c.mark_pass-comes_over.ensures.none c.if-not-comes_over.true))

pub returns-then-not-comes_over-clause-rest : goal.returns-then-not-comes_over-clause-rest
returns-then-not-comes_over-clause-rest c =
    let both : length c.args.road.now.lanes ≡ 2 = (let count = c.lanes.ensures.value in let few = c.lanes.ensures.few in let h = c.if-lanes-lt2.false in omega arith) in
    all-keep c.args.road.now c.args.step c.args.yard.now c.mark_pass-goes_over.new.yard c.mark_pass-comes_over.new.yard c.lane.result.list.0 c.lane-2.result.list.0 c.whole.ensures c.requires.road both (ap (λ (l : RoadLane). l.list) c.lane.ensures) (ap (λ (l : RoadLane). l.list) c.lane-2.ensures) c.mark_pass-goes_over.ensures.marks c.mark_pass-comes_over.ensures.marks
    c.mark_pass-comes_over.new.yard (first-stays c.args.road.now c.args.step c.args.yard.now c.mark_pass-goes_over.new.yard c.mark_pass-comes_over.new.yard c.lane.result.list.0 c.lane-2.result.list.0 c.whole.ensures c.requires.road both (ap (λ (l : RoadLane). l.list) c.lane.ensures) (ap (λ (l : RoadLane). l.list) c.lane-2.ensures) c.mark_pass-goes_over.ensures.marks c.mark_pass-comes_over.ensures.marks (c.mark_pass-goes_over.ensures.none c.if-not-goes_over.true))
    c.mark_pass-comes_over.new.yard (second-stays c.args.road.now c.args.step c.args.yard.now c.mark_pass-goes_over.new.yard c.mark_pass-comes_over.new.yard c.lane.result.list.0 c.lane-2.result.list.0 c.whole.ensures c.requires.road both (ap (λ (l : RoadLane). l.list) c.lane.ensures) (ap (λ (l : RoadLane). l.list) c.lane-2.ensures) c.mark_pass-goes_over.ensures.marks c.mark_pass-comes_over.ensures.marks (c.mark_pass-comes_over.ensures.none c.if-not-comes_over.true))
