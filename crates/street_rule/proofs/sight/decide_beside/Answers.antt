use Rattle.std.proofs.Common.{◌≡◌, ◌<◌, ◌-◌, true, false, length, refl, sym, ap, ◌∙◌, arith, ◌&&◌, nat_lt}
use Rattle.std.proofs.lemmas.Bool.{and_left, and_right}
use Rattle.street_base.specs.Prelude.{lane_draw, vehicle_of, next_link}
use Rattle.street_rule.specs.Prelude.{Odds, no_lane, lane_seen, lane_of, length_of, track_of, changing_of, change_gap_ahead, wishes_with}
use Rattle.street_yard.proofs.YardLemmas.{on_has_entry, cell_reads}
use Rattle.street_rule.proofs.Decision.{its_car, room-by, field-is, decided-by}
use Rattle.street_rule.proofs.sight.decide_beside.Goals as goal

pub returns-then-not-fits-clause-goes : goal.returns-then-not-fits-clause-goes
returns-then-not-fits-clause-goes c = λ v closed ahead seen up_to.
    let car = its_car c.args.yard.now c.args.key (on_has_entry c.args.yard.now c.args.key _ c.requires.key) in
    let there : 1 - c.args.outlook.now.lane < length c.args.road.now.lanes = (let t = c.requires.lanes in omega arith) in
    let room = room-by c.args.yard.now (length_of c.args.road.now) (lane_of c.args.road.now (1 - c.args.outlook.now.lane)) (lane_seen c.lane-other.result) c.cell-cell.result c.rear-rear.result c.speed-speed.result false c.lane-other.ensures (c.requires.road.lanes (1 - c.args.outlook.now.lane) no_lane there) c.if-not-fits.ensures in
    let gap_is : c.args.gap ≡ change_gap_ahead closed ahead c.cell-cell.result = up_to ∙ ap (change_gap_ahead closed ahead) (cell_reads c.args.yard.now c.args.key c.cell-cell.result c.cell-cell.ensures) in
    decided-by (changing_of c.args.road.now c.args.outlook.now.step) c.args.outlook.now.lane (length_of c.args.road.now) closed ahead (track_of c.args.yard.now (length_of c.args.road.now) (lane_of c.args.road.now (1 - c.args.outlook.now.lane))) c.args.yard.now c.args.key car.0 v c.cell-cell.result c.rear-rear.result c.speed-speed.result c.args.gap (wishes_with (changing_of c.args.road.now c.args.outlook.now.step) c.args.outlook.now.lane (length_of c.args.road.now) c.args.gap c.cell-cell.result c.speed-speed.result (next_link (vehicle_of car.0))) false car.1 seen (field-is (λ r. r.cell) car.0 _ c.cell-cell.result car.1 c.cell-cell.ensures) (field-is (λ r. r.cell - (r.size - 1)) car.0 _ c.rear-rear.result car.1 c.rear-rear.ensures) (field-is (λ r. r.speed) car.0 _ c.speed-speed.result car.1 c.speed-speed.ensures) gap_is
    refl (sym (and_right (wishes_with (changing_of c.args.road.now c.args.outlook.now.step) c.args.outlook.now.lane (length_of c.args.road.now) c.args.gap c.cell-cell.result c.speed-speed.result (next_link (vehicle_of car.0))) _ (and_left _ _ (sym room))))

pub returns-clause-goes : goal.returns-clause-goes
returns-clause-goes c = λ v closed ahead seen up_to.
    let car = its_car c.args.yard.now c.args.key (on_has_entry c.args.yard.now c.args.key _ c.requires.key) in
    let there : 1 - c.args.outlook.now.lane < length c.args.road.now.lanes = (let t = c.requires.lanes in omega arith) in
    let room = room-by c.args.yard.now (length_of c.args.road.now) (lane_of c.args.road.now (1 - c.args.outlook.now.lane)) (lane_seen c.lane-other.result) c.cell-cell.result c.rear-rear.result c.speed-speed.result true c.lane-other.ensures (c.requires.road.lanes (1 - c.args.outlook.now.lane) no_lane there) c.if-not-fits.ensures in
    let gap_is : c.args.gap ≡ change_gap_ahead closed ahead c.cell-cell.result = up_to ∙ ap (change_gap_ahead closed ahead) (cell_reads c.args.yard.now c.args.key c.cell-cell.result c.cell-cell.ensures) in
    decided-by (changing_of c.args.road.now c.args.outlook.now.step) c.args.outlook.now.lane (length_of c.args.road.now) closed ahead (track_of c.args.yard.now (length_of c.args.road.now) (lane_of c.args.road.now (1 - c.args.outlook.now.lane))) c.args.yard.now c.args.key car.0 v c.cell-cell.result c.rear-rear.result c.speed-speed.result c.args.gap true c.may_change-goes.result car.1 seen (field-is (λ r. r.cell) car.0 _ c.cell-cell.result car.1 c.cell-cell.ensures) (field-is (λ r. r.cell - (r.size - 1)) car.0 _ c.rear-rear.result car.1 c.rear-rear.ensures) (field-is (λ r. r.speed) car.0 _ c.speed-speed.result car.1 c.speed-speed.ensures) gap_is
    (c.if-not-wishes.ensures c.args.outlook.now.step ∙ ap (wishes_with (changing_of c.args.road.now c.args.outlook.now.step) c.args.outlook.now.lane (length_of c.args.road.now) c.args.gap c.cell-cell.result c.speed-speed.result) (field-is (λ r. next_link (vehicle_of r)) car.0 _ c.next_link.result car.1 c.next_link.ensures.next))
    (c.may_change-goes.ensures.value ∙ ap (λ (o : Odds). nat_lt (lane_draw o.seed c.number.result c.args.outlook.now.step) o.change) c.requires.dice
    ∙ ap (λ n. nat_lt (lane_draw c.args.road.now.network.seed n c.args.outlook.now.step) c.args.road.now.network.change) (field-is (λ r. r.number) car.0 _ c.number.result car.1 c.number.ensures)
    ∙ sym (ap (λ r. r && (changing_of c.args.road.now c.args.outlook.now.step).may_change car.0.number) (sym room)))
