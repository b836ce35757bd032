use Rattle.std.proofs.Common.{◌<◌, ◌-◌, false, length, refl, sym, ap, subst, ◌∙◌, arith, option_map}
use Rattle.street_base.specs.declared.car.Car.{Car}
use Rattle.std.proofs.lemmas.Bool.{and_left, and_right}
use Rattle.street_gap.specs.Prelude.{closed_marks, IsUpTo}
use Rattle.street_gap.proofs.Sights.{last_on, HasCar-on}
use Rattle.street_rule.specs.Prelude.{no_lane, lane_seen, lane_of, length_of, track_of, changing_of, change_gap_to, change_gap_ahead, wishes_with}
use Rattle.street_base.specs.Prelude.{vehicle_of, next_link}
use Rattle.street_yard.proofs.YardLemmas.{on_has_entry, cell_reads}
use Rattle.street_rule.proofs.Decision.{its_car, gap-by, shut-by, field-is, decided-by}
use Rattle.street_rule.proofs.sight.decide.Goals as goal
use Rattle.std.proofs.Common.{unwrap_or}

pub returns-then-not-may_wish-clause-goes : goal.returns-then-not-may_wish-clause-goes
returns-then-not-may_wish-clause-goes c = λ v seen.
    let car = its_car c.args.yard.now c.args.key (on_has_entry c.args.yard.now c.args.key _ c.requires.key) in
    let here : c.args.outlook.lane < length c.args.road.now.lanes = (let l = c.requires.outlook.lane in let t = c.requires.lanes in omega arith) in
    decided-by (changing_of c.args.road.now c.args.outlook.step) c.args.outlook.lane (length_of c.args.road.now) (closed_marks (lane_of c.args.road.now c.args.outlook.lane).closed (length_of c.args.road.now)) c.args.ahead
    (track_of c.args.yard.now (length_of c.args.road.now) (lane_of c.args.road.now (1 - c.args.outlook.lane))) c.args.yard.now c.args.key car.0 v c.cell-cell.result (car.0.cell - (car.0.size - 1)) c.speed-speed.result (change_gap_to c.obstacle_ahead-obstacle.result c.cell-cell.result) false false car.1 seen (field-is (λ r. r.cell) car.0 _ c.cell-cell.result car.1 c.cell-cell.ensures) refl (field-is (λ r. r.speed) car.0 _ c.speed-speed.result car.1 c.speed-speed.ensures)
    (gap-by (length_of c.args.road.now) (lane_of c.args.road.now c.args.outlook.lane) (lane_seen c.args.outlook.own) c.args.ahead c.obstacle_ahead-obstacle.result c.cell-cell.result c.requires.outlook.own (c.requires.road.lanes c.args.outlook.lane no_lane here).within c.obstacle_ahead-obstacle.ensures)
    (sym (c.may_wish.ensures c.args.outlook.step (next_link (vehicle_of car.0)) (ap (option_map (λ (r : Car). next_link (vehicle_of r))) car.1) c.if-not-may_wish.true))
    refl

pub is_shut-requires : goal.is_shut-requires
is_shut-requires c =
    let p = c.requires.above in
    let list = (lane_of c.args.road.now (1 - c.args.outlook.lane)).list in
    HasCar-on c.args.yard.now list c.args.above (last_on c.args.yard.now list p.up p.down c.args.above c.whole.ensures p.split p.at_position)

pub returns-then-is_shut-clause-goes : goal.returns-then-is_shut-clause-goes
returns-then-is_shut-clause-goes c = λ v seen.
    let y = c.args.yard.now in
    let car = its_car y c.args.key (on_has_entry y c.args.key _ c.requires.key) in
    let here : c.args.outlook.lane < length c.args.road.now.lanes = (let l = c.requires.outlook.lane in let t = c.requires.lanes in omega arith) in
    let there : 1 - c.args.outlook.lane < length c.args.road.now.lanes = (let t = c.requires.lanes in omega arith) in
    let cell_is = field-is (λ r. r.cell) car.0 _ c.cell-cell.result car.1 c.cell-cell.ensures in
    let shut = shut-by y (length_of c.args.road.now) (lane_of c.args.road.now (1 - c.args.outlook.lane)) c.cell-cell.result (car.0.cell - (car.0.size - 1)) c.speed-speed.result c.args.above c.whole.ensures (c.requires.road.lanes (1 - c.args.outlook.lane) no_lane there) (subst (λ x. IsUpTo y (lane_of c.args.road.now (1 - c.args.outlook.lane)).list x c.args.above) (cell_reads y c.args.key c.cell-cell.result c.cell-cell.ensures) c.requires.above) (omega (arith, cell_is)) (c.is_shut.ensures c.if-is_shut.true) in
    let wish = wishes_with (changing_of c.args.road.now c.args.outlook.step) c.args.outlook.lane (length_of c.args.road.now) (change_gap_to c.obstacle_ahead-obstacle.result c.cell-cell.result) c.cell-cell.result c.speed-speed.result (next_link (vehicle_of car.0)) in
    decided-by (changing_of c.args.road.now c.args.outlook.step) c.args.outlook.lane (length_of c.args.road.now) (closed_marks (lane_of c.args.road.now c.args.outlook.lane).closed (length_of c.args.road.now)) c.args.ahead
    (track_of y (length_of c.args.road.now) (lane_of c.args.road.now (1 - c.args.outlook.lane))) y c.args.key car.0 v c.cell-cell.result (car.0.cell - (car.0.size - 1)) c.speed-speed.result (change_gap_to c.obstacle_ahead-obstacle.result c.cell-cell.result) wish false car.1 seen cell_is refl (field-is (λ r. r.speed) car.0 _ c.speed-speed.result car.1 c.speed-speed.ensures)
    (gap-by (length_of c.args.road.now) (lane_of c.args.road.now c.args.outlook.lane) (lane_seen c.args.outlook.own) c.args.ahead c.obstacle_ahead-obstacle.result c.cell-cell.result c.requires.outlook.own (c.requires.road.lanes c.args.outlook.lane no_lane here).within c.obstacle_ahead-obstacle.ensures)
    refl (sym (and_right wish _ (and_left _ _ shut)))

pub returns-clause-goes : goal.returns-clause-goes
returns-clause-goes c = λ v seen.
    let here : c.args.outlook.lane < length c.args.road.now.lanes = (let l = c.requires.outlook.lane in let t = c.requires.lanes in omega arith) in
    c.decide_beside.ensures.goes v (closed_marks (lane_of c.args.road.now c.args.outlook.lane).closed (length_of c.args.road.now)) c.args.ahead seen
    (c.unwrap_or-gap.ensures
    ∙ ap (λ o. unwrap_or o 16) c.cells_up_to.ensures
    ∙ gap-by (length_of c.args.road.now) (lane_of c.args.road.now c.args.outlook.lane) (lane_seen c.args.outlook.own) c.args.ahead c.obstacle_ahead-obstacle.result c.cell-cell.result c.requires.outlook.own (c.requires.road.lanes c.args.outlook.lane no_lane here).within c.obstacle_ahead-obstacle.ensures
    ∙ ap (change_gap_ahead (closed_marks (lane_of c.args.road.now c.args.outlook.lane).closed (length_of c.args.road.now)) c.args.ahead) (sym (cell_reads c.args.yard.now c.args.key c.cell-cell.result c.cell-cell.ensures)))
