use Rattle.std.proofs.Common.{◌<◌, Some, None, refl, sym, ◌∙◌, arith}
use Rattle.street_gap.specs.Prelude.{closed_marks}
use Rattle.street_yard.specs.Prelude.{cells_at}
use Rattle.street_yard.proofs.YardLemmas.{on_has_entry}
use Rattle.street_rule.specs.Prelude.{drive_with}
use Rattle.street_rule.proofs.Steps.{low_of}
use Rattle.street_rule.proofs.Bars.{below-bar}
use Rattle.street_rule.proofs.Turns.{always, watches-start, watches-room, turn-stays, turn-leaves, turn-watches, pass-ends}
use Rattle.street_rule.proofs.MotionPass.{IsPass-start, IsPass-end, IsPass-on, IsPass-inside, rear-above}
use Rattle.street_rule.proofs.motion.pass_cars.Goals as goal

pub loop-cursor-init : goal.loop-cursor-init
loop-cursor-init c = record {
  ahead = None;
  rear = None;
  bar = c.end_of-bar.ensures;
  pass = IsPass-start _ _ _ _ _ _ c.list_front-cursor.ensures.whole c.requires.lane c.list_front-cursor.ensures.front;
  dice = refl;
  watches = sym (watches-start _ _ _ c.args.course.count c.args.watches.now c.requires.watches);
}

pub reckon-reckoned-requires-clause-car : goal.reckon-reckoned-requires-clause-car
reckon-reckoned-requires-clause-car c = on_has_entry c.loop-cursor.yard c.in-Some.key c.args.course.list.0 (IsPass-on _ _ _ _ _ _ _ _ _ _ _ _ c.requires.lane c.in-Some.is c.loop-cursor.invariant.pass)

pub reckon-reckoned-requires-clause-below : goal.reckon-reckoned-requires-clause-below
reckon-reckoned-requires-clause-below c = λ car is.
    let pass = c.loop-cursor.invariant.pass in
    let cur = c.in-Some.is in
    let inside = IsPass-inside _ _ _ _ _ _ _ _ _ _ _ _ c.requires.lane cur pass car is in
    let low = rear-above _ _ _ _ _ _ _ _ _ _ _ _ c.requires.lane cur pass car is in
    let bar = below-bar c.loop-cursor.invariant.rear c.args.course.count c.args.course.is_open in
    (inside, omega (arith, low, bar, c.loop-cursor.invariant.bar))

pub overflow_add-place : goal.overflow_add-place
overflow_add-place c =
    let inside : (c.reckon-reckoned.ensures.reckoned c.loop-cursor.invariant.rear c.loop-cursor.invariant.bar).car.cell < c.args.course.count = IsPass-inside _ _ _ _ _ _ _ _ _ _ _ _ c.requires.lane c.in-Some.is c.loop-cursor.invariant.pass _ (c.reckon-reckoned.ensures.reckoned c.loop-cursor.invariant.rear c.loop-cursor.invariant.bar).is in
    omega (arith, inside, (c.reckon-reckoned.ensures.reckoned c.loop-cursor.invariant.rear c.loop-cursor.invariant.bar).cell, c.requires.short, c.from.ensures)

pub note-requires : goal.note-requires
note-requires c = watches-room (drive_with c.args.course.limit (always c.args.course.is_open) c.args.dice.now c.args.course.step) (cells_at c.args.yard.now c.args.course.list.0 c.args.course.count) (closed_marks c.args.closures.now c.args.course.count) c.args.course.count c.args.watches.now c.requires.watches (low_of c.loop-cursor.invariant.ahead c.args.course.count) _ (omega arith) c.requires.short c.loop-cursor.invariant.watches

pub behind-cursor-requires : goal.behind-cursor-requires
behind-cursor-requires c = rw (IsPass-on _ _ _ _ _ _ c.in-Some.key _ _ _ _ _ c.requires.lane c.in-Some.is c.loop-cursor.invariant.pass) refl

pub move_car-requires-clause-on : goal.move_car-requires-clause-on
move_car-requires-clause-on c = rw (IsPass-on _ _ _ _ _ _ c.in-Some.key _ _ _ _ _ c.requires.lane c.in-Some.is c.loop-cursor.invariant.pass) refl

pub leave-requires : goal.leave-requires
leave-requires c = c.move_car.ensures.place ∙ IsPass-on _ _ _ _ _ _ _ _ _ _ _ _ c.requires.lane c.in-Some.is c.loop-cursor.invariant.pass

pub loop-cursor-smaller : goal.loop-cursor-smaller
loop-cursor-smaller c = (turn-stays c.args.course _ c.args.dice.now c.args.closures.now c.args.yard.now c.loop-cursor.yard c.in-Some.key _ _ _ _ _ c.requires.lane c.in-Some.is c.loop-cursor.invariant.pass
    c.reckon-reckoned.result (c.reckon-reckoned.ensures.reckoned c.loop-cursor.invariant.rear c.loop-cursor.invariant.bar) c.loop-cursor.invariant.dice c.from.result c.from.ensures c.move_car.new.yard c.move_car.ensures _ c.behind-cursor.ensures.behind c.if-place-course.false).1

pub loop-cursor-preserved : goal.loop-cursor-preserved
loop-cursor-preserved c = record {
  ahead = Some c.reckon-reckoned.result.cell;
  rear = Some c.reckon-reckoned.result.rear;
  bar = refl;
  pass = (turn-stays c.args.course _ c.args.dice.now c.args.closures.now c.args.yard.now c.loop-cursor.yard c.in-Some.key _ _ _ _ _ c.requires.lane c.in-Some.is c.loop-cursor.invariant.pass
      c.reckon-reckoned.result (c.reckon-reckoned.ensures.reckoned c.loop-cursor.invariant.rear c.loop-cursor.invariant.bar) c.loop-cursor.invariant.dice c.from.result c.from.ensures c.move_car.new.yard c.move_car.ensures _ c.behind-cursor.ensures.behind c.if-place-course.false).0;
  dice = c.reckon-reckoned.ensures.dice ∙ c.loop-cursor.invariant.dice;
  watches = turn-watches c.args.course _ c.args.dice.now c.args.closures.now c.args.yard.now c.loop-cursor.yard c.in-Some.key _ _ _ _ _ c.requires.lane c.in-Some.is c.loop-cursor.invariant.pass
      c.reckon-reckoned.result (c.reckon-reckoned.ensures.reckoned c.loop-cursor.invariant.rear c.loop-cursor.invariant.bar) c.loop-cursor.invariant.dice c.from.result c.from.ensures c.move_car.new.yard c.move_car.ensures _ c.behind-cursor.ensures.behind c.args.watches.now _ _ c.loop-cursor.invariant.watches c.note.ensures;
}

pub loop-cursor-smaller-then-place-course : goal.loop-cursor-smaller-then-place-course
loop-cursor-smaller-then-place-course c = (turn-leaves c.args.course _ c.args.dice.now c.args.closures.now c.args.yard.now c.loop-cursor.yard c.in-Some.key _ _ _ _ _ c.requires.lane c.in-Some.is c.loop-cursor.invariant.pass
    c.reckon-reckoned.result (c.reckon-reckoned.ensures.reckoned c.loop-cursor.invariant.rear c.loop-cursor.invariant.bar) c.loop-cursor.invariant.dice c.from.result c.from.ensures c.move_car.new.yard c.move_car.ensures _ c.behind-cursor.ensures.behind c.leave.new.yard c.leave.ensures c.requires.list c.if-place-course.true).1

pub loop-cursor-preserved-then-place-course : goal.loop-cursor-preserved-then-place-course
loop-cursor-preserved-then-place-course c = record {
  ahead = Some c.reckon-reckoned.result.cell;
  rear = Some c.reckon-reckoned.result.rear;
  bar = refl;
  pass = (turn-leaves c.args.course _ c.args.dice.now c.args.closures.now c.args.yard.now c.loop-cursor.yard c.in-Some.key _ _ _ _ _ c.requires.lane c.in-Some.is c.loop-cursor.invariant.pass
      c.reckon-reckoned.result (c.reckon-reckoned.ensures.reckoned c.loop-cursor.invariant.rear c.loop-cursor.invariant.bar) c.loop-cursor.invariant.dice c.from.result c.from.ensures c.move_car.new.yard c.move_car.ensures _ c.behind-cursor.ensures.behind c.leave.new.yard c.leave.ensures c.requires.list c.if-place-course.true).0;
  dice = c.reckon-reckoned.ensures.dice ∙ c.loop-cursor.invariant.dice;
  watches = turn-watches c.args.course _ c.args.dice.now c.args.closures.now c.args.yard.now c.loop-cursor.yard c.in-Some.key _ _ _ _ _ c.requires.lane c.in-Some.is c.loop-cursor.invariant.pass
      c.reckon-reckoned.result (c.reckon-reckoned.ensures.reckoned c.loop-cursor.invariant.rear c.loop-cursor.invariant.bar) c.loop-cursor.invariant.dice c.from.result c.from.ensures c.move_car.new.yard c.move_car.ensures _ c.behind-cursor.ensures.behind c.args.watches.now _ _ c.loop-cursor.invariant.watches c.note.ensures;
}

pub returns-clause-moved : goal.returns-clause-moved
returns-clause-moved c = λ is_open_to exit. pass-ends c.args.course is_open_to c.args.dice.now c.args.closures.now c.args.yard.now c.loop-cursor.yard _ _ _ _ _ _ c.requires.lane c.in_default.is c.loop-cursor.invariant.pass c.loop-cursor.invariant.watches exit

pub returns-clause-lane : goal.returns-clause-lane
returns-clause-lane c = (IsPass-end (drive_with c.args.course.limit (always c.args.course.is_open) c.args.dice.now c.args.course.step) (closed_marks c.args.closures.now c.args.course.count) c.args.yard.now c.loop-cursor.yard c.args.course.list.0 c.args.course.count _ _ _ _ _ c.requires.lane c.in_default.is c.loop-cursor.invariant.pass).3
