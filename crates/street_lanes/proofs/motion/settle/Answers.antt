use Rattle.std.proofs.Common.{true, false, ap, ◌∙◌, not}
use Rattle.street_lanes.proofs.Settles.{is_on_last-by, Settles-taken, Settles-queued, none_loose-taken, none_loose-queued}
use Rattle.street_lanes.proofs.motion.settle.Goals as goal

pub returns-then-is_none-clause-settles : goal.returns-then-is_none-clause-settles
returns-then-is_none-clause-settles c = λ car is.
    let y = c.args.yard.now in
    let last = is_on_last-by car y c.args.key _ true is c.next_link.ensures.next (c.is_none.ensures ∙ ap not c.if-is_none.true) in
    Settles-taken y c.args.key c.next_link.ensures.whole c.requires.loose c.args.buffer.0 c.args.ready car is _ _ c.take-car.ensures.after c.take-car.ensures.car last

pub returns-clause-settles : goal.returns-clause-settles
returns-clause-settles c = λ car is.
    let y = c.args.yard.now in
    let last = is_on_last-by car y c.args.key _ false is c.next_link.ensures.next (c.is_none.ensures ∙ ap not c.if-is_none.false) in
    Settles-queued y c.args.key c.next_link.ensures.whole c.requires.loose c.args.buffer.0 c.args.ready car is _ _ c.set_step.ensures c.push_back.ensures.after c.requires.list last

pub returns-then-is_none-clause-none_loose : goal.returns-then-is_none-clause-none_loose
returns-then-is_none-clause-none_loose c = none_loose-taken c.args.yard.now _ c.args.key c.take-car.ensures.after

pub returns-clause-none_loose : goal.returns-clause-none_loose
returns-clause-none_loose c = none_loose-queued c.args.yard.now _ _ c.args.key c.args.buffer.0 c.args.ready c.set_step.ensures c.push_back.ensures.after
