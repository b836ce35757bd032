use Rattle.std.proofs.Common.{arith, ◌<◌}
use Rattle.street_desk.proofs.Steps.{opens}
use Rattle.street_desk.proofs.desk.Desk.start.Goals as goal

pub new-requires-2 : goal.new-requires-2
new-requires-2 g c =
    let slots = c.push_reserved.ensures.items in
    let some_session : 0 < c.args.sessions = omega arith in
    rw slots (rw c.in_ok-slots.ensures.items (rw (c.in_ok-recorder.ensures.0, c.in_ok-recorder.ensures.1) (opens _ _ some_session)))
