use Rattle.std.proofs.Common.{arith}
use Rattle.street_engine.proofs.ShiftSteps.{go-after-none}
use Rattle.street_engine.proofs.NotedSteps.{noted-after-none}
use Rattle.street_engine.proofs.crews.staying_steps.Goals as goal

pub returns-then-threads-gt1-clause-steps : goal.returns-then-threads-gt1-clause-steps
returns-then-threads-gt1-clause-steps g c = go-after-none c.team_steps-left.result.2 c.steps_by.result.2 c.args.streets c.team_steps-left.result.0 c.steps_by.result.0 (omega arith) c.team_steps-left.ensures.steps c.steps_by.ensures.steps

pub returns-then-threads-gt1-clause-noted : goal.returns-then-threads-gt1-clause-noted
returns-then-threads-gt1-clause-noted g c =
    noted-after-none g.S.StepSink.notes c.args.sink c.team_steps-left.result.1 c.steps_by.result.1 c.args.streets c.team_steps-left.result.0 c.team_steps-left.result.2 c.steps_by.result.2
    c.team_steps-left.ensures.steps c.team_steps-left.ensures.noted c.steps_by.ensures.noted (omega arith)
