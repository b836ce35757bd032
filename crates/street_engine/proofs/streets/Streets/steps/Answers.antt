use Rattle.std.proofs.Common.{arith}
use Rattle.street_engine.proofs.NotedSteps.{noted-then}
use Rattle.street_engine.proofs.ShiftSteps.{go-then}
use Rattle.street_engine.proofs.streets.Streets.steps.Goals as goal

pub returns-then-over-clause-steps : goal.returns-then-over-clause-steps
returns-then-over-clause-steps g c = go-then c.loop.done c.make_some-left.result.2 c.args.self c.loop.streets c.make_some-left.result.0 c.loop.invariant.stands c.make_some-left.ensures.steps

pub loop-preserved : goal.loop-preserved
loop-preserved g c =
    let left = c.make_some-left.ensures in
    let before = c.loop.invariant in
    record {
      most = (let a = left.most in let b = before.most in let e = c.min-some.ensures in omega (arith, a, b, e));
      clock = (let a = left.clock in let b = before.clock in omega (arith, a, b));
      stands = go-then c.loop.done c.make_some-left.result.2 c.args.self c.loop.streets c.make_some-left.result.0 before.stands left.steps;
      noted = noted-then g.K.StepSink.notes c.args.sink c.loop.noting c.make_some-left.result.1 c.args.self c.loop.streets c.loop.done c.make_some-left.result.2 before.stands before.noted left.noted;
    }

pub returns-then-over-clause-noted : goal.returns-then-over-clause-noted
returns-then-over-clause-noted g c =
    noted-then g.K.StepSink.notes c.args.sink c.loop.noting c.make_some-left.result.1 c.args.self c.loop.streets c.loop.done c.make_some-left.result.2 c.loop.invariant.stands c.loop.invariant.noted c.make_some-left.ensures.noted
