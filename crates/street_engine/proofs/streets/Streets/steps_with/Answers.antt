use Rattle.std.proofs.Common.{◌≡◌, ◌+◌, sym, ◌∙◌, arith}
use Rattle.street_engine.proofs.ShiftSteps.{go-refused, go-made}
use Rattle.street_engine.proofs.NotedSteps.{noted-made, noted-refused}
use Rattle.street_engine.proofs.StreetsStandFor.{unless-err}
use Rattle.street_engine.proofs.streets.Streets.steps_with.Goals as goal

pub returns-then-is_err-clause-steps : goal.returns-then-is_err-clause-steps
returns-then-is_err-clause-steps g c = go-refused c.loop-done.done _ c.loop-done.streets c.step.new.self c.step.result c.loop-done.invariant.stands (sym c.is_err.ensures.value ∙ c.if-is_err.true) c.step.ensures.starved

pub loop-done-preserved : goal.loop-done-preserved
loop-done-preserved g c =
    let ok = sym c.is_err.ensures.value ∙ c.if-is_err.false in
    let clock = unless-err (c.step.new.self.clock ≡ c.loop-done.streets.clock + 1) c.step.result ok c.step.ensures.clock in
    record {
      lender = c.step.ensures.lender;
      stands = go-made c.loop-done.done _ c.loop-done.streets c.step.new.self c.step.result c.loop-done.invariant.stands ok c.step.ensures.step;
      noted = noted-made g.K.StepSink.notes c.args.sink c.loop-done.noting c.step.new.sink c.args.self c.loop-done.streets c.loop-done.done c.loop-done.invariant.noted c.step.result c.loop-done.invariant.stands ok c.step.ensures.noted;
      clock = (let before = c.loop-done.invariant.clock in omega (arith, clock, before));
    }

pub returns-then-is_err-clause-noted : goal.returns-then-is_err-clause-noted
returns-then-is_err-clause-noted g c =
    noted-refused g.K.StepSink.notes c.args.sink c.loop-done.noting c.step.new.sink c.args.self c.loop-done.streets c.loop-done.done c.loop-done.invariant.noted c.step.result (sym c.is_err.ensures.value ∙ c.if-is_err.true) c.step.ensures.unnoted
