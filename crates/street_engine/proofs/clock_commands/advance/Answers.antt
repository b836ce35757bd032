use Rattle.std.proofs.Common.{refl, arith, Some}
use Rattle.street_base.specs.declared.command.Command.TheVariants.{Advance}
use Rattle.street_base.specs.declared.reply.Reply.TheVariants.{Refused, Starved as StarvedReply}
use Rattle.street_engine.proofs.AdvanceCommand.{advance-refused, all-made, none-made, some-made}
use Rattle.street_engine.proofs.ToldSteps.{kept-sink, told-nothing, told-streets}
use Rattle.street_engine.proofs.clock_commands.advance.Goals as goal

pub returns-in-Some-clause-serves : goal.returns-in-Some-clause-serves
returns-in-Some-clause-serves g c = advance-refused _ c.args.steps c.advance_refusal.result c.advance_refusal.ensures.refusal c.in-Some.refusal c.in-Some.is

pub returns-then-made-steps-clause-serves : goal.returns-then-made-steps-clause-serves
returns-then-made-steps-clause-serves g c = all-made _ c.args.steps c.advance_refusal.result c.advance_refusal.ensures.refusal c.in_default.is _ c.steps-streets.result.2 _ (omega arith) (omega (arith, c.clock.ensures.clock, c.from-before.ensures)) c.steps-streets.ensures.steps

pub returns-then-made-eq0-clause-serves : goal.returns-then-made-eq0-clause-serves
returns-then-made-eq0-clause-serves g c = none-made _ c.args.steps c.advance_refusal.result c.advance_refusal.ensures.refusal c.in_default.is _ c.steps-streets.result.2 (omega arith) (omega (arith, c.steps-streets.ensures.most)) c.steps-streets.ensures.steps

pub returns-else-made-eq0-clause-serves : goal.returns-else-made-eq0-clause-serves
returns-else-made-eq0-clause-serves g c = some-made _ c.args.steps c.advance_refusal.result c.advance_refusal.ensures.refusal c.in_default.is _ c.steps-streets.result.2 _ (omega arith) (omega (arith, c.steps-streets.ensures.most)) (omega (arith, c.clock.ensures.clock, c.from-before.ensures)) c.steps-streets.ensures.steps

pub returns-in-Some-clause-told : goal.returns-in-Some-clause-told
returns-in-Some-clause-told g c = told-nothing g.K.StepSink.notes c.args.sink c.args.sink (Advance c.args.steps) (Refused c.in-Some.refusal) refl refl (Some c.args.streets)

pub returns-then-made-steps-clause-told : goal.returns-then-made-steps-clause-told
returns-then-made-steps-clause-told g c = told-streets g.K.StepSink.notes c.args.sink c.steps-streets.result.1 _ _ c.args.streets c.steps-streets.result.2 c.steps-streets.ensures.noted (omega arith)

pub returns-then-made-steps-clause-untold : goal.returns-then-made-steps-clause-untold
returns-then-made-steps-clause-untold g c none = kept-sink g.K.StepSink.notes c.args.sink c.steps-streets.result.1 c.args.streets c.steps-streets.result.2 c.clock.ensures.stands c.steps-streets.ensures.noted (omega (arith, none))

pub returns-then-made-eq0-clause-untold : goal.returns-then-made-eq0-clause-untold
returns-then-made-eq0-clause-untold g c none = kept-sink g.K.StepSink.notes c.args.sink c.steps-streets.result.1 c.args.streets c.steps-streets.result.2 c.clock.ensures.stands c.steps-streets.ensures.noted (omega arith)

pub returns-then-made-eq0-clause-told : goal.returns-then-made-eq0-clause-told
returns-then-made-eq0-clause-told g c = told-nothing g.K.StepSink.notes c.args.sink c.steps-streets.result.1 (Advance c.args.steps) StarvedReply refl (returns-then-made-eq0-clause-untold g c refl) (Some c.args.streets)

pub returns-else-made-eq0-clause-told : goal.returns-else-made-eq0-clause-told
returns-else-made-eq0-clause-told g c = told-streets g.K.StepSink.notes c.args.sink c.steps-streets.result.1 _ _ c.args.streets c.steps-streets.result.2 c.steps-streets.ensures.noted refl

pub returns-else-made-eq0-clause-untold : goal.returns-else-made-eq0-clause-untold
returns-else-made-eq0-clause-untold g c none = kept-sink g.K.StepSink.notes c.args.sink c.steps-streets.result.1 c.args.streets c.steps-streets.result.2 c.clock.ensures.stands c.steps-streets.ensures.noted none
