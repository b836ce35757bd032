use Rattle.std.proofs.Common.{arith}
use Rattle.street_engine.proofs.AdvanceCommand.{too-many-steps, past-the-end, in-time}
use Rattle.street_engine.proofs.Serves.{same-clock}
use Rattle.street_engine.proofs.clock_commands.advance_refusal.Goals as goal

pub returns-then-steps-gt-MOST_STEPS-clause-refusal : goal.returns-then-steps-gt-MOST_STEPS-clause-refusal
returns-then-steps-gt-MOST_STEPS-clause-refusal c = λ m stands. too-many-steps c.args.steps m (omega arith)

pub returns-then-from-steps-clause-refusal : goal.returns-then-from-steps-clause-refusal
returns-then-from-steps-clause-refusal c = λ m stands. past-the-end c.args.steps m (omega arith) (omega (arith, c.clock.ensures.clock, c.from.ensures, same-clock c.args.streets.now m stands))

pub returns-clause-refusal : goal.returns-clause-refusal
returns-clause-refusal c = λ m stands. in-time c.args.steps m (omega arith) (omega (arith, c.clock.ensures.clock, c.from.ensures, same-clock c.args.streets.now m stands))
