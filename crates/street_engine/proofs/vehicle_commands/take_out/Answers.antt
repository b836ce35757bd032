use Rattle.std.proofs.Common.{arith, ap, sym, ◌∙◌, is_some}
use Rattle.street_engine.proofs.VehicleCommands.{takeout-unknown, takeout-gone, takeout-done}
use Rattle.street_engine.proofs.vehicle_commands.take_out.Goals as goal

pub returns-then-car-from-clause-serves : goal.returns-then-car-from-clause-serves
returns-then-car-from-clause-serves c = takeout-unknown _ c.args.car (omega (arith, c.admitted.ensures.count, c.from.ensures))

pub returns-then-is_some-clause-serves : goal.returns-then-is_some-clause-serves
returns-then-is_some-clause-serves c = takeout-gone _ c.args.car (omega (arith, c.admitted.ensures.count, c.from.ensures)) (ap is_some (sym c.end_of.ensures) ∙ sym c.if-is_some.ensures)

pub returns-clause-serves : goal.returns-clause-serves
returns-clause-serves c = takeout-done _ c.args.car (omega (arith, c.admitted.ensures.count, c.from.ensures)) _ (ap is_some (sym c.end_of.ensures) ∙ sym c.if-is_some.ensures) c.take_out.ensures
