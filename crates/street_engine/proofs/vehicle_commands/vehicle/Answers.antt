use Rattle.std.proofs.Common.{arith, sym, ◌∙◌}
use Rattle.street_engine.proofs.VehicleCommands.{vehicle-unknown, vehicle-ended, vehicle-found, vehicle-nowhere, vehicle-starved}
use Rattle.street_engine.proofs.vehicle_commands.vehicle.Goals as goal

pub returns-then-car-from : goal.returns-then-car-from
returns-then-car-from c = vehicle-unknown _ c.args.car (omega (arith, c.admitted.ensures.count, c.from.ensures))

pub returns-in-Some : goal.returns-in-Some
returns-in-Some c = vehicle-ended _ c.args.car (omega (arith, c.admitted.ensures.count, c.from.ensures)) c.in-Some.end (sym c.end_of.ensures ∙ c.in-Some.is)

pub returns-in-Ok-Some : goal.returns-in-Ok-Some
returns-in-Ok-Some c = vehicle-found _ c.args.car (omega (arith, c.admitted.ensures.count, c.from.ensures)) (sym c.end_of.ensures ∙ c.in_default.is) c.in-Ok-Some.whereabouts (λ m stands. sym c.in-Ok-Some.field-0-is ∙ c.in-Ok-Some.ensures m stands)

pub returns-in-Ok-None : goal.returns-in-Ok-None
returns-in-Ok-None c = vehicle-nowhere _ c.args.car (omega (arith, c.admitted.ensures.count, c.from.ensures)) (sym c.end_of.ensures ∙ c.in_default.is) (λ m stands. sym c.in-Ok-None.field-0-is ∙ c.in-Ok-None.ensures m stands)

pub returns-in-Err : goal.returns-in-Err
returns-in-Err c = vehicle-starved _ c.args.car (omega (arith, c.admitted.ensures.count, c.from.ensures)) (sym c.end_of.ensures ∙ c.in_default.is)
