use Rattle.std.proofs.Common.{arith, sym, ◌∙◌}
use Rattle.street_engine.proofs.DetectorCommands.{no-meter, rows-told, rows-nowhere, rows-starved}
use Rattle.street_engine.proofs.detector_commands.read_meter.Goals as goal

pub returns-then-meter-detectors : goal.returns-then-meter-detectors
returns-then-meter-detectors c = no-meter _ c.args.meter (omega (arith, c.detectors.ensures, c.if-meter-detectors.true))

pub returns-in-Ok-Some : goal.returns-in-Ok-Some
returns-in-Ok-Some c = rows-told _ c.args.meter (omega (arith, c.detectors.ensures)) c.in-Ok-Some.rows (λ m stands. sym c.in-Ok-Some.field-0-is ∙ c.in-Ok-Some.ensures m stands)

pub returns-in-Ok-None : goal.returns-in-Ok-None
returns-in-Ok-None c = rows-nowhere _ c.args.meter (omega (arith, c.detectors.ensures)) (λ m stands. sym c.in-Ok-None.field-0-is ∙ c.in-Ok-None.ensures m stands)

pub returns-in-Err : goal.returns-in-Err
returns-in-Err c = rows-starved _ c.args.meter (omega (arith, c.detectors.ensures))
