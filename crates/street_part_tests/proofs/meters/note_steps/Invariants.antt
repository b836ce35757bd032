use Rattle.std.proofs.Common.{◌≡◌}
use Rattle.street_meter.specs.Meter.{next_step}
use Rattle.street_part_tests.proofs.meters.note_steps.Given as goal

abbrev pub invariant-loop-step : goal.invariant-loop-step
invariant-loop-step l = next_step l.meter ≡ l.step
