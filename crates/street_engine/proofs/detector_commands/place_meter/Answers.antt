use Rattle.std.proofs.Common.{refl, ap, sym, ◌∙◌, arith}
use Rattle.street_base.specs.declared.net.NetSpec.{NetSpec}
use Rattle.street_base.specs.Prelude.{named_lane}
use Rattle.street_engine.proofs.DetectorCommands.{meter-refused, bad-period, too-many-meters, meter-starved, meter-done, good-period, no-period, long-period}
use Rattle.street_engine.proofs.detector_commands.place_meter.Goals as goal
use Rattle.street_engine.proofs.detector_commands.place_meter.Goals.{then-period-eq0-via-then-period-eq0, then-period-eq0-via-else-period-eq0+then-period-gt-MOST_PERIOD}

pub returns-in-Err-clause-serves : goal.returns-in-Err-clause-serves
returns-in-Err-clause-serves c = meter-refused _ c.args.link c.args.lane c.args.cell c.args.period c.in-Err.refusal (λ m same. c.in-Err.ensures.refused m (same ∙ sym c.network.ensures))

pub returns-then-period-eq0-clause-serves : goal.returns-then-period-eq0-clause-serves
returns-then-period-eq0-clause-serves c = elim c.then-period-eq0.branch [
  | then-period-eq0-via-then-period-eq0 w ↦ bad-period c.args.streets.now c.args.link c.args.lane c.args.cell c.args.period (λ m same. c.in-Ok.ensures.passed m (same ∙ sym c.network.ensures)) (no-period c.args.period (omega (arith, w.if-period-eq0.true)))
  | then-period-eq0-via-else-period-eq0+then-period-gt-MOST_PERIOD w ↦ bad-period c.args.streets.now c.args.link c.args.lane c.args.cell c.args.period (λ m same. c.in-Ok.ensures.passed m (same ∙ sym c.network.ensures)) (long-period c.args.period (omega (arith, w.if-period-gt-MOST_PERIOD.true)))
]

pub returns-then-detectors-ge-MOST_DETECTORS-clause-serves : goal.returns-then-detectors-ge-MOST_DETECTORS-clause-serves
returns-then-detectors-ge-MOST_DETECTORS-clause-serves c = too-many-meters c.args.streets.now c.args.link c.args.lane c.args.cell c.args.period (λ m same. c.in-Ok.ensures.passed m (same ∙ sym c.network.ensures))
    (good-period c.args.period (omega (arith, c.if-period-eq0.false)) (omega (arith, c.if-period-gt-MOST_PERIOD.false))) (omega (arith, c.detectors.ensures, c.if-detectors-ge-MOST_DETECTORS.true))

pub returns-in-Ok-place_meter-clause-serves : goal.returns-in-Ok-place_meter-clause-serves
returns-in-Ok-place_meter-clause-serves c = meter-done c.args.streets.now c.args.link c.args.lane c.args.cell c.args.period (λ m same. c.in-Ok.ensures.passed m (same ∙ sym c.network.ensures))
    (good-period c.args.period (omega (arith, c.if-period-eq0.false)) (omega (arith, c.if-period-gt-MOST_PERIOD.false))) (omega (arith, c.detectors.ensures, c.if-detectors-ge-MOST_DETECTORS.false)) c.place_meter.new.self
    c.in-Ok.cells.at c.in-Ok.cells.first c.args.period c.in-Ok-place_meter.number
    (c.in-Ok.ensures.place ∙ ap (λ (net : NetSpec). named_lane net c.args.link c.args.lane) c.network.ensures) c.in-Ok.ensures.first refl c.in-Ok-place_meter.ensures.number c.in-Ok-place_meter.ensures.placed

pub returns-in-Err-place_meter-clause-serves : goal.returns-in-Err-place_meter-clause-serves
returns-in-Err-place_meter-clause-serves c = meter-starved c.args.streets.now c.args.link c.args.lane c.args.cell c.args.period (λ m same. c.in-Ok.ensures.passed m (same ∙ sym c.network.ensures))
    (good-period c.args.period (omega (arith, c.if-period-eq0.false)) (omega (arith, c.if-period-gt-MOST_PERIOD.false))) (omega (arith, c.detectors.ensures, c.if-detectors-ge-MOST_DETECTORS.false)) c.place_meter.new.self c.in-Err-place_meter.ensures.starved
