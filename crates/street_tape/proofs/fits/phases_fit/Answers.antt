use Rattle.std.proofs.Common.{arith}
use Rattle.street_text.specs.Fits.{PhaseFits}
use Rattle.street_tape.proofs.Each.{one_more, at_end}
use Rattle.street_tape.proofs.fits.phases_fit.Goals as goal

pub loop-spec-preserved : goal.loop-spec-preserved
loop-spec-preserved c = one_more PhaseFits c.args.specs.now c.loop-spec.spec-index c.spec-item.result (omega arith) c.loop-spec.invariant (rw (← c.spec-item.is) c.phase_fits.ensures)

pub returns : goal.returns
returns c = at_end PhaseFits c.args.specs.now c.loop-spec.spec-index (omega arith) c.loop-spec.invariant
