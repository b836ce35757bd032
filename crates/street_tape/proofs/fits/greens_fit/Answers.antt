use Rattle.std.proofs.Common.{arith}
use Rattle.street_text.specs.Fits.{GreenFits}
use Rattle.street_tape.proofs.Each.{one_more, at_end}
use Rattle.street_tape.proofs.fits.greens_fit.Goals as goal

pub loop-spec-preserved : goal.loop-spec-preserved
loop-spec-preserved c = one_more GreenFits c.args.specs.now c.loop-spec.spec-index _ (omega arith) c.loop-spec.invariant c.green_fits.ensures

pub returns : goal.returns
returns c = at_end GreenFits c.args.specs.now c.loop-spec.spec-index (omega arith) c.loop-spec.invariant
