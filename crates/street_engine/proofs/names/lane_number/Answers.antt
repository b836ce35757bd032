use Rattle.std.proofs.Common.{arith}
use Rattle.street_engine.proofs.Numbers.{small-lane}
use Rattle.street_engine.proofs.names.lane_number.Goals as goal

pub overflow_cast-result : goal.overflow_cast-result
overflow_cast-result c = omega (arith, small-lane c.args.net.now c.spec-faultless.ensures.faultless c.requires.0 c.args.lane c.requires.1)
