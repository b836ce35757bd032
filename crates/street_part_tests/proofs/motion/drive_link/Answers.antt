use Rattle.std.proofs.Common.{arith}
use Rattle.street_rule.specs.Prelude.{no_lane}
use Rattle.street_part_tests.proofs.motion.drive_link.Goals as goal

pub motion_pass-requires-clause-stands : goal.motion_pass-requires-clause-stands
motion_pass-requires-clause-stands c = let lanes = c.requires.lanes in c.lane_pass.ensures.road.lanes 0 no_lane (omega (arith, lanes))
