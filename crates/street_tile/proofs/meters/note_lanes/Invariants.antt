use Rattle.street_tile.proofs.MetersStand.{AreNoted}
use Rattle.street_tile.proofs.meters.note_lanes.Given as goal

abbrev pub invariant-loop-n : goal.invariant-loop-n
invariant-loop-n l = AreNoted l.own l.fn.detectors l.n l.detectors
