use Rattle.std.proofs.Common.{take}
use Rattle.street_lanes.specs.Inside.{AreExtents}
use Rattle.street_lanes.proofs.lanes.extents_of.Given as goal

abbrev pub invariant-loop-at : goal.invariant-loop-at
invariant-loop-at l = AreExtents l.net (take l.at-index l.own) l.extents.items
