use Rattle.std.proofs.Common.{◌≡◌}
use Rattle.street_lanes.specs.Prelude.{Packs}
use Rattle.street_lanes.proofs.packing.pack_lanes.Given as goal

abbrev pub invariant-loop-lane : goal.invariant-loop-lane
invariant-loop-lane l = Packs l.fn.yard l.yard × (l.dice ≡ l.fn.dice)
