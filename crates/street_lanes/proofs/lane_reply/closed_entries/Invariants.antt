use Rattle.std.proofs.Common.{◌≡◌, map, take}
use Rattle.street_lanes.specs.Prelude.{shown_stretch}
use Rattle.street_lanes.proofs.lane_reply.closed_entries.Given as goal

abbrev pub invariant-loop-stretch : goal.invariant-loop-stretch
invariant-loop-stretch l = l.entries.items ≡ map shown_stretch (take l.stretch-index l.stretches)
