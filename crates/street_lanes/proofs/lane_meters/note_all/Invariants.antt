use Rattle.street_lanes.specs.Prelude.{lane_of}
use Rattle.street_lanes.proofs.NotedMeters.{IsNoted}
use Rattle.street_lanes.proofs.lane_meters.note_all.Given as goal

abbrev pub invariant-loop-k : goal.invariant-loop-k
invariant-loop-k l = IsNoted (lane_of l.own l.lane) l.watches l.fn.meters l.k l.meters
