use Rattle.std.proofs.Common.{length, ◌-◌, ◌≤◌, take}
use Rattle.std.specs.Io.KnownBytes.{Appends}
use Rattle.street_stream.specs.Logs.{Extends}
use Rattle.street_stream.proofs.log.append_all.Given as goal

abbrev pub invariant-loop-at : goal.invariant-loop-at
invariant-loop-at g l = (l.at ≤ length l.text) × Appends (g.L.WriteAheadLog.held l.fn.log) (g.L.WriteAheadLog.held l.log) (take l.at l.text) × Extends (g.L.WriteAheadLog.synced l.fn.log) (g.L.WriteAheadLog.synced l.log)
    × (Extends (g.L.WriteAheadLog.synced l.fn.log) (g.L.WriteAheadLog.held l.fn.log) → Extends (g.L.WriteAheadLog.synced l.log) (g.L.WriteAheadLog.held l.log))
    × (g.L.WriteAheadLog.has_failed l.log → g.L.WriteAheadLog.has_failed l.fn.log)

abbrev pub decreases-loop-at : goal.decreases-loop-at
decreases-loop-at g l = length l.text - l.at
