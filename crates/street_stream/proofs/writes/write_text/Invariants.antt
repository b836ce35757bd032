use Rattle.std.proofs.Common.{length, ◌-◌, ◌≤◌, take}
use Rattle.std.specs.Io.KnownBytes.{Appends}
use Rattle.street_stream.specs.Calls.{OnlyWrites}
use Rattle.street_stream.proofs.writes.write_text.Given as goal

abbrev pub invariant-loop-at : goal.invariant-loop-at
invariant-loop-at g l =
    (l.at ≤ length l.text) × Appends (g.W.Write.contents l.fn.writer.stream) (g.W.Write.contents l.writer.stream) (take l.at l.text)
    × OnlyWrites g.W.Sink.takes l.fn.writer.stream l.writer.stream

abbrev pub decreases-loop-at : goal.decreases-loop-at
decreases-loop-at g l = length l.text - l.at
