use Rattle.std.proofs.Common.{◌-◌, ◌≤◌, length, take}
use Rattle.street_stream.specs.Calls.{OnlyWrites}
use Rattle.street_stream.specs.Progress.{Feeds, Grows}
use Rattle.street_stream.proofs.driver.feed.Given as goal

abbrev pub invariant-lines : goal.invariant-lines
invariant-lines g l =
    (l.at ≤ length l.bytes)
    × Feeds g.H.LineHandler.meaning.takes g.H.LineHandler.meaning.longest l.fn.handler (g.W.Write.contents l.fn.writer.stream) l.fn.progress (take l.at l.bytes)
    l.handler (g.W.Write.contents l.writer.stream) l.progress
    × Grows l.fn.progress.tally l.progress.tally l.at
    × OnlyWrites g.W.Sink.takes l.fn.writer.stream l.writer.stream

abbrev pub decreases-lines : goal.decreases-lines
decreases-lines g l = length l.bytes - l.at
