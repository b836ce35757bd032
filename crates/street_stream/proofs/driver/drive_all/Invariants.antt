use Rattle.std.proofs.Common.{◌≡◌, List, ℕ, ◌*◌, ◌<◌, true}
use Rattle.std.specs.Io.KnownBytes.{Consumes}
use Rattle.street_stream.specs.Calls.{AreRounds}
use Rattle.street_stream.specs.Progress.{Feeds, Grows}
use Rattle.street_stream.proofs.driver.drive_all.Given as goal

abbrev pub invariant-loop : goal.invariant-loop
invariant-loop g l =
    (text : List ℕ) × Consumes (g.R.Read.remaining l.fn.reader.stream) (g.R.Read.remaining l.reader.stream) text
    × Feeds g.H.LineHandler.meaning.takes g.H.LineHandler.meaning.longest l.fn.handler (g.W.Write.contents l.fn.writer.stream) l.fn.progress text
    l.handler (g.W.Write.contents l.writer.stream) l.progress
    × Grows l.fn.progress.tally l.progress.tally (l.counter * 4096)
    × (l.reader.calls ≡ l.counter)
    × (0 < l.counter → (l.reader.is_prompt ≡ true) × (l.writer.is_flushed ≡ true))
    × AreRounds g.R.Source.gives g.W.Sink.takes g.W.Sink.passes l.counter l.fn.reader.stream l.fn.writer.stream l.reader.stream l.writer.stream
