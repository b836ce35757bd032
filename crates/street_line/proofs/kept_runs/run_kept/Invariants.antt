use Rattle.std.proofs.Common.{◌≡◌, List, ℕ, ◌<◌, true}
use Rattle.std.specs.Io.KnownBytes.{Consumes}
use Rattle.street_stream.specs.Lines.{cut}
use Rattle.street_stream.specs.OpenTexts.{IsOpen}
use Rattle.street_text.specs.LineCommands.{longest_line}
use Rattle.street_line.specs.Kept.{Passed}
use Rattle.street_line.proofs.kept_runs.run_kept.Given as goal

abbrev pub invariant-loop : goal.invariant-loop
invariant-loop g l =
    (earlier : List ℕ) × Consumes (g.R.Read.remaining l.fn.reader.stream) (g.R.Read.remaining l.reader.stream) earlier
    × Passed g.S.Service.serves l.fn.service (g.L.WriteAheadLog.held l.fn.log) (g.W.Write.contents l.fn.writer.stream) (cut earlier).0 l.service
    (g.L.WriteAheadLog.held l.log) (g.L.WriteAheadLog.held l.log) (g.W.Write.contents l.writer.stream)
    × (g.L.WriteAheadLog.synced l.log ≡ g.L.WriteAheadLog.held l.log)
    × IsOpen longest_line l.text (cut earlier).1
    × (l.reader.calls ≡ l.counter)
    × (0 < l.counter → (l.reader.is_prompt ≡ true) × (l.writer.is_flushed ≡ true))
    × (g.L.WriteAheadLog.has_failed l.log → g.L.WriteAheadLog.has_failed l.fn.log)
