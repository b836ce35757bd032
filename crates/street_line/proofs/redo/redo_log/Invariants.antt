use Rattle.std.proofs.Common.{◌≡◌, List, ℕ, ◌+◌, ◌*◌, ◌≤◌, length}
use Rattle.std.specs.Io.KnownBytes.{Consumes}
use Rattle.street_stream.specs.Lines.{cut}
use Rattle.street_stream.specs.OpenTexts.{IsOpen}
use Rattle.street_text.specs.LineCommands.{longest_line}
use Rattle.street_line.specs.Redo.{Redoes}
use Rattle.street_line.proofs.redo.redo_log.Given as goal

abbrev pub invariant-loop : goal.invariant-loop
invariant-loop g l =
    (earlier : List ℕ) × Consumes (g.R.Read.remaining l.fn.reader.stream) (g.R.Read.remaining l.reader.stream) earlier
    × Redoes g.S.Service.serves l.fn.service (cut earlier).0 l.service
    × IsOpen longest_line l.text (cut earlier).1
    × (l.redo.bytes + length (cut earlier).1 ≡ length earlier)
    × (l.total ≡ length earlier)
    × (l.total ≤ l.counter * 4096)
    × (l.reader.calls ≡ l.counter)
    × (l.redo.lines ≡ length (cut earlier).0)
