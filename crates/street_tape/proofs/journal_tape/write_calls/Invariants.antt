use Rattle.std.proofs.Common.{◌≡◌, ◌≤◌, ◌+◌, ◌*◌, ◌-◌, ◌^◌, ◌++◌, take, length}
use Rattle.std.specs.Io.KnownBytes.{Appends}
use Rattle.street_tape.specs.Tapes.{entry_lines, head_line}
use Rattle.street_tape.proofs.journal_tape.write_calls.Given as goal

abbrev pub invariant-loop-at : goal.invariant-loop-at
invariant-loop-at g l =
    (l.bytes ≡ length (head_line (length l.journal) ++ entry_lines (take l.at l.journal)))
    × Appends (g.W.Write.contents l.fn.writer.stream) (g.W.Write.contents l.writer.stream) (head_line (length l.journal) ++ entry_lines (take l.at l.journal))
    × (l.bytes ≤ (l.at + 1) * (2 ^ 64 - 1))
