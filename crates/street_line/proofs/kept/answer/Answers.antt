use Rattle.std.proofs.Common.{[], inr, refl, sym, append-nil}
use Rattle.std.proofs.lemmas.Result.{IfOk-weaker}
use Rattle.street_line.proofs.KeptLines.{always_err}
use Rattle.street_line.proofs.Said.{refused}
use Rattle.street_text.specs.LineCommands.{reading}
use Rattle.street_line.proofs.kept.answer.Goals as goal

pub returns-in-Err-clause-kept : goal.returns-in-Err-clause-kept
returns-in-Err-clause-kept g c =
    let text = c.in_ok-text-in-Err.text.items in
    rw (refused c.in-Err.fault (reading c.args.line.now) text c.in-Err.ensures c.in_ok-text-in-Err.ensures)
    (text, [], (refl, c.in_ok-text-in-Err.ensures, refl), record { is_call = refl; text = refl }, sym (append-nil _))

pub returns-clause-kept : goal.returns-clause-kept
returns-clause-kept g c =
    let noted = c.in_ok-note.ensures in
    rw c.in-Ok.ensures (IfOk-weaker c.answer_to.result _ _
    (λ answer told. (told.0, noted.0, (c.serve-served.result, c.serve-served.ensures, told.1, noted.1), told.2, noted.2)) c.answer_to.ensures.answered)

pub returns-clause-halted : goal.returns-clause-halted
returns-clause-halted g c =
    rw c.in-Ok.ensures (always_err c.answer_to.result _ (inr (c.in-Ok.command, c.serve-served.result, refl, c.serve-served.ensures)))

pub returns-in_err-note-clause-halted : goal.returns-in_err-note-clause-halted
returns-in_err-note-clause-halted g c =
    rw c.in-Ok.ensures (always_err c.from_residual-in_err-note.result _ (inr (c.in-Ok.command, c.serve-served.result, refl, c.serve-served.ensures)))
