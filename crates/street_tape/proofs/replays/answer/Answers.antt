use Rattle.std.proofs.Common.{refl, sym, ap, Some, true}
use Rattle.street_stream.specs.HandledLines.{GivesText}
use Rattle.street_text.specs.ReplyLines.{reply_line}
use Rattle.street_tape.proofs.Counts.{some_reply}
use Rattle.street_tape.proofs.replays.answer.Goals as goal
use Rattle.street_tape.proofs.replays.answer.Goals.{in-Ok, in-Err}

pub returns-clause-answered : goal.returns-clause-answered
returns-clause-answered g c =
    let said = c.in_ok-said.said in
    let gives : GivesText c.match-reply_text.reply (Some (reply_line said)) = elim c.match-reply_text.branch [
      | in-Ok w ↦ rw w.reply-is (ap Some (sym w.in-Ok.ensures))
      | in-Err w ↦ rw w.reply-is (reply_line said, some_reply said, refl)
    ] in (
      record { is_call = true; reply = Some (reply_line said) },
      (refl, λ m stands. let did = c.in_ok-said.ensures.done m stands in (did.0, ap (λ r. Some (reply_line r)) did.1, did.2)),
      record { is_call = refl; text = gives },
    )
