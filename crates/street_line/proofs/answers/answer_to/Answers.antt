use Rattle.std.proofs.Common.{codes}
use Rattle.street_line.proofs.Said.{full_is, line_is, line_some, reply_some}
use Rattle.street_text.specs.ReplyLines.{line_of, error_data, reply_line}
use Rattle.street_line.proofs.answers.answer_to.Goals as goal

pub returns-in-Answered-clause-answered : goal.returns-in-Answered-clause-answered
returns-in-Answered-clause-answered c =
    let reply = c.in-Answered.reply in
    rw c.in-Answered.is (reply_line reply, line_is reply, c.answer_with.ensures (reply_line reply) (reply_some reply) c.reply_text.ensures)

pub returns-in-Full-clause-answered : goal.returns-in-Full-clause-answered
returns-in-Full-clause-answered c =
    let line = line_of (error_data 23 (codes "Full")) in
    rw c.in-Full.is (line, full_is, c.answer_with-in-Full.ensures line (line_some (error_data 23 (codes "Full"))) c.error_text.ensures)
