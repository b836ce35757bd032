use Rattle.std.proofs.Common.{refl}
use Rattle.street_line_tests.proofs.Texts.{some_text}
use Rattle.street_line_tests.proofs.driver.AnswererLineHandler.take.Goals as goal

pub returns-clause-taken : goal.returns-clause-taken
returns-clause-taken c = λ whole part.
    let text = some_text c.reply_to.result in
    (record { is_call = c.if-as_slice-le3.result; reply = text.0 }, tt, record { is_call = refl; text = text.1 })
