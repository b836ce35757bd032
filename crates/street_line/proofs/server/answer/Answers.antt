use Rattle.std.proofs.Common.{refl, inr, subst}
use Rattle.std.proofs.lemmas.Result.{IfOk-weaker, on_err_weaker}
use Rattle.street_line.proofs.Said.{refused}
use Rattle.street_line.specs.Runs.{faulty, calls}
use Rattle.street_line.specs.ServedLine.{effect_of}
use Rattle.street_line.specs.declared.service.Served.{Served}
use Rattle.street_text.specs.LineCommands.{reading}
use Rattle.street_line.proofs.server.answer.Goals as goal

pub returns-in-Err-clause-answered : goal.returns-in-Err-clause-answered
returns-in-Err-clause-answered g c =
    let text = c.in_ok-text-in-Err.text.items in
    rw (refused c.in-Err.fault (reading c.args.line.now) text c.in-Err.ensures c.in_ok-text-in-Err.ensures)
    (effect_of (faulty c.in-Err.fault) text, (text, (refl, c.in_ok-text-in-Err.ensures), refl), record { is_call = refl; text = refl })

pub returns-clause-answered : goal.returns-clause-answered
returns-clause-answered g c =
    rw c.in-Ok.ensures (IfOk-weaker c.answer_to.result _ _
    (λ answer told. (effect_of (calls c.in-Ok.command) told.0, (told.0, (c.serve-served.result, c.serve-served.ensures, told.1), refl), told.2)) c.answer_to.ensures.answered)

pub returns-clause-starved : goal.returns-clause-starved
returns-clause-starved g c =
    rw c.in-Ok.ensures (on_err_weaker c.answer_to.result
    (λ unanswered. inr (c.in-Ok.command, refl, subst (λ (served : Served). g.S.Service.serves c.args.service.now c.in-Ok.command served c.serve-served.new.self) unanswered c.serve-served.ensures))
    c.answer_to.ensures.unanswered)
