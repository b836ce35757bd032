use Rattle.std.proofs.Common.{◌∙◌, [], refl, sym, subst}
use Rattle.std.proofs.lemmas.Result.{IfOk-weaker, on_err_weaker}
use Rattle.street_line.proofs.Said.{said_blank, said_kept}
use Rattle.street_line.specs.Runs.{Said, silent}
use Rattle.street_line.specs.ServedLine.{effect_of, IsAnswered, StopsAt}
use Rattle.street_line.proofs.server.LineServerLineHandler.take.Goals as goal

pub returns-then-is_blank-clause-taken : goal.returns-then-is_blank-clause-taken
returns-then-is_blank-clause-taken g c = λ whole part.
    rw (said_blank whole (sym (c.is_blank.ensures _ whole part) ∙ c.if-is_blank.true)) (effect_of silent [], (refl, ([], (refl, refl), refl)), record { is_call = refl; text = refl })

pub returns-clause-taken : goal.returns-clause-taken
returns-clause-taken g c = λ whole part.
    let says = said_kept whole c.as_slice.result.now (sym (c.is_blank.ensures _ whole part) ∙ c.if-is_blank.false) (c.as_slice.ensures _ whole part) in
    IfOk-weaker c.answer.result _ _
    (λ answer got. (got.0, (refl, subst (λ (what : Said). IsAnswered g.S.Service.serves c.args.self.now.service.now what got.0 c.answer.new.service) (sym says) got.1), got.2))
    c.answer.ensures.answered

pub returns-clause-stopped : goal.returns-clause-stopped
returns-clause-stopped g c = λ whole part.
    let says = said_kept whole c.as_slice.result.now (sym (c.is_blank.ensures _ whole part) ∙ c.if-is_blank.false) (c.as_slice.ensures _ whole part) in
    on_err_weaker c.answer.result
    (λ stops. (refl, subst (λ (what : Said). StopsAt g.S.Service.serves c.args.self.now.service.now what c.answer.new.service) (sym says) stops))
    c.answer.ensures.starved
