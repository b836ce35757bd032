use Rattle.std.proofs.Common.{◌∙◌, false, None, refl, sym, subst}
use Rattle.std.proofs.lemmas.Result.{IfErr-weaker, IfOk-weaker}
use Rattle.street_line.proofs.Said.{said_blank, said_kept}
use Rattle.street_line.specs.Redo.{RedoSaid, RedoStopSaid}
use Rattle.street_line.specs.Runs.{Said}
use Rattle.street_line.proofs.redo.RedoHandlerLineHandler.take.Goals as goal

pub returns-then-is_blank-clause-taken : goal.returns-then-is_blank-clause-taken
returns-then-is_blank-clause-taken g c = λ whole part.
    rw (said_blank whole (sym (c.is_blank.ensures _ whole part) ∙ c.if-is_blank.true))
    (record { is_call = false; reply = None }, (refl, (refl, refl)), record { is_call = refl; text = refl })

pub returns-clause-taken : goal.returns-clause-taken
returns-clause-taken g c = λ whole part.
    let says = said_kept whole c.as_slice.result.now (sym (c.is_blank.ensures _ whole part) ∙ c.if-is_blank.false) (c.as_slice.ensures _ whole part) in
    IfOk-weaker c.do_line.result _ _
    (λ answer got. (
      record { is_call = answer.is_call; reply = None },
      (refl, (subst (λ (what : Said). RedoSaid g.S.Service.serves c.args.self.now.service.now what c.do_line.new.service) (sym says) got.0, refl)),
      record { is_call = refl; text = rw got.1 refl },
    ))
    c.do_line.ensures.done

pub returns-clause-stopped : goal.returns-clause-stopped
returns-clause-stopped g c = λ whole part.
    let says = said_kept whole c.as_slice.result.now (sym (c.is_blank.ensures _ whole part) ∙ c.if-is_blank.false) (c.as_slice.ensures _ whole part) in
    IfErr-weaker c.do_line.result _ _
    (λ stop got. (refl, subst (λ (what : Said). RedoStopSaid g.S.Service.serves c.args.self.now.service.now what stop c.do_line.new.service) (sym says) got))
    c.do_line.ensures.stop
