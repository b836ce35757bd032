use Rattle.std.proofs.Common.{◌∙◌, [], refl, sym, subst, append-nil}
use Rattle.std.proofs.lemmas.Result.{IfErr-weaker, IfOk-weaker}
use Rattle.street_line.proofs.KeptLines.{answers_whole}
use Rattle.street_line.proofs.Said.{said_blank, said_kept}
use Rattle.street_line.specs.Kept.{HaltsAt}
use Rattle.street_line.specs.Runs.{Said, silent}
use Rattle.street_line.specs.ServedLine.{effect_of}
use Rattle.street_line.proofs.kept.KeptServerLineHandler.take.Goals as goal

pub returns-then-is_blank-clause-taken : goal.returns-then-is_blank-clause-taken
returns-then-is_blank-clause-taken g c = λ whole part.
    rw (said_blank whole (sym (c.is_blank.ensures _ whole part) ∙ c.if-is_blank.true))
    (effect_of silent [], (refl, (refl, ([], [], (refl, refl, refl), refl, sym (append-nil _)))), record { is_call = refl; text = refl })

pub returns-clause-taken : goal.returns-clause-taken
returns-clause-taken g c = λ whole part.
    let blank = sym (c.is_blank.ensures _ whole part) ∙ c.if-is_blank.false in
    IfOk-weaker c.answer.result _ _
    (λ answer got.
    let line = answers_whole g.S.Service.serves _ whole c.as_slice.result.now answer _ blank (c.as_slice.ensures _ whole part) got in
    (line.0, (refl, (refl, line.1)), line.2))
    c.answer.ensures.kept

pub returns-clause-stopped : goal.returns-clause-stopped
returns-clause-stopped g c = λ whole part.
    let says = said_kept whole c.as_slice.result.now (sym (c.is_blank.ensures _ whole part) ∙ c.if-is_blank.false) (c.as_slice.ensures _ whole part) in
    IfErr-weaker c.answer.result _ _
    (λ stop got. (refl, subst (λ (what : Said). HaltsAt g.S.Service.serves c.args.self.now.service.now what c.answer.new.service) (sym says) got))
    c.answer.ensures.halted
