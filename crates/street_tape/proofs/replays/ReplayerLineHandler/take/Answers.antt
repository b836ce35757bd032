use Rattle.std.proofs.Common.{None, Some, inl, inr, refl}
use Rattle.std.proofs.lemmas.Result.{err_from_is_err_and, IfOk-weaker, IfErr-weaker}
use Rattle.street_tape.specs.ReplayHandler.{silent}
use Rattle.street_tape.proofs.Taken.{takes_kept, refuses_kept}
use Rattle.street_tape.proofs.replays.ReplayerLineHandler.take.Goals as goal

pub returns-in_err-taken-clause-stopped : goal.returns-in_err-taken-clause-stopped
returns-in_err-taken-clause-stopped g c = λ whole part.
    let p = err_from_is_err_and c.from_residual.result c.from_residual.ensures.1 in
    let refused = rw (c.as_slice.ensures _ whole part) at c.in_err-taken.ensures.refused in
    rw (p.1, p.2) (refl, inl (refuses_kept _ whole _ refused, refl))

pub returns-in-None-clause-taken : goal.returns-in-None-clause-taken
returns-in-None-clause-taken g c = λ whole part.
    let taken = rw (c.as_slice.ensures _ whole part, c.in-None.is) at c.in_ok-taken.ensures.taken in
    (silent, (refl, (None, takes_kept _ whole None _ taken, (refl, refl))), record { is_call = refl; text = refl })

pub returns-in-Some-clause-taken : goal.returns-in-Some-clause-taken
returns-in-Some-clause-taken g c = λ whole part.
    let taken = rw (c.as_slice.ensures _ whole part, c.in-Some.is) at c.in_ok-taken.ensures.taken in
    IfOk-weaker c.answer.result _ _ (λ answer got. (got.0, (refl, (Some c.in-Some.call, takes_kept _ whole _ _ taken, got.1)), got.2)) c.answer.ensures.answered

pub returns-in-Some-clause-stopped : goal.returns-in-Some-clause-stopped
returns-in-Some-clause-stopped g c = λ whole part.
    let taken = rw (c.as_slice.ensures _ whole part, c.in-Some.is) at c.in_ok-taken.ensures.taken in
    IfErr-weaker c.answer.result _ _ (λ stop halts. (refl, inr (c.in-Some.call, _, takes_kept _ whole _ _ taken, halts))) c.answer.ensures.stopped
