use Rattle.std.proofs.Common.{None, Some, refl, sym, append-nil}
use Rattle.std.proofs.lemmas.Result.{err_from_is_err_and}
use Rattle.street_tape.specs.ReplayHandler.{silent}
use Rattle.street_tape.proofs.Taken.{takes_kept, refuses_kept}
use Rattle.street_tape.proofs.upgrades.UpgraderLineHandler.take.Goals as goal

pub returns-in_err-taken-clause-stopped : goal.returns-in_err-taken-clause-stopped
returns-in_err-taken-clause-stopped c = λ whole part.
    let p = err_from_is_err_and c.from_residual.result c.from_residual.ensures.1 in
    let refused = rw (c.as_slice.ensures _ whole part) at c.in_err-taken.ensures.refused in
    rw (p.1, p.2) (refuses_kept _ whole _ refused)

pub returns-in-None-clause-taken : goal.returns-in-None-clause-taken
returns-in-None-clause-taken c = λ whole part.
    let taken = rw (c.as_slice.ensures _ whole part, c.in-None.is) at c.in_ok-taken.ensures.taken in
    (silent, (None, takes_kept _ whole None _ taken, sym (append-nil c.args.self.now.lines.items), refl), record { is_call = refl; text = refl })

pub returns-in_ok-keep_line-in-Some-clause-taken : goal.returns-in_ok-keep_line-in-Some-clause-taken
returns-in_ok-keep_line-in-Some-clause-taken c = λ whole part.
    let taken = rw (c.as_slice.ensures _ whole part, c.in-Some.is) at c.in_ok-taken.ensures.taken in
    (_, (Some c.in-Some.call, takes_kept _ whole _ _ taken, c.in_ok-keep_line-in-Some.ensures, refl), record { is_call = refl; text = refl })
