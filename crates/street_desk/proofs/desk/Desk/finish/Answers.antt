use Rattle.std.proofs.Common.{ℕ, ◌/◌, ◌%◌, ◌≤◌, arith, subst}
use Rattle.street_desk.specs.Passes.{PassView, Finished}
use Rattle.street_desk.specs.Rule.{recorded}
use Rattle.street_desk.proofs.Told.{closed_even, closed_count, finished}
use mathlib.Core.Logic.{dite}
use native.Mathlib.Decide.{ℕ_discrete}
use Rattle.street_desk.proofs.desk.Desk.finish.Goals.{in_default-via-in-Some+else-word-eq0, in_default-via-in_default}
use Rattle.street_desk.proofs.desk.Desk.finish.Goals as goal

pub returns-in-Some-clause-whole : goal.returns-in-Some-clause-whole
returns-in-Some-clause-whole g c =
    let w = closed_even _ _ _ _ _ _ _ _ c.close_with-closed.ensures.values.2 c.word-word.ensures c.take-slot.ensures.value c.if-word-eq0.true in
    let p = c.into_parts.ensures in
    (subst (λ (k : PassView). Finished k c.into_parts.result.1) c.pass.view_is (finished c.pass.inside.seat.table_id _ _ _ _ c.in-Some.recorder _ w c.in-Some.is p.history c.pass.invariant.1), p.state)

pub returns-clause-torn : goal.returns-clause-torn
returns-clause-torn g c =
    let f = c.close_with-closed.ensures.values.2 in
    let n = closed_count _ _ _ _ _ _ _ f c.word-word.ensures in
    let m = subst (λ (k : PassView). k.count ≤ c.word-word.result / 2) c.pass.view_is n in
    let word : ℕ = c.word-word.result in (
      elim c.in_default.branch [
        | in_default-via-in-Some+else-word-eq0 w ↦ (let odd = w.if-word-eq0.false in omega arith)
        | in_default-via-in_default w ↦
            dite (ℕ_discrete (word % 2) 0)
            (λ even. let x = closed_even _ _ _ _ _ _ _ _ f c.word-word.ensures c.take-slot.ensures.value even in absurd (w.in_default.not-Some (recorded x.history _) x.is))
            (λ odd. omega arith)
      ],
      m,
    )
