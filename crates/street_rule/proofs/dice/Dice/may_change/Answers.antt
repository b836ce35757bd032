use Rattle.std.proofs.Common.{◌<◌, subst, ◌∙◌}
use Rattle.street_rule.specs.Prelude.{Odds}
use Rattle.street_rule.proofs.DrawLemmas.{settled, lane-bit}
use Rattle.street_rule.proofs.dice.Dice.may_change.Goals as goal

pub returns-then-not-self-clause-value : goal.returns-then-not-self-clause-value
returns-then-not-self-clause-value c = rw (← c.self.view_is) (settled _ _ _ _ c.self.inside.change_drawn c.self.invariant.of_change c.if-not-self.true)

pub returns-clause-value : goal.returns-clause-value
returns-clause-value c =
    let choice = c.self.invariant.of_change.0 c.if-not-self.false in
    let some = subst (λ (o : Odds). 0 < o.change) c.self.view_is choice.0 in
    let under = subst (λ (o : Odds). o.change < 1000) c.self.view_is choice.1 in
    c.bit.ensures ∙ lane-bit _ _ _ _ c.look-kept.result.block _ c.look-kept.ensures.block (rw c.look-kept.ensures.number at c.look-kept.ensures.kept.changes some under)
