use Rattle.std.proofs.Common.{◌<◌, subst, ◌∙◌}
use Rattle.street_rule.specs.Prelude.{Odds}
use Rattle.street_rule.proofs.DrawLemmas.{settled, slow-bit}
use Rattle.street_rule.proofs.dice.Dice.dawdles.Goals as goal

pub returns-then-not-self-clause-value : goal.returns-then-not-self-clause-value
returns-then-not-self-clause-value c = rw (← c.self.view_is) (settled _ _ _ _ c.self.inside.dawdle_drawn c.self.invariant.of_dawdle c.if-not-self.true)

pub returns-clause-value : goal.returns-clause-value
returns-clause-value c =
    let choice = c.self.invariant.of_dawdle.0 c.if-not-self.false in
    let some = subst (λ (o : Odds). 0 < o.dawdle) c.self.view_is choice.0 in
    let under = subst (λ (o : Odds). o.dawdle < 1000) c.self.view_is choice.1 in
    c.bit.ensures ∙ slow-bit _ _ _ _ c.look-kept.result.block _ c.look-kept.ensures.block (rw c.look-kept.ensures.number at c.look-kept.ensures.kept.dawdles some under)
