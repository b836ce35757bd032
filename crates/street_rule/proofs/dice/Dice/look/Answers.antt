use Rattle.std.proofs.Common.{◌<◌, refl, sym, subst, ◌∙◌}
use Rattle.std.proofs.lemmas.List.Elements.{All-set}
use Rattle.street_base.specs.Prelude.{key_of_seed}
use Rattle.street_rule.specs.Prelude.{IsKept, Odds}
use Rattle.street_rule.proofs.dice.Dice.look.Goals as goal

pub invariant_of-self : goal.invariant_of-self
invariant_of-self c = record {
  of_seed = c.self-2.invariant.of_seed;
  of_dawdle = c.self-2.invariant.of_dawdle;
  of_change = c.self-2.invariant.of_change;
  each = All-set (IsKept c.self-2.inside.rng.key c.self-2.inside.dawdle c.self-2.inside.change) _ _ _
      (subst (λ k. IsKept k c.self-2.inside.dawdle c.self-2.inside.change c.aside_or_drawn-kept.result) (sym c.self-2.invariant.of_seed)
      (subst (λ (o : Odds). IsKept (key_of_seed o.seed) o.dawdle o.change c.aside_or_drawn-kept.result) (sym (c.self-2.view_is ∙ c.aside_or_drawn-kept.ensures.same)) c.aside_or_drawn-kept.ensures.kept))
      c.self-2.invariant.each;
  set_aside = c.self-2.invariant.set_aside;
}

pub index-kept-requires : goal.index-kept-requires
index-kept-requires c = subst (λ n. c.args.at < n) c.len.ensures c.if-at-len.true

pub returns-then-is_for-clause-kept : goal.returns-then-is_for-clause-kept
returns-then-is_for-clause-kept c =
    subst (λ (o : Odds). IsKept (key_of_seed o.seed) o.dawdle o.change c.index-kept.result.now) c.self.view_is
    (subst (λ k. IsKept k c.self.inside.dawdle c.self.inside.change c.index-kept.result.now) c.self.invariant.of_seed
    (subst (IsKept c.self.inside.rng.key c.self.inside.dawdle c.self.inside.change) (sym c.index-kept.ensures)
    (c.self.invariant.each c.args.at c.index-kept.result.now (subst (λ n. c.args.at < n) (c.len.ensures ∙ c.self.inside.kept.ok.0) c.if-at-len.true))))

pub returns-then-is_for-clause-number : goal.returns-then-is_for-clause-number
returns-then-is_for-clause-number c = (c.is_for.ensures.0 c.if-is_for.true).0

pub returns-then-is_for-clause-block : goal.returns-then-is_for-clause-block
returns-then-is_for-clause-block c = (c.is_for.ensures.0 c.if-is_for.true).1

pub returns-then-is_for-clause-same : goal.returns-then-is_for-clause-same
returns-then-is_for-clause-same c = refl

pub index_mut-requires : goal.index_mut-requires
index_mut-requires c = subst (λ n. c.args.at < n) c.len-2.ensures c.if-at-len-2.true

pub returns-then-at-len-2-clause-kept : goal.returns-then-at-len-2-clause-kept
returns-then-at-len-2-clause-kept c = c.aside_or_drawn-kept.ensures.kept

pub returns-then-at-len-2-clause-number : goal.returns-then-at-len-2-clause-number
returns-then-at-len-2-clause-number c = c.aside_or_drawn-kept.ensures.number

pub returns-then-at-len-2-clause-block : goal.returns-then-at-len-2-clause-block
returns-then-at-len-2-clause-block c = c.aside_or_drawn-kept.ensures.block

pub returns-else-at-len-2-clause-kept : goal.returns-else-at-len-2-clause-kept
returns-else-at-len-2-clause-kept c = c.aside_or_drawn-kept.ensures.kept

pub returns-else-at-len-2-clause-number : goal.returns-else-at-len-2-clause-number
returns-else-at-len-2-clause-number c = c.aside_or_drawn-kept.ensures.number

pub returns-else-at-len-2-clause-block : goal.returns-else-at-len-2-clause-block
returns-else-at-len-2-clause-block c = c.aside_or_drawn-kept.ensures.block

pub returns-then-at-len-2-clause-same : goal.returns-then-at-len-2-clause-same
returns-then-at-len-2-clause-same c = c.self-2.view_is ∙ c.aside_or_drawn-kept.ensures.same

pub returns-else-at-len-2-clause-same : goal.returns-else-at-len-2-clause-same
returns-else-at-len-2-clause-same c = c.aside_or_drawn-kept.ensures.same
