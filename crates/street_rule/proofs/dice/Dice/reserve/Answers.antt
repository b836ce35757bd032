use Rattle.std.proofs.Common.{sym, subst, ◌∙◌}
use Rattle.std.proofs.lemmas.List.Elements.{All-append, All-replicate}
use Rattle.street_base.specs.Prelude.{key_of_seed}
use Rattle.street_rule.specs.Prelude.{IsKept, Odds}
use Rattle.street_rule.proofs.dice.Dice.reserve.Goals as goal

pub invariant_of-self : goal.invariant_of-self
invariant_of-self c =
    let right = IsKept c.self-2.inside.rng.key c.self-2.inside.dawdle c.self-2.inside.change in
    let first : right c.some_draws-first.result = subst (λ k. IsKept k c.self-2.inside.dawdle c.self-2.inside.change c.some_draws-first.result) (sym c.self-2.invariant.of_seed)
    (subst (λ (o : Odds). IsKept (key_of_seed o.seed) o.dawdle o.change c.some_draws-first.result) (sym (c.self-2.view_is ∙ c.some_draws-first.ensures.same)) c.some_draws-first.ensures.kept) in
    rw c.grow.ensures.1 (record {
      of_seed = c.self-2.invariant.of_seed;
      of_dawdle = c.self-2.invariant.of_dawdle;
      of_change = c.self-2.invariant.of_change;
      each = c.self-2.invariant.each;
      set_aside = All-append right _ _ c.self-2.invariant.set_aside (All-replicate right c.grow.ensures.0 _ first);
    })

pub invariant_of-self-2 : goal.invariant_of-self-2
invariant_of-self-2 c =
    let right = IsKept c.self-2.inside.rng.key c.self-2.inside.dawdle c.self-2.inside.change in
    let first : right c.some_draws-first.result = subst (λ k. IsKept k c.self-2.inside.dawdle c.self-2.inside.change c.some_draws-first.result) (sym c.self-2.invariant.of_seed)
    (subst (λ (o : Odds). IsKept (key_of_seed o.seed) o.dawdle o.change c.some_draws-first.result) (sym (c.self-2.view_is ∙ c.some_draws-first.ensures.same)) c.some_draws-first.ensures.kept) in
    rw (c.grow.ensures.1, c.grow-2.ensures.1) (record {
      of_seed = c.self-2.invariant.of_seed;
      of_dawdle = c.self-2.invariant.of_dawdle;
      of_change = c.self-2.invariant.of_change;
      each = All-append right _ _ c.self-2.invariant.each (All-replicate right c.grow-2.ensures.0 _ first);
      set_aside = All-append right _ _ c.self-2.invariant.set_aside (All-replicate right c.grow.ensures.0 _ first);
    })
