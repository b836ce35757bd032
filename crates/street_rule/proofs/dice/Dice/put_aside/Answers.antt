use Rattle.std.proofs.Common.{sym, subst, arith}
use Rattle.std.proofs.lemmas.List.Elements.{All-set, All-get_or}
use Rattle.street_rule.specs.Prelude.{IsKept}
use Rattle.street_rule.proofs.dice.Dice.put_aside.Goals as goal

pub invariant_of-self : goal.invariant_of-self
invariant_of-self c = record {
  of_seed = c.self.invariant.of_seed;
  of_dawdle = c.self.invariant.of_dawdle;
  of_change = c.self.invariant.of_change;
  each = c.self.invariant.each;
  set_aside = All-set (IsKept c.self.inside.rng.key c.self.inside.dawdle c.self.inside.change) _ _ _
      (subst (IsKept c.self.inside.rng.key c.self.inside.dawdle c.self.inside.change) (sym c.index-kept.ensures)
      (All-get_or (IsKept c.self.inside.rng.key c.self.inside.dawdle c.self.inside.change) _ _ _ (omega (arith, c.len.ensures)) c.self.invariant.each))
      c.self.invariant.set_aside;
}
