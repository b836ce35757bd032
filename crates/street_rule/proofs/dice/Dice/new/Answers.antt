use Rattle.std.proofs.Common.{refl}
use Rattle.std.proofs.lemmas.List.Elements.{All-replicate}
use Rattle.std.proofs.lemmas.Result.{IfOk-from_err}
use Rattle.street_rule.specs.Prelude.{IsKept}
use Rattle.street_rule.proofs.dice.Dice.new.Goals as goal

pub returns-in_err-kept : goal.returns-in_err-kept
returns-in_err-kept c = IfOk-from_err c.from_residual.result _ c.from_residual.ensures.0

pub returns-in_err-aside : goal.returns-in_err-aside
returns-in_err-aside c = IfOk-from_err c.from_residual-in_err-aside.result _ c.from_residual-in_err-aside.ensures.0

pub invariant_of-result : goal.invariant_of-result
invariant_of-result c =
    let first = All-replicate (IsKept c.generator-rng.result.key c.args.dawdle c.args.change) in
    rw (c.drawn-first.ensures.key, c.in_ok-kept.ensures.items_if_clones_equal (λ y e. e), c.in_ok-aside.ensures.items_if_clones_equal (λ y e. e)) (record {
      of_seed = c.generator-rng.ensures;
      of_dawdle = c.leaves_choice.ensures;
      of_change = c.leaves_choice-2.ensures;
      each = first _ _ c.drawn-first.ensures.kept;
      set_aside = first _ _ c.drawn-first.ensures.kept;
    })

pub returns : goal.returns
returns c = refl
