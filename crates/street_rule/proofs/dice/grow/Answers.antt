use Rattle.std.proofs.Common.{◌≡◌, ℕ, zero, suc, List, [], ◌∷◌, ◌++◌, replicate, refl, ap, ◌∙◌, append_assoc}
use Rattle.street_rule.specs.declared.dice.KeptDraws.{KeptDraws}
use Rattle.street_rule.proofs.dice.grow.Goals as goal

push-same : (n : ℕ) (x : KeptDraws) → replicate n x ++ x ∷ [] ≡ replicate (suc n) x
push-same zero x = refl
push-same (suc n) x = ap (λ (l : List KeptDraws). x ∷ l) (push-same n x)

pub loop-preserved : goal.loop-preserved
loop-preserved c = (
  suc c.loop.invariant.0,
  c.in_ok-push.ensures.items ∙ ap (λ (l : List KeptDraws). l ++ c.args.first ∷ []) c.loop.invariant.1 ∙ append_assoc c.args.kept.now.items (replicate c.loop.invariant.0 c.args.first) (c.args.first ∷ []) ∙ ap (λ (l : List KeptDraws). c.args.kept.now.items ++ l) (push-same c.loop.invariant.0 c.args.first),
)
