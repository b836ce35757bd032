-- What a sink was told of steps.
use Rattle.std.proofs.Common.{◌≡◌, ℕ, zero, suc, ◌+◌, List, [], ◌∷◌, ◌++◌, true, false, sym, ap, subst, ◌∙◌, true≢false, arith, Result, Ok, Err, OnOk, OnErr, is_err}
use Rattle.std.specs.List.{FoldsTo}
use Rattle.std.proofs.lemmas.Fn.{FoldsTo-push}
use Rattle.street_base.specs.Prelude.{Traffic, step, steps}
use Rattle.street_record.proofs.Folds.{folds-on}
use Rattle.street_engine.specs.Prelude.{StreetsView, StreetsStandFor, StreetsGo, ToldOf, befores}

befores-push : (n : ℕ) (m : Traffic) → befores (suc n) m ≡ befores n m ++ steps n m ∷ []
befores-push zero m = ap (λ (l : List Traffic). l) (λ i. m ∷ [])
befores-push (suc n) m = ap (λ (l : List Traffic). m ∷ l) (befores-push n (step m))

module _ {K : Type 0} (notes : K → Traffic → K → Type 0) (old mid new : K) (x y : StreetsView) (made : ℕ) (noted : ToldOf notes x made old mid) {T E : Type 0} (r : Result T E) where
  -- one step more was made, and it was told of
  pub noted-made : StreetsGo (steps made) x y → is_err r ≡ false → OnOk r ((m : Traffic) → StreetsStandFor y m → notes mid m new) → ToldOf notes x (made + 1) old new
  noted-made so_far none then m s = by r none then
    where
      by : (r : Result T E) → is_err r ≡ false → OnOk r ((m : Traffic) → StreetsStandFor y m → notes mid m new) → FoldsTo notes old (befores (made + 1) m) new
      by (Err e) none then = absurd (true≢false none)
      by (Ok t) none then =
          let one : suc made ≡ made + 1 = omega arith in
          subst (λ (k : ℕ). FoldsTo notes old (befores k m) new) one
          (subst (λ (l : List Traffic). FoldsTo notes old l new) (sym (befores-push made m))
          (FoldsTo-push notes old (befores made m) mid (steps made m) new (noted m s) (then (steps made m) (so_far m s))))

  -- one was refused memory, and the sink was told of nothing
  pub noted-refused : is_err r ≡ true → OnErr r (new ≡ mid) → ToldOf notes x made old new
  noted-refused some same m s = by r some same
    where
      by : (r : Result T E) → is_err r ≡ true → OnErr r (new ≡ mid) → FoldsTo notes old (befores made m) new
      by (Ok t) some same = absurd (true≢false (sym some))
      by (Err e) some same = subst (λ (k : K). FoldsTo notes old (befores made m) k) (sym same) (noted m s)

befores-then : (a b : ℕ) (m : Traffic) → befores (a + b) m ≡ befores a m ++ befores b (steps a m)
befores-then zero b m = (let e : zero + b ≡ b = omega arith in ap (λ (k : ℕ). befores k m) e)
befores-then (suc a) b m = (let e : suc a + b ≡ suc (a + b) = omega arith in ap (λ (k : ℕ). befores k m) e ∙ ap (λ (l : List Traffic). m ∷ l) (befores-then a b (step m)))

module _ {K : Type 0} (notes : K → Traffic → K → Type 0) (old mid new : K) (x y : StreetsView) (a b : ℕ) (went : StreetsGo (steps a) x y) (first : ToldOf notes x a old mid) (then : ToldOf notes y b mid new) where
  -- the sink was told of so many steps, and then of so many
  pub noted-then : ToldOf notes x (a + b) old new
  noted-then m s = subst (λ (l : List Traffic). FoldsTo notes old l new) (sym (befores-then a b m)) (folds-on notes old mid new (befores a m) (befores b (steps a m)) (first m s) (then (steps a m) (went m s)))

  pub noted-after-none : a ≡ 0 → ToldOf notes x b old new
  noted-after-none none m s = let e : a + b ≡ b = omega (arith, none) in subst (λ (k : ℕ). FoldsTo notes old (befores k m) new) e (noted-then m s)
