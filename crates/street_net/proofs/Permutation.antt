-- What passes a test, of a list in another order.
use Rattle.std.proofs.Common.{◌≡◌, ℕ, zero, suc, ◌<◌, Bool, true, false, List, [], ◌∷◌, length, get_or, set, map, refl, sym, ◌∙◌, ap, arith, inl, inr, cond, filter, swap}
use Rattle.std.specs.List.Sorted.{IsPermutation}
use Rattle.std.proofs.lemmas.Bool.{cases_Bool, cond-true, cond-false}
use Rattle.std.proofs.lemmas.List.Sorted.{IsPermutation-refl, IsPermutation-trans, IsPermutation-cons, IsPermutation-keeps, IsPermutation-append_left, IsPermutation-append_comm}

module _ {X : Type 0} (p : X → Bool) where
  -- an element before what passes
  kept : (b : Bool) (x : X) (us vs : List X) → IsPermutation us vs → IsPermutation (cond b (x ∷ us) us) (cond b (x ∷ vs) vs)
  kept true x us vs same = IsPermutation-cons x us vs same
  kept false x us vs same = same

  filter-cons : (x : X) (us vs : List X) → IsPermutation (filter p us) (filter p vs) → IsPermutation (filter p (x ∷ us)) (filter p (x ∷ vs))
  filter-cons x us vs same = kept (p x) x (filter p us) (filter p vs) same

  -- two elements before what passes, in either order
  flipped : (b c : Bool) (x y : X) (us : List X) → IsPermutation (cond b (x ∷ cond c (y ∷ us) us) (cond c (y ∷ us) us)) (cond c (y ∷ cond b (x ∷ us) us) (cond b (x ∷ us) us))
  flipped true true x y us = IsPermutation-append_left us (x ∷ y ∷ []) (y ∷ x ∷ []) (IsPermutation-append_comm (x ∷ []) (y ∷ []))
  flipped true false x y us = IsPermutation-refl (x ∷ us)
  flipped false true x y us = IsPermutation-refl (y ∷ us)
  flipped false false x y us = IsPermutation-refl us

  filter-flipped : (x y : X) (us : List X) → IsPermutation (filter p (x ∷ y ∷ us)) (filter p (y ∷ x ∷ us))
  filter-flipped x y us = flipped (p x) (p y) x y (filter p us)

  -- the first element changes places with a later one
  filter-first : (xs : List X) (x d : X) (j : ℕ) → j < length xs → IsPermutation (filter p (x ∷ xs)) (filter p (get_or xs j d ∷ set xs j x))
  filter-first [] x d j low = absurd (omega arith)
  filter-first (y ∷ ys) x d zero low = filter-flipped x y ys
  filter-first (y ∷ ys) x d (suc j) low =
      let there : X = get_or ys j d in
      let later = filter-cons y (x ∷ ys) (there ∷ set ys j x) (filter-first ys x d j (omega arith)) in
      IsPermutation-trans (filter p (x ∷ y ∷ ys)) (filter p (y ∷ x ∷ ys)) (filter p (there ∷ y ∷ set ys j x)) (filter-flipped x y ys)
      (IsPermutation-trans (filter p (y ∷ x ∷ ys)) (filter p (y ∷ there ∷ set ys j x)) (filter p (there ∷ y ∷ set ys j x)) later (filter-flipped y there (set ys j x)))

  -- two elements change places
  filter-exchanged : (xs : List X) (d : X) (i j : ℕ) → i < length xs → j < length xs → IsPermutation (filter p xs) (filter p (set (set xs i (get_or xs j d)) j (get_or xs i d)))
  filter-exchanged [] d i j low high = absurd (omega arith)
  filter-exchanged (x ∷ xs) d zero zero low high = IsPermutation-refl (filter p (x ∷ xs))
  filter-exchanged (x ∷ xs) d zero (suc j) low high = filter-first xs x d j (omega arith)
  filter-exchanged (x ∷ xs) d (suc i) zero low high = filter-first xs x d i (omega arith)
  filter-exchanged (x ∷ xs) d (suc i) (suc j) low high = filter-cons x xs (set (set xs i (get_or xs j d)) j (get_or xs i d)) (filter-exchanged xs d i j (omega arith) (omega arith))

  filter-swap : (xs : List X) (i j : ℕ) → i < length xs → j < length xs → IsPermutation (filter p xs) (filter p (swap xs i j))
  filter-swap [] i j low high = absurd (omega arith)
  filter-swap (x ∷ xs) i j low high = filter-exchanged (x ∷ xs) x i j low high

  -- what passes of a list and of the same in another order
  pub filter-permutation : (xs ys : List X) → IsPermutation xs ys → IsPermutation (filter p xs) (filter p ys)
  filter-permutation xs ys = IsPermutation-keeps xs (λ l. IsPermutation (filter p xs) (filter p l)) (IsPermutation-refl (filter p xs))
      (λ l i j low high same. IsPermutation-trans (filter p xs) (filter p l) (filter p (swap l i j)) same (filter-swap l i j low high)) ys

-- what is made of the elements that pass passes a test that answers alike
pub filter-map : {X Y : Type 0} (f : X → Y) (p : X → Bool) (q : Y → Bool) (xs : List X) → ((k : ℕ) (d : X) → k < length xs → q (f (get_or xs k d)) ≡ p (get_or xs k d)) → filter q (map f xs) ≡ map f (filter p xs)
filter-map f p q [] alike = refl
filter-map f p q (x ∷ xs) alike =
    let rest : filter q (map f xs) ≡ map f (filter p xs) = filter-map f p q xs (λ k d low. alike (suc k) d (omega arith)) in
    let here : q (f x) ≡ p x = alike zero x (omega arith) in
    elim (cases_Bool (p x)) as (λ _. filter q (map f (x ∷ xs)) ≡ map f (filter p (x ∷ xs))) [
      | inl t ↦ cond-true (q (f x)) (f x ∷ filter q (map f xs)) (filter q (map f xs)) (here ∙ t) ∙ ap (λ ys. f x ∷ ys) rest ∙ ap (map f) (sym (cond-true (p x) (x ∷ filter p xs) (filter p xs) t))
      | inr e ↦ cond-false (q (f x)) (f x ∷ filter q (map f xs)) (filter q (map f xs)) (here ∙ e) ∙ rest ∙ ap (map f) (sym (cond-false (p x) (x ∷ filter p xs) (filter p xs) e))
    ]
