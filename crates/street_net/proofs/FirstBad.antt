-- The first bad entry, found entry by entry.
use Rattle.std.proofs.Common.{◌≡◌, ℕ, ◌+◌, ◌<◌, Bool, true, false, List, [], ◌∷◌, length, get_or, refl, ◌∙◌, ap, arith, zero-add, Some, None, nat_lt, inl, inr}
use Rattle.std.specs.List.{enumerate_from, position_or_len}
use Rattle.std.proofs.lemmas.Bool.{cond-true, cond-false, lt-ltb, le-ltb, cases_eq}
use Rattle.std.proofs.lemmas.List.{get_or_default}
use Rattle.std.proofs.lemmas.List.FromFn.{length-enumerate_from, get_or-enumerate_from}
use Rattle.std.proofs.lemmas.List.Sums.{position_or_len_is}
use Rattle.street_base.specs.Prelude.{first_bad}

-- none of the entries before i is bad
abbrev pub NoneBad : {A : Type 0} → (ℕ → A → Bool) → List A → ℕ → Type 0
NoneBad {A} bad xs i = (k : ℕ) (d : A) → k < i → bad k (get_or xs k d) ≡ false

module _ {A : Type 0} (bad : ℕ → A → Bool) where
  at-entry : (xs : List A) (k : ℕ) (d : A) (b : Bool) → k < length xs → bad k (get_or xs k d) ≡ b → (λ (e : ℕ × A). bad e.0 e.1) (get_or (enumerate_from 0 xs) k (0, d)) ≡ b
  at-entry xs k d b h is = ap (λ (e : ℕ × A). bad e.0 e.1) (get_or-enumerate_from 0 xs k (0, d) h) ∙ ap (λ n. bad n (get_or xs k d)) (zero-add k) ∙ is

  pub NoneBad-more : (xs : List A) (i : ℕ) (d : A) → i < length xs → NoneBad bad xs i → bad i (get_or xs i d) ≡ false → NoneBad bad xs (i + 1)
  NoneBad-more xs i d h before here k e l = elim (cases_eq k i) as (λ _. bad k (get_or xs k e) ≡ false) [
    | inl same ↦ ap (λ n. bad n (get_or xs n e)) same ∙ ap (bad i) (get_or_default xs i e d h) ∙ here
    | inr other ↦ before k e (omega arith)
  ]

  -- the entry at i is the first that is bad
  pub first_bad-here : (xs : List A) (i : ℕ) (d : A) → i < length xs → NoneBad bad xs i → bad i (get_or xs i d) ≡ true → first_bad bad xs ≡ Some i
  first_bad-here xs i d h before here =
      let long = length-enumerate_from 0 xs in
      let is : position_or_len (λ (e : ℕ × A). bad e.0 e.1) (enumerate_from 0 xs) ≡ i =
      position_or_len_is (λ (e : ℕ × A). bad e.0 e.1) (enumerate_from 0 xs) i (0, d) (omega arith)
      (λ k l. at-entry xs k d false (omega arith) (before k d l))
      (λ l. at-entry xs i d true h here) in
      rw (is, long) (cond-true (nat_lt i (length xs)) (Some i) None (lt-ltb i (length xs) h))

  -- no entry is bad
  pub first_bad-none : (xs : List A) → NoneBad bad xs (length xs) → first_bad bad xs ≡ None
  first_bad-none [] none = refl
  first_bad-none (x ∷ xs) none =
      let long = length-enumerate_from 0 (x ∷ xs) in
      let is : position_or_len (λ (e : ℕ × A). bad e.0 e.1) (enumerate_from 0 (x ∷ xs)) ≡ length (x ∷ xs) =
      position_or_len_is (λ (e : ℕ × A). bad e.0 e.1) (enumerate_from 0 (x ∷ xs)) (length (x ∷ xs)) (0, x) (omega arith)
      (λ k l. at-entry (x ∷ xs) k x false l (none k x l))
      (λ l. absurd (omega arith)) in
      rw (is, long) (cond-false (nat_lt (length (x ∷ xs)) (length (x ∷ xs))) (Some (length (x ∷ xs))) None (le-ltb (length (x ∷ xs)) (length (x ∷ xs)) (omega arith)))
