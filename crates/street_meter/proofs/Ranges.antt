-- Values along a range of numbers, and the last 32 of them.
use Rattle.std.proofs.Common.{◌≡◌, ℕ, zero, suc, ◌+◌, ◌-◌, ◌*◌, ◌<◌, ◌≤◌, [], ◌∷◌, ◌++◌, map, drop, refl, sym, ap, ◌∙◌, inl, inr, arith}
use Rattle.std.specs.List.{range_with_len}
use Rattle.std.proofs.lemmas.Bool.{cases_eq}
use Rattle.std.proofs.lemmas.List.FromFn.{map-range_with_len_more, length-map-range_with_len}
use Rattle.std.proofs.Math.Nat.{suc-mul}
use Rattle.circular_buffer.specs.Buffer.{keep_last}

-- each period ends where the next begins, or earlier than any later one
pub times-below : (p i q : ℕ) → i < q → i * p + p ≤ q * p
times-below p i zero h = absurd (omega arith)
times-below p i (suc q) h = elim (cases_eq i q) as (λ _. i * p + p ≤ suc q * p) [
  | inl e ↦ (let a = suc-mul q p in let b : i * p ≡ q * p = ap (λ j. j * p) e in omega arith)
  | inr ne ↦ (let a = suc-mul q p in let b = times-below p i q (omega arith) in omega arith)
]

module _ {X : Type 0} (f : ℕ → X) where
  pub range-same : (g : ℕ → X) (low n : ℕ) → ((i : ℕ) → i < low + n → f i ≡ g i) → map f (range_with_len low n) ≡ map g (range_with_len low n)
  range-same g low zero h = refl
  range-same g low (suc n) h = ap (λ x. x ∷ map f (range_with_len (low + 1) n)) (h low (omega arith)) ∙ ap (λ l. g low ∷ l) (range-same g (low + 1) n (λ i a. h i (omega arith)))

  range-drop : (low n k to m : ℕ) → to ≡ low + k → n ≡ m + k → drop k (map f (range_with_len low n)) ≡ map f (range_with_len to m)
  range-drop low n zero to m e g = let a : low ≡ to = omega arith in let b : n ≡ m = omega arith in ap (λ l. map f (range_with_len l n)) a ∙ ap (λ l. map f (range_with_len to l)) b
  range-drop low zero (suc k) to m e g = absurd (omega arith)
  range-drop low (suc n) (suc k) to m e g = range-drop (low + 1) n k to m (omega arith) (omega arith)

  -- of the last 32 values one more leaves the last 32
  pub last-more : (q : ℕ) → keep_last 32 (map f (range_with_len (q - 32) (q - (q - 32))) ++ f q ∷ []) ≡ map f (range_with_len (q + 1 - 32) (q + 1 - (q + 1 - 32)))
  last-more q =
      let n = q - (q - 32) in
      let more : map f (range_with_len (q - 32) n) ++ f q ∷ [] ≡ map f (range_with_len (q - 32) (n + 1)) = sym (map-range_with_len_more f (q - 32) n q (omega arith)) in
      let size = length-map-range_with_len f (q - 32) (n + 1) in
      ap (keep_last 32) more
      ∙ ap (λ k. drop (k - 32) (map f (range_with_len (q - 32) (n + 1)))) size
      ∙ range-drop (q - 32) (n + 1) (n + 1 - 32) (q + 1 - 32) (q + 1 - (q + 1 - 32)) (omega arith) (omega arith)
