-- The first line of a text.
use Rattle.std.proofs.Common.{◌≡◌, ℕ, zero, suc, ◌<◌, List, [], ◌∷◌, length, take, drop, refl, arith, HoldsAt}
use Rattle.std.specs.List.{AllWithin}
use Rattle.std.proofs.lemmas.Bool.{ne_eqb}
use Rattle.street_stream.specs.Lines.{cut, onto_first}

onto_none : (x : ℕ) (c : List (List ℕ) × List ℕ) → c.0 ≡ [] → (onto_first x c).0 ≡ []
onto_none x ([], last) e = refl
onto_none x (l ∷ ls, last) e = absurd (cc)

onto_some : (x : ℕ) (c : List (List ℕ) × List ℕ) (l : List ℕ) (ls : List (List ℕ)) → c.0 ≡ l ∷ ls → (onto_first x c).0 ≡ (x ∷ l) ∷ ls
onto_some x ([], last) l ls e = absurd (cc)
onto_some x (k ∷ ks, last) l ls e = cc

-- a text without LF has no line that ends with one
pub cut_plain : (text : List ℕ) → AllWithin (λ b. b ≡ 10 → ⊥) text 0 (length text) → (cut text).0 ≡ []
unfolding cut
cut_plain [] p = refl
cut_plain (x ∷ xs) p =
    let rest : (cut xs).0 ≡ [] = cut_plain xs (λ k d low high. p (suc k) d (omega arith) (omega arith)) in
    rw (ne_eqb x 10 (p 0 0 (omega arith) (omega arith))) (onto_none x (cut xs) rest)

-- the first of them ends with the first LF
pub cut_first : (text : List ℕ) (n : ℕ) → n < length text → HoldsAt (λ b. b ≡ 10) text n → AllWithin (λ b. b ≡ 10 → ⊥) text 0 n
    → (cut text).0 ≡ take n text ∷ (cut (drop (suc n) text)).0
unfolding cut
cut_first [] n in' hit p = absurd (omega arith)
cut_first (x ∷ xs) zero in' hit p = rw (hit 0) refl
cut_first (x ∷ xs) (suc n) in' hit p =
    let rest = cut_first xs n (omega arith) (λ d. hit d) (λ k d low high. p (suc k) d (omega arith) (omega arith)) in
    rw (ne_eqb x 10 (p 0 0 (omega arith) (omega arith))) (onto_some x (cut xs) (take n xs) (cut (drop (suc n) xs)).0 rest)
