-- The sums of every third of a list of numbers.
use Rattle.std.proofs.Common.{◌≡◌, ◌≢◌, ℕ, zero, suc, ◌+◌, ◌*◌, ◌%◌, ◌^◌, ◌<◌, ◌≤◌, List, [], ◌∷◌, length, get_or, set, refl, sym, ap, ◌∙◌, arith, All, sum_by}
use Rattle.std.proofs.lemmas.List.Elements.{All-head, All-tail}
use Rattle.std.proofs.lemmas.List.Sums.{sum_by-cons}
use Rattle.street_yard.specs.Prelude.{every_third, thirds}

-- what a write does to the sum that the position is of, and that it does nothing to the others

pub third-here : (xs : List ℕ) (n k v : ℕ) → n % 3 ≡ k → n < length xs → every_third k (set xs n v) + get_or xs n 0 ≡ every_third k xs + v
third-here [] n k v at within = absurd (omega arith)
third-here (x ∷ xs) zero zero v at within = omega arith
third-here (x ∷ xs) zero (suc k) v at within = absurd (omega arith)
third-here (x ∷ xs) (suc n) zero v at within = let rest = third-here xs n 2 v (omega arith) (omega arith) in omega arith
third-here (x ∷ xs) (suc n) (suc k) v at within = third-here xs n k v (omega arith) (omega arith)

pub third-away : (xs : List ℕ) (n k v : ℕ) → n % 3 ≢ k → k < 3 → every_third k (set xs n v) ≡ every_third k xs
third-away [] n k v away low = refl
third-away (x ∷ xs) zero zero v away low = absurd (away refl)
third-away (x ∷ xs) zero (suc k) v away low = refl
third-away (x ∷ xs) (suc n) zero v away low = ap (λ s. x + s) (third-away xs n 2 v (λ e. away (omega arith)) (omega arith))
third-away (x ∷ xs) (suc n) (suc k) v away low = third-away xs n k v (λ e. away (omega arith)) (omega arith)

-- a sum is at least each of its numbers
pub third-le : (xs : List ℕ) (n k : ℕ) → n % 3 ≡ k → n < length xs → get_or xs n 0 ≤ every_third k xs
third-le xs n k at within = let without = third-here xs n k 0 at within in omega arith

-- and at most as many times the greatest number of 32 bits as there are numbers
pub third-few : (xs : List ℕ) (k : ℕ) → All (λ c. c < 2 ^ 32) xs → every_third k xs ≤ length xs * 4294967295
third-few [] k small = omega arith
third-few (x ∷ xs) zero small =
    let here = All-head (λ c. c < 2 ^ 32) x xs small in
    let rest = third-few xs 2 (All-tail (λ c. c < 2 ^ 32) x xs small) in
    omega arith
third-few (x ∷ xs) (suc k) small = let rest = third-few xs k (All-tail (λ c. c < 2 ^ 32) x xs small) in omega arith

-- the sums after a write, whose position leaves the remainder c
pub thirds-set : (xs : List ℕ) (n v c s : ℕ) → n % 3 ≡ c → n < length xs → s + get_or xs n 0 ≡ get_or (thirds xs) c 0 + v → set (thirds xs) c s ≡ thirds (set xs n v)
thirds-set xs n v zero s at within is = λ i.
    (let here = third-here xs n 0 v at within in let same : s ≡ every_third 0 (set xs n v) = omega arith in same) i
    ∷ sym (third-away xs n 1 v (λ e. omega arith) (omega arith)) i
    ∷ sym (third-away xs n 2 v (λ e. omega arith) (omega arith)) i
    ∷ []
thirds-set xs n v (suc zero) s at within is = λ i.
    sym (third-away xs n 0 v (λ e. omega arith) (omega arith)) i
    ∷ (let here = third-here xs n 1 v at within in let same : s ≡ every_third 1 (set xs n v) = omega arith in same) i
    ∷ sym (third-away xs n 2 v (λ e. omega arith) (omega arith)) i
    ∷ []
thirds-set xs n v (suc (suc zero)) s at within is = λ i.
    sym (third-away xs n 0 v (λ e. omega arith) (omega arith)) i
    ∷ sym (third-away xs n 1 v (λ e. omega arith) (omega arith)) i
    ∷ (let here = third-here xs n 2 v at within in let same : s ≡ every_third 2 (set xs n v) = omega arith in same) i
    ∷ []
thirds-set xs n v (suc (suc (suc c))) s at within is = absurd (omega arith)

-- three numbers for each of a list: the sum of every third of them is a sum over that list

module _ {A : Type 0} (g : A → ℕ) (d : A) where
  later : (ps : List A) (p : A) (u v w : ℕ) (xs : List ℕ) (k : ℕ) → ((i : ℕ) → i < length (p ∷ ps) → g (get_or (p ∷ ps) i d) ≡ get_or (u ∷ v ∷ w ∷ xs) (3 * i + k) 0) → (i : ℕ) → i < length ps → g (get_or ps i d) ≡ get_or xs (3 * i + k) 0
  later ps p u v w xs k each i h =
      let next : 3 * suc i + k ≡ suc (suc (suc (3 * i + k))) = omega arith in
      each (suc i) (omega arith) ∙ ap (λ j. get_or (u ∷ v ∷ w ∷ xs) j 0) next

  pub third-sum : (ps : List A) (xs : List ℕ) (k : ℕ) → k < 3 → length xs ≡ 3 * length ps → ((i : ℕ) → i < length ps → g (get_or ps i d) ≡ get_or xs (3 * i + k) 0) → sum_by g ps ≡ every_third k xs
  third-sum [] [] k low long each = refl
  third-sum [] (x ∷ xs) k low long each = absurd (omega arith)
  third-sum (p ∷ ps) [] k low long each = absurd (omega arith)
  third-sum (p ∷ ps) (u ∷ []) k low long each = absurd (omega arith)
  third-sum (p ∷ ps) (u ∷ v ∷ []) k low long each = absurd (omega arith)
  third-sum (p ∷ ps) (u ∷ v ∷ w ∷ xs) k low long each =
      let rest = third-sum ps xs k low (omega arith) (later ps p u v w xs k each) in
      sum_by-cons g p ps ∙ first k low (each 0 (omega arith)) rest
    where
      first : (c : ℕ) → c < 3 → g p ≡ get_or (u ∷ v ∷ w ∷ xs) (3 * 0 + c) 0 → sum_by g ps ≡ every_third c xs → g p + sum_by g ps ≡ every_third c (u ∷ v ∷ w ∷ xs)
      first zero h is sum = omega arith
      first (suc zero) h is sum = omega arith
      first (suc (suc zero)) h is sum = omega arith
      first (suc (suc (suc c))) h is sum = absurd (omega arith)
