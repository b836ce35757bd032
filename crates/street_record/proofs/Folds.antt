-- Rows that are given one after another.
use Rattle.std.proofs.Common.{◌≡◌, ℕ, zero, suc, ◌+◌, List, [], ◌∷◌, ◌++◌, sym, ap, subst, ◌∙◌, arith, append-nil, flat_map}
use Rattle.std.specs.List.{FoldsTo, range_with_len}
use Rattle.std.proofs.lemmas.Grind.{flat_map-append}

-- one run of calls behind another
pub folds-on : {S A : Type 0} (takes : S → A → S → Type 0) (old mid new : S) (xs ys : List A) → FoldsTo takes old xs mid → FoldsTo takes mid ys new → FoldsTo takes old (xs ++ ys) new
folds-on takes old mid new [] ys first then = subst (λ s. FoldsTo takes s ys new) (sym first) then
folds-on takes old mid new (x ∷ xs) ys first then = (first.0, first.1, folds-on takes first.0 mid new xs ys first.2 then)

range-push : (low count last : ℕ) → low + count ≡ last → range_with_len low (suc count) ≡ range_with_len low count ++ last ∷ []
range-push low zero last e = (let same : low ≡ last = omega (arith, e) in ap (λ k. k ∷ []) same)
range-push low (suc count) last e = ap (λ l. low ∷ l) (range-push (low + 1) count last (omega (arith, e)))

rows-more : {A : Type 0} (f : ℕ → List A) (n : ℕ) → flat_map f (range_with_len 0 (n + 1)) ≡ flat_map f (range_with_len 0 n) ++ f n
rows-more f n =
    let one : n + 1 ≡ suc n = omega arith in
    let last : 0 + n ≡ n = omega arith in
    ap (λ k. flat_map f (range_with_len 0 k)) one ∙ ap (flat_map f) (range-push 0 n n last) ∙ flat_map-append f (range_with_len 0 n) (n ∷ []) ∙ ap (λ l. flat_map f (range_with_len 0 n) ++ l) (append-nil (f n))

-- the rows of one place more, in a loop over places by their numbers
pub folds-more : {S A : Type 0} (takes : S → A → S → Type 0) (old mid new : S) (f : ℕ → List A) (n : ℕ) → FoldsTo takes old (flat_map f (range_with_len 0 n)) mid → FoldsTo takes mid (f n) new
    → FoldsTo takes old (flat_map f (range_with_len 0 (n + 1))) new
folds-more takes old mid new f n before then = subst (λ rows. FoldsTo takes old rows new) (sym (rows-more f n)) (folds-on takes old mid new (flat_map f (range_with_len 0 n)) (f n) before then)
