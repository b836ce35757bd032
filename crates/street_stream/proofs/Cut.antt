-- A text of lines, a byte at a time.
use Rattle.std.proofs.Common.{◌≡◌, ℕ, suc, arith, List, [], ◌∷◌, ◌++◌, Bool, true, false, ◌==◌, if◌then◌else◌, inl, inr, refl, sym, ap, ◌∙◌, append_assoc, append-nil}
use Rattle.std.proofs.lemmas.Bool.{cases_eq, ne_eqb}
use Rattle.street_stream.specs.Lines.{cut, onto_first, if_any, lines_of, IsInsideLine}

onto_first_more : (x b : ℕ) (p : List (List ℕ) × List ℕ) → onto_first x (p.0, p.1 ++ b ∷ []) ≡ ((onto_first x p).0, (onto_first x p).1 ++ b ∷ [])
onto_first_more x b ([], last) = refl
onto_first_more x b (l ∷ ls, last) = refl

onto_first_end : (x : ℕ) (p : List (List ℕ) × List ℕ) → onto_first x (p.0 ++ p.1 ∷ [], []) ≡ ((onto_first x p).0 ++ (onto_first x p).1 ∷ [], [])
onto_first_end x ([], last) = refl
onto_first_end x (l ∷ ls, last) = refl

abbrev step : Bool → ℕ → List (List ℕ) × List ℕ → List (List ℕ) × List ℕ
step b x p = if b then ([] ∷ p.0, p.1) else onto_first x p

step_more : (t : Bool) (x b : ℕ) (p : List (List ℕ) × List ℕ) → step t x (p.0, p.1 ++ b ∷ []) ≡ ((step t x p).0, (step t x p).1 ++ b ∷ [])
step_more true x b p = refl
step_more false x b p = onto_first_more x b p

step_end : (t : Bool) (x : ℕ) (p : List (List ℕ) × List ℕ) → step t x (p.0 ++ p.1 ∷ [], []) ≡ ((step t x p).0 ++ (step t x p).1 ∷ [], [])
step_end true x p = refl
step_end false x p = onto_first_end x p

-- a byte more that is not LF belongs to the last part
pub cut_other : (seen : List ℕ) (b : ℕ) → (b ≡ 10 → ⊥) → cut (seen ++ b ∷ []) ≡ ((cut seen).0, (cut seen).1 ++ b ∷ [])
unfolding cut
cut_other [] b other = rw (ne_eqb b 10 other) refl
cut_other (x ∷ xs) b other = ap (step (x == 10) x) (cut_other xs b other) ∙ step_more (x == 10) x b (cut xs)

-- bytes that are not LF belong to it
pub cut_inside : (seen bytes : List ℕ) → IsInsideLine bytes → cut (seen ++ bytes) ≡ ((cut seen).0, (cut seen).1 ++ bytes)
cut_inside seen [] inside = ap cut (append-nil seen) ∙ ap (λ (last : List ℕ). ((cut seen).0, last)) (sym (append-nil (cut seen).1))
cut_inside seen (b ∷ more) inside =
    let one = cut_other seen b (inside 0 (omega arith)) in
    let rest = cut_inside (seen ++ b ∷ []) more (λ k within. inside (suc k) (omega arith)) in
    ap cut (sym (append_assoc seen (b ∷ []) more)) ∙ rest ∙ ap (λ (p : List (List ℕ) × List ℕ). (p.0, p.1 ++ more)) one
    ∙ ap (λ (last : List ℕ). ((cut seen).0, last)) (append_assoc (cut seen).1 (b ∷ []) more)

-- LF ends it
pub cut_newline : (seen : List ℕ) → cut (seen ++ 10 ∷ []) ≡ ((cut seen).0 ++ (cut seen).1 ∷ [], [])
unfolding cut
cut_newline [] = refl
cut_newline (x ∷ xs) = ap (step (x == 10) x) (cut_newline xs) ∙ step_end (x == 10) x (cut xs)

-- of no text there is no line
pub cut_none : cut [] ≡ ([], [])
unfolding cut
cut_none = refl

-- a last part of some bytes is a line
pub one_line : (line : List ℕ) → (line ≡ [] → ⊥) → if_any line ≡ line ∷ []
one_line [] some = absurd (some refl)
one_line (x ∷ xs) some = refl

-- more text leaves the lines that have ended
pub cut_more : (seen more : List ℕ) → (rest : List (List ℕ)) × ((cut (seen ++ more)).0 ≡ (cut seen).0 ++ rest)
cut_more seen [] = ([], ap (λ t. (cut t).0) (append-nil seen) ∙ sym (append-nil (cut seen).0))
cut_more seen (b ∷ more) =
    let later = cut_more (seen ++ b ∷ []) more in
    let text : seen ++ b ∷ more ≡ (seen ++ b ∷ []) ++ more = sym (append_assoc seen (b ∷ []) more) in
    elim (cases_eq b 10) [
      | inl is ↦
          let ended : (cut (seen ++ b ∷ [])).0 ≡ (cut seen).0 ++ (cut seen).1 ∷ [] = rw is (ap (λ p. p.0) (cut_newline seen)) in
          ((cut seen).1 ∷ later.0, ap (λ t. (cut t).0) text ∙ later.1 ∙ ap (λ (ls : List (List ℕ)). ls ++ later.0) ended ∙ append_assoc (cut seen).0 ((cut seen).1 ∷ []) later.0)
      | inr other ↦
          let same : (cut (seen ++ b ∷ [])).0 ≡ (cut seen).0 = ap (λ p. p.0) (cut_other seen b other) in
          (later.0, ap (λ t. (cut t).0) text ∙ later.1 ∙ ap (λ (ls : List (List ℕ)). ls ++ later.0) same)
    ]

pub lines_more : (seen more : List ℕ) → (rest : List (List ℕ)) × (lines_of (seen ++ more) ≡ (cut seen).0 ++ rest)
lines_more seen more =
    let later = cut_more seen more in
    (later.0 ++ if_any (cut (seen ++ more)).1, ap (λ (ls : List (List ℕ)). ls ++ if_any (cut (seen ++ more)).1) later.1 ∙ append_assoc (cut seen).0 later.0 (if_any (cut (seen ++ more)).1))

-- the line that LF ends is the next of them
pub lines_after : (seen more : List ℕ) → (rest : List (List ℕ)) × (lines_of (seen ++ 10 ∷ more) ≡ (cut seen).0 ++ (cut seen).1 ∷ rest)
lines_after seen more =
    let later = lines_more (seen ++ 10 ∷ []) more in
    let text : seen ++ 10 ∷ more ≡ (seen ++ 10 ∷ []) ++ more = sym (append_assoc seen (10 ∷ []) more) in
    (later.0, ap lines_of text ∙ later.1 ∙ ap (λ (ls : List (List ℕ)). ls ++ later.0) (ap (λ p. p.0) (cut_newline seen)) ∙ append_assoc (cut seen).0 ((cut seen).1 ∷ []) later.0)
