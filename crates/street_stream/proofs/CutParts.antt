-- A text that is cut into lines a part at a time.
use Rattle.std.proofs.Common.{◌≡◌, ℕ, zero, suc, ◌<◌, ◌==◌, arith, List, [], ◌∷◌, ◌++◌, length, take, drop, ◌+◌, slice_index, true, inl, inr, refl, sym, ap, ◌∙◌, append_assoc, eq-eqb}
use Rattle.std.proofs.lemmas.List.{take_more, take-append-drop, length-drop, get_or-drop}
use Rattle.std.proofs.lemmas.Bool.{cases_eq, ne_eqb, eqb-true}
use Rattle.street_stream.proofs.Cut.{cut_inside, cut_newline, cut_none}
use Rattle.street_stream.specs.Lines.{cut, onto_first, if_any, lines_of, IsInsideLine}

-- a text without LF is one part
pub cut_alone : (line : List ℕ) → IsInsideLine line → cut line ≡ ([], line)
cut_alone line inside = cut_inside [] line inside ∙ ap (λ (p : List (List ℕ) × List ℕ). (p.0, p.1 ++ line)) cut_none

onto_first_part : (x : ℕ) (p : List (List ℕ) × List ℕ) (ls : List (List ℕ)) (last : List ℕ) (ys : List ℕ) → (x ≡ 10 → ⊥)
    → p ≡ (ls ++ (cut (last ++ ys)).0, (cut (last ++ ys)).1)
    → onto_first x p ≡ ((onto_first x (ls, last)).0 ++ (cut ((onto_first x (ls, last)).1 ++ ys)).0, (cut ((onto_first x (ls, last)).1 ++ ys)).1)
unfolding cut
onto_first_part x p [] last ys other is = ap (onto_first x) is ∙ rw (ne_eqb x 10 other) refl
onto_first_part x p (l ∷ ls) last ys other is = ap (onto_first x) is

-- what follows goes on with the last part
pub cut_append : (xs ys : List ℕ) → cut (xs ++ ys) ≡ ((cut xs).0 ++ (cut ((cut xs).1 ++ ys)).0, (cut ((cut xs).1 ++ ys)).1)
unfolding cut
cut_append [] ys = refl
cut_append (x ∷ xs) ys = elim (cases_eq x 10) [
  | inl is ↦ rw (eq-eqb x 10 is) (ap (λ (p : List (List ℕ) × List ℕ). ([] ∷ p.0, p.1)) (cut_append xs ys))
  | inr other ↦ rw (ne_eqb x 10 other) (onto_first_part x (cut (xs ++ ys)) (cut xs).0 (cut xs).1 ys other (cut_append xs ys))
]

-- ---- no line has LF in it

inside_none : IsInsideLine []
inside_none k within = absurd (omega (arith, within))

inside_more : (x : ℕ) (line : List ℕ) → (x ≡ 10 → ⊥) → IsInsideLine line → IsInsideLine (x ∷ line)
inside_more x line other inside zero within = other
inside_more x line other inside (suc k) within = inside k (omega (arith, within))

-- so of each
abbrev pub AllInside : List (List ℕ) → Type 0
AllInside [] = Unit {0}
AllInside (l ∷ ls) = IsInsideLine l × AllInside ls

onto_inside : (x : ℕ) (p : List (List ℕ) × List ℕ) → (x ≡ 10 → ⊥) → AllInside p.0 → IsInsideLine p.1 → AllInside (onto_first x p).0 × IsInsideLine (onto_first x p).1
onto_inside x ([], last) other lines inside = (lines, inside_more x last other inside)
onto_inside x (l ∷ ls, last) other lines inside = ((inside_more x l other lines.0, lines.1), inside)

pub parts_inside : (text : List ℕ) → AllInside (cut text).0 × IsInsideLine (cut text).1
unfolding cut
parts_inside [] = (tt, inside_none)
parts_inside (x ∷ xs) =
    let rest = parts_inside xs in
    elim (cases_eq x 10) [
      | inl is ↦ rw (eq-eqb x 10 is) ((inside_none, rest.0), rest.1)
      | inr other ↦ rw (ne_eqb x 10 other) (onto_inside x (cut xs) other rest.0 rest.1)
    ]

any_inside : (last : List ℕ) → IsInsideLine last → AllInside (if_any last)
any_inside [] inside = tt
any_inside (x ∷ xs) inside = (inside, tt)

all_append : (ls ms : List (List ℕ)) → AllInside ls → AllInside ms → AllInside (ls ++ ms)
all_append [] ms some more = more
all_append (l ∷ ls) ms some more = (some.0, all_append ls ms some.1 more)

pub lines_inside : (text : List ℕ) → AllInside (lines_of text)
lines_inside text = let parts = parts_inside text in all_append (cut text).0 (if_any (cut text).1) parts.0 (any_inside (cut text).1 parts.1)

-- a line with its end, and more text
pub lines_onto : (line more : List ℕ) → IsInsideLine line → lines_of (line ++ 10 ∷ more) ≡ line ∷ lines_of more
lines_onto line more inside =
    let whole : cut (line ++ 10 ∷ []) ≡ (line ∷ [], []) = cut_newline line ∙ ap (λ (p : List (List ℕ) × List ℕ). (p.0 ++ p.1 ∷ [], [])) (cut_alone line inside) in
    let parts : cut (line ++ 10 ∷ more) ≡ (line ∷ (cut more).0, (cut more).1) =
    ap cut (sym (append_assoc line (10 ∷ []) more)) ∙ cut_append (line ++ 10 ∷ []) more
    ∙ ap (λ (p : List (List ℕ) × List ℕ). (p.0 ++ (cut (p.1 ++ more)).0, (cut (p.1 ++ more)).1)) whole in
    ap (λ (p : List (List ℕ) × List ℕ). p.0 ++ if_any p.1) parts

-- ---- the last LF

rest_after : (bytes : List ℕ) (at : ℕ) → ((k : ℕ) → at < k → k < length bytes → (slice_index bytes k == 10) ≡ true → ⊥) → IsInsideLine (drop (at + 1) bytes)
rest_after bytes at none = λ k within is.
    let there : slice_index bytes (at + 1 + k) ≡ 10 = sym (get_or-drop (at + 1) bytes k 0) ∙ is in
    none (at + 1 + k) (omega arith) (omega (arith, within, length-drop (at + 1) bytes)) (eq-eqb _ _ there)

-- what stands behind it has not ended
pub last_end : (seen bytes : List ℕ) (at : ℕ) → at < length bytes → (slice_index bytes at == 10) ≡ true
    → ((k : ℕ) → at < k → k < length bytes → (slice_index bytes k == 10) ≡ true → ⊥) → at + 1 + length (cut (seen ++ bytes)).1 ≡ length bytes
last_end seen bytes at within is none =
    let front : take (at + 1) bytes ≡ take at bytes ++ 10 ∷ [] = take_more bytes at 0 within ∙ ap (λ (b : ℕ). take at bytes ++ b ∷ []) (eqb-true _ _ is) in
    let split : bytes ≡ (take at bytes ++ 10 ∷ []) ++ drop (at + 1) bytes = sym (take-append-drop (at + 1) bytes) ∙ ap (λ (xs : List ℕ). xs ++ drop (at + 1) bytes) front in
    let text : seen ++ bytes ≡ ((seen ++ take at bytes) ++ 10 ∷ []) ++ drop (at + 1) bytes =
    ap (λ (xs : List ℕ). seen ++ xs) split ∙ sym (append_assoc seen (take at bytes ++ 10 ∷ []) (drop (at + 1) bytes))
    ∙ ap (λ (xs : List ℕ). xs ++ drop (at + 1) bytes) (sym (append_assoc seen (take at bytes) (10 ∷ []))) in
    let last : (cut (seen ++ bytes)).1 ≡ drop (at + 1) bytes =
    ap (λ (t : List ℕ). (cut t).1) text
    ∙ ap (λ (p : List (List ℕ) × List ℕ). p.1) (cut_inside ((seen ++ take at bytes) ++ 10 ∷ []) (drop (at + 1) bytes) (rest_after bytes at none))
    ∙ ap (λ (p : List (List ℕ) × List ℕ). p.1 ++ drop (at + 1) bytes) (cut_newline (seen ++ take at bytes)) in
    omega (arith, ap length last, length-drop (at + 1) bytes, within)

pub no_end : (seen bytes : List ℕ) → ((k : ℕ) → k < length bytes → (slice_index bytes k == 10) ≡ true → ⊥) → (cut (seen ++ bytes)).1 ≡ (cut seen).1 ++ bytes
no_end seen bytes none = ap (λ (p : List (List ℕ) × List ℕ). p.1) (cut_inside seen bytes (λ k within is. none k within (eq-eqb _ _ is)))
