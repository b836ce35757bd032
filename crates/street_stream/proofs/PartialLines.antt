-- A line, some bytes at a time.
use Rattle.std.proofs.Common.{◌≡◌, ℕ, ◌+◌, ◌-◌, ◌<◌, ◌≤◌, List, [], ◌∷◌, ◌++◌, length, take, Bool, true, false, ◌&&◌, refl, sym, ap, ◌∙◌, arith, inl, inr}
use Rattle.std.proofs.lemmas.List.{take_all, length-take, length-take-le, take-append-le}
use Rattle.std.proofs.lemmas.Bool.{cases_lt}
use Rattle.std.proofs.Math.Seq.{take-append-add}
use Rattle.std.specs.List.{list_all}
use Rattle.street_stream.specs.Lines.{is_blank, is_space, kept}

and_assoc : (a b c : Bool) → a && (b && c) ≡ (a && b) && c
and_assoc true b c = refl
and_assoc false b c = refl

pub is_blank_more : (line bytes : List ℕ) → is_blank (line ++ bytes) ≡ is_blank line && is_blank bytes
is_blank_more [] bytes = refl
is_blank_more (x ∷ xs) bytes = ap (λ r. is_space x && r) (is_blank_more xs bytes) ∙ and_assoc (is_space x) (is_blank xs) (is_blank bytes)

-- all of them are spaces, tabs and CR
pub all_blank : (bytes : List ℕ) → list_all is_space bytes ≡ is_blank bytes
all_blank [] = refl
all_blank (b ∷ bs) = ap (λ r. is_space b && r) (all_blank bs)

take_full : (n : ℕ) (line bytes : List ℕ) → n ≤ length (take n line) → take n line ≡ take n (line ++ bytes)
take_full n line bytes h = elim (cases_lt (length line) n) [
  | inl under ↦ absurd (omega (arith, ap length (take_all n line (omega arith))))
  | inr over ↦ sym (take-append-le n line bytes over)
]

-- the whole line is kept, and as many bytes more as there is room for
take_more : (w : ℕ) (line bytes : List ℕ) (n : ℕ) → length line < w → n + length line ≤ w → (n < length bytes → n + length line ≡ w)
    → take w line ++ take n bytes ≡ take w (line ++ bytes)
take_more w line bytes n short fits full =
    let k = w - length line in
    let all : w ≡ length line + k = omega arith in
    let split : take w (line ++ bytes) ≡ line ++ take k bytes = ap (λ (m : ℕ). take m (line ++ bytes)) all ∙ take-append-add line bytes k in
    let same : take n bytes ≡ take k bytes = elim (cases_lt n (length bytes)) [
      | inl less ↦ let e : n ≡ k = omega (arith, full less) in ap (λ (m : ℕ). take m bytes) e
      | inr over ↦ take_all n bytes over ∙ sym (take_all k bytes (omega arith))
    ] in
    ap (λ (xs : List ℕ). xs ++ take n bytes) (take_all w line (omega arith)) ∙ ap (λ (xs : List ℕ). line ++ xs) same ∙ sym split

shorter : (w : ℕ) (line : List ℕ) → length (take w line) < w → length line < w
shorter w line h = elim (cases_lt (length line) w) [ inl under ↦ under | inr over ↦ absurd (omega (arith, length-take-le w line over)) ]

pub kept_more : (most : ℕ) (line bytes : List ℕ) (n : ℕ) → length (kept most line) ≤ most → n + length (kept most line) ≤ most + 1
    → (n < length bytes → n + length (kept most line) ≡ most + 1) → kept most line ++ take n bytes ≡ kept most (line ++ bytes)
unfolding kept
kept_more most line bytes n room fits full =
    let short = shorter (most + 1) line (omega arith) in
    let same : length (take (most + 1) line) ≡ length line = ap length (take_all (most + 1) line (omega arith)) in
    take_more (most + 1) line bytes n short (omega arith) (λ less. omega (arith, full less, same))

-- nothing more is kept of a line that is too long
pub kept_full : (most : ℕ) (line bytes : List ℕ) → most < length (kept most line) → kept most line ≡ kept most (line ++ bytes)
unfolding kept
kept_full most line bytes h = take_full (most + 1) line bytes (omega arith)

pub kept_none : (most : ℕ) → [] ≡ kept most []
unfolding kept
kept_none most = sym (take_all (most + 1) [] (omega arith))

none_taken : (n : ℕ) (line : List ℕ) → 0 < n → length (take n line) ≡ 0 → line ≡ []
none_taken n [] some h = refl
none_taken n (x ∷ xs) some h = absurd (omega (arith, length-take n (x ∷ xs)))

-- nothing is kept of the empty line alone
pub line_kept : (most : ℕ) (line : List ℕ) → length (kept most line) ≡ 0 → line ≡ []
unfolding kept
line_kept most line h = none_taken (most + 1) line (omega arith) h
