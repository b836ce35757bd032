-- The next line of some bytes, found by a search for LF.
use Rattle.std.proofs.Common.{◌≡◌, ℕ, ◌+◌, ◌-◌, ◌<◌, ◌≤◌, List, [], ◌∷◌, ◌++◌, length, take, drop, get_or, ◌==◌, true, sym, ap, ◌∙◌, arith, append_assoc, eq-eqb}
use Rattle.std.proofs.Math.Seq.{take-add}
use Rattle.std.proofs.lemmas.Bool.{eqb-true}
use Rattle.std.proofs.lemmas.List.{take_all, take_more, take-append-drop, length-drop, length-take, get_or-take}
use Rattle.street_stream.specs.Lines.{IsInsideLine}

-- what is left from i on
abbrev pub rest_from : List ℕ → ℕ → List ℕ
rest_from bytes i = take (length bytes - i) (drop i bytes)

-- the n bytes from i on
abbrev pub part_from : List ℕ → ℕ → ℕ → List ℕ
part_from bytes i n = take ((i + n) - i) (drop i bytes)

rest_is : (bytes : List ℕ) (i : ℕ) → rest_from bytes i ≡ drop i bytes
rest_is bytes i = take_all (length bytes - i) (drop i bytes) (omega (arith, length-drop i bytes))

-- no LF before the one that was found
pub part_inside : (bytes : List ℕ) (i n : ℕ) → ((k : ℕ) → 0 ≤ k → k < n → (get_or (rest_from bytes i) k 0 == 10) ≡ true → ⊥) → IsInsideLine (part_from bytes i n)
part_inside bytes i n before = λ k within is.
    let less : k < (i + n) - i = omega (arith, length-take ((i + n) - i) (drop i bytes), within) in
    let here : get_or (rest_from bytes i) k 0 ≡ 10 = ap (λ (xs : List ℕ). get_or xs k 0) (rest_is bytes i) ∙ sym (get_or-take ((i + n) - i) (drop i bytes) k 0 less) ∙ is in
    before k (omega arith) (omega arith) (eq-eqb _ _ here)

-- none in the rest, where none was found
pub rest_inside : (bytes : List ℕ) (i : ℕ) → ((k : ℕ) → 0 ≤ k → k < length (rest_from bytes i) → (get_or (rest_from bytes i) k 0 == 10) ≡ true → ⊥) → IsInsideLine (rest_from bytes i)
rest_inside bytes i before = λ k within is. before k (omega arith) within (eq-eqb _ _ is)

pub line_found : (bytes : List ℕ) (i n : ℕ) → n < length (rest_from bytes i) → (get_or (rest_from bytes i) n 0 == 10) ≡ true
    → (i + (n + 1) ≤ length bytes) × (take (i + (n + 1)) bytes ≡ take i bytes ++ (part_from bytes i n ++ 10 ∷ []))
line_found bytes i n less is =
    let within = rw (rest_is bytes i) at less in
    let newline : get_or (drop i bytes) n 0 ≡ 10 = eqb-true _ _ (rw (rest_is bytes i) at is) in
    let size : n ≡ (i + n) - i = omega arith in
    let front : take (n + 1) (drop i bytes) ≡ part_from bytes i n ++ 10 ∷ [] = take_more (drop i bytes) n 0 within ∙ ap (λ (b : ℕ). take n (drop i bytes) ++ b ∷ []) newline
    ∙ ap (λ (m : ℕ). take m (drop i bytes) ++ 10 ∷ []) size in
    (omega (arith, length-drop i bytes, within), take-add i (n + 1) bytes ∙ ap (λ (xs : List ℕ). take i bytes ++ xs) front)

-- the bytes before the line, it, and those behind it
pub line_between : (bytes : List ℕ) (i n : ℕ) → n < length (rest_from bytes i) → (get_or (rest_from bytes i) n 0 == 10) ≡ true
    → take i bytes ++ ((part_from bytes i n ++ 10 ∷ []) ++ drop (i + (n + 1)) bytes) ≡ bytes
line_between bytes i n less is =
    sym (append_assoc (take i bytes) (part_from bytes i n ++ 10 ∷ []) (drop (i + (n + 1)) bytes))
    ∙ ap (λ (xs : List ℕ). xs ++ drop (i + (n + 1)) bytes) (sym (line_found bytes i n less is).1) ∙ take-append-drop (i + (n + 1)) bytes

pub rest_behind : (bytes : List ℕ) (i : ℕ) → take i bytes ++ rest_from bytes i ≡ bytes
rest_behind bytes i = ap (λ (xs : List ℕ). take i bytes ++ xs) (rest_is bytes i) ∙ take-append-drop i bytes
