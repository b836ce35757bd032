-- A text of which no line has ended, and which is another's than a session's.
use Rattle.std.proofs.Common.{◌≡◌, ◌∙◌, ℕ, suc, ◌+◌, ◌<◌, ◌≤◌, ◌==◌, ◌||◌, if◌then◌else◌, List, [], ◌∷◌, ◌++◌, length, take, drop, Bool, true, false, not, Option, Some, None, refl, sym, ap, subst, arith, length-append}
use Rattle.std.proofs.lemmas.List.{length-take-le, length-drop}
use Rattle.std.specs.Io.KnownBytes.{Consumes}
use Rattle.street_stream.specs.Lines.{is_space}
use Rattle.street_line.specs.KeptFiles.{begins_foreign, left_from}

-- the first bytes of a text that begins as no line does
more : (xs ys : List ℕ) → begins_foreign xs ≡ true → begins_foreign (xs ++ ys) ≡ true
more [] ys is = absurd (cc)
more (x ∷ xs) ys is = by (is_space x) (more xs ys) is
  where
    by : (b : Bool) → (begins_foreign xs ≡ true → begins_foreign (xs ++ ys) ≡ true) → (if b then begins_foreign xs else not ((x == 123) || (x == 0))) ≡ true
        → (if b then begins_foreign (xs ++ ys) else not ((x == 123) || (x == 0))) ≡ true
    by true rest is = rest is
    by false rest is = is

pub begins : (held : Option (List ℕ)) (n : ℕ) (buffer text : List ℕ) → Consumes (left_from 0 held) (left_from (0 + n) held) (take n buffer) → begins_foreign (take n buffer) ≡ true
    → held ≡ Some text → begins_foreign text ≡ true
begins None n buffer text read is has = absurd (cc)
begins (Some xs) n buffer text read is has =
    let same : xs ≡ text = some_same xs text has in
    subst (λ (l : List ℕ). begins_foreign l ≡ true) same (rw read (more (take n buffer) (drop (0 + n) xs) is))
  where
    some_same : (a b : List ℕ) → Some a ≡ Some b → a ≡ b
    some_same a b e = cc

-- a text that has a byte behind the place of the longest line
pub longer : (held : Option (List ℕ)) (at n : ℕ) (buffer text : List ℕ) → Consumes (left_from at held) (left_from (at + n) held) (take n buffer) → n ≤ length buffer → 1 ≤ n
    → held ≡ Some text → at < length text
longer None at n buffer text read within some has = absurd (cc)
longer (Some xs) at n buffer text read within some has =
    let same : xs ≡ text = some_same xs text has in
    let count : length (drop at xs) ≡ length (take n buffer) + length (drop (at + n) xs) = ap (λ (l : List ℕ). length l) read ∙ length-append (take n buffer) (drop (at + n) xs) in
    subst (λ (l : List ℕ). at < length l) same (omega (arith, count, length-take-le n buffer within, some, length-drop at xs))
  where
    some_same : (a b : List ℕ) → Some a ≡ Some b → a ≡ b
    some_same a b e = cc
