-- The bytes of a text before its first NUL.
use Rattle.std.proofs.Common.{◌≡◌, ◌∙◌, ℕ, zero, suc, ◌+◌, ◌<◌, ◌≤◌, cond, List, [], ◌∷◌, ◌++◌, length, take, drop, Option, Some, None, refl, sym, ap, arith, append-nil}
use Rattle.std.proofs.lemmas.List.{drop-drop, get_or-take, length-take, take-append-drop}
use Rattle.std.proofs.lemmas.List.Recursion.{is_position_or_len}
use Rattle.std.proofs.lemmas.List.Sums.{position_or_len_is}
use Rattle.std.proofs.lemmas.Bool.{false_from_ne_true, ne_eqb}
use Rattle.std.specs.Io.KnownBytes.{Consumes, IsAtEnd}
use Rattle.std.specs.List.{position_or_len}
use Rattle.std.specs.Option.{unwrap_or}
use Rattle.memchr.specs.Find.{IsFirstByte, is_byte}
use Rattle.street_stream.specs.Lines.{IsInsideLine}
use Rattle.street_line.specs.KeptFiles.{IsText, left_from, sound, sound_len, sound_of}

-- ---- where it is found

add_one : (n : ℕ) → suc n ≡ 1 + n
add_one n = omega arith

len_is : (xs : List ℕ) → sound_len xs ≡ position_or_len (is_byte 0) xs
len_is = is_position_or_len sound_len (is_byte 0) refl step
  where
    step : (x : ℕ) (xs : List ℕ) → sound_len (x ∷ xs) ≡ cond (is_byte 0 x) 0 (1 + sound_len xs)
    step zero xs = refl
    step (suc x) xs = rw (ne_eqb (suc x) 0 (λ is. absurd (omega (arith, is)))) (add_one (sound_len xs))

pub first_nul : (xs : List ℕ) (r : Option ℕ) → IsFirstByte (is_byte 0) xs r → unwrap_or r (length xs) ≡ sound_len xs
first_nul xs None none = sym (len_is xs ∙ position_or_len_is (is_byte 0) xs (length xs) 0 (omega arith) (λ k within. false_from_ne_true _ (λ is. none k (omega arith) within is)) (λ within. absurd (omega (arith, within))))
first_nul xs (Some at) (before, found) =
    sym (len_is xs ∙ position_or_len_is (is_byte 0) xs at 0 (omega (arith, before.high)) (λ k within. false_from_ne_true _ (λ is. before.before k (omega arith) within is)) (λ within. found))

pub within_text : (xs : List ℕ) → sound_len xs ≤ length xs
within_text [] = omega arith
within_text (zero ∷ xs) = omega arith
within_text (suc x ∷ xs) = omega (arith, within_text xs)

-- ---- a read up to it

split_at : (xs ys : List ℕ) → sound (xs ++ ys) ≡ take (sound_len xs) xs ++ sound (drop (sound_len xs) (xs ++ ys))
split_at [] ys = refl
split_at (zero ∷ xs) ys = refl
split_at (suc x ∷ xs) ys = ap (λ (l : List ℕ). suc x ∷ l) (split_at xs ys)

at_nul : (xs ys : List ℕ) → sound_len xs ≡ 0 → (xs ≡ [] → ys ≡ []) → sound (xs ++ ys) ≡ []
at_nul [] ys at none = ap sound (none refl)
at_nul (zero ∷ xs) ys at none = refl
at_nul (suc x ∷ xs) ys at none = absurd (omega (arith, at))

pub take_less : (m n : ℕ) (xs : List ℕ) → m ≤ n → take m (take n xs) ≡ take m xs
take_less zero n xs less = refl
take_less (suc m) zero xs less = absurd (omega (arith, less))
take_less (suc m) (suc n) [] less = refl
take_less (suc m) (suc n) (x ∷ xs) less = ap (λ (l : List ℕ). x ∷ l) (take_less m n xs (omega (arith, less)))

pub read_up : (at count : ℕ) (held : Option (List ℕ)) (buffer : List ℕ) → sound_len (take count buffer) ≤ count → Consumes (left_from at held) (left_from (at + count) held) (take count buffer)
    → Consumes (sound_of (left_from at held)) (sound_of (left_from (at + sound_len (take count buffer)) held)) (take (sound_len (take count buffer)) buffer)
read_up at count None buffer less read = tt
read_up at count (Some text) buffer less read =
    let first = take count buffer in
    let size = sound_len first in
    ap sound read ∙ split_at first (drop (at + count) text)
    ∙ ap (λ (l : List ℕ). l ++ sound (drop size (first ++ drop (at + count) text))) (take_less size count buffer less)
    ∙ ap (λ (l : List ℕ). take size buffer ++ sound l) (ap (λ (l : List ℕ). drop size l) (sym read) ∙ drop-drop size at text)

pub ends_there : (at count : ℕ) (held : Option (List ℕ)) (buffer : List ℕ) → Consumes (left_from at held) (left_from (at + count) held) (take count buffer) → sound_len (take count buffer) ≡ 0
    → (take count buffer ≡ [] → IsAtEnd (left_from at held)) → IsAtEnd (sound_of (left_from (at + sound_len (take count buffer)) held))
ends_there at count None buffer read none end = tt
ends_there at count (Some text) buffer read none end =
    let here : at + sound_len (take count buffer) ≡ at = omega (arith, none) in
    rw (here, read) (at_nul (take count buffer) (drop (at + count) text) none (λ empty. rest_empty empty))
  where
    rest_empty : take count buffer ≡ [] → drop (at + count) text ≡ []
    rest_empty empty = sym (read ∙ ap (λ (l : List ℕ). l ++ drop (at + count) text) empty) ∙ end empty

-- ---- what stands behind it

sound_tail : (xs a b : List ℕ) → sound xs ≡ a ++ b → sound (b ++ drop (sound_len xs) xs) ≡ b
sound_tail [] [] [] is = refl
sound_tail [] [] (y ∷ b) is = absurd (cc)
sound_tail [] (y ∷ a) b is = absurd (cc)
sound_tail (zero ∷ xs) [] [] is = refl
sound_tail (zero ∷ xs) [] (y ∷ b) is = absurd (cc)
sound_tail (zero ∷ xs) (y ∷ a) b is = absurd (cc)
sound_tail (suc x ∷ xs) [] b is =
    ap (λ (l : List ℕ). sound (l ++ drop (sound_len xs) xs)) (sym is) ∙ ap (λ (l : List ℕ). suc x ∷ l) (sound_tail xs [] (sound xs) refl) ∙ is
sound_tail (suc x ∷ xs) (y ∷ a) b is = sound_tail xs a b (cc)

inside_first : (n : ℕ) (xs : List ℕ) → IsInsideLine xs → IsInsideLine (take n xs)
inside_first n xs inside k within =
    let long : k < length xs = omega (arith, within, length-take n xs) in
    let less : k < n = omega (arith, within, length-take n xs) in
    rw (get_or-take n xs k 0 less) (inside k long)

-- what was read to its end from the begin on is the text up to its first NUL
pub whole_text : (had left : Option (List ℕ)) (text : List ℕ) → Consumes (sound_of (left_from 0 had)) left text → IsAtEnd left
    → (rest : List ℕ) × IsText had (text ++ rest) × ((front last : List ℕ) → text ≡ front ++ last → IsInsideLine last → IsInsideLine (sound (last ++ rest)))
whole_text None left text read at_end = ([], tt, λ front last is inside. inside_first (sound_len (last ++ [])) (last ++ []) (rw (append-nil last) inside))
whole_text (Some xs) None text read at_end = absurd read
whole_text (Some xs) (Some ys) text read at_end =
    let size = sound_len xs in
    let is_sound : sound xs ≡ text = read ∙ ap (λ (l : List ℕ). text ++ l) at_end ∙ append-nil text in (
      drop size xs,
      sym (take-append-drop size xs) ∙ ap (λ (l : List ℕ). l ++ drop size xs) is_sound,
      λ front last is inside. rw (sound_tail xs front last (is_sound ∙ is)) inside,
    )
