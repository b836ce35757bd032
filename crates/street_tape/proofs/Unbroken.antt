-- Texts without LF, and the lines that they make.
use Rattle.std.proofs.Common.{◌≡◌, ℕ, List, [], ◌∷◌, ◌++◌, Bool, true, false, not, ◌&&◌, ◌==◌, decimal, refl, ap, ◌∙◌, append_assoc, arith}
use Rattle.std.specs.Str.Parse.{AllDigits}
use Rattle.std.proofs.lemmas.Bool.{and_parts, and_from, not-true, ne_eqb}
use Rattle.std.proofs.lemmas.Fmt.{decimal_is_IsNumeral}
use Rattle.std.proofs.lemmas.Str.Parse.{digit_from_value}
use Rattle.json.specs.Print.{quoted}
use Rattle.serde_json.specs.Data.{Num, unsigned, negative, float, Data, null, boolean, number, string, array, object, Items, no_items, item, Members, no_members, member}
use Rattle.serde_json.specs.Written.{compact_text, items_text, members_text, comma_if}
use Rattle.street_stream.specs.Lines.{cut, onto_first, if_any, lines_of}
use Rattle.street_text.proofs.Plain.{IsPlain, AreItemsPlain, AreMembersPlain}

-- no byte of it is LF
abbrev pub is_unbroken : List ℕ → Bool
is_unbroken [] = true
is_unbroken (x ∷ xs) = not (x == 10) && is_unbroken xs

unbroken_append : (a b : List ℕ) → is_unbroken a ≡ true → is_unbroken b ≡ true → is_unbroken (a ++ b) ≡ true
unbroken_append [] b h k = k
unbroken_append (x ∷ xs) b h k =
    let p = and_parts (not (x == 10)) (is_unbroken xs) h in
    and_from (not (x == 10)) (is_unbroken (xs ++ b)) p.0 (unbroken_append xs b p.1 k)

-- ---- lines

cut_line : (line rest : List ℕ) → is_unbroken line ≡ true → cut (line ++ 10 ∷ rest) ≡ (line ∷ (cut rest).0, (cut rest).1)
unfolding cut
cut_line [] rest h = refl
cut_line (x ∷ xs) rest h =
    let p = and_parts (not (x == 10)) (is_unbroken xs) h in
    rw (not-true (x == 10) p.0) (ap (onto_first x) (cut_line xs rest p.1))

-- with LF after it, it is the first line
pub first_line : (line rest : List ℕ) → is_unbroken line ≡ true → lines_of ((line ++ 10 ∷ []) ++ rest) ≡ line ∷ lines_of rest
first_line line rest h = ap lines_of (append_assoc line (10 ∷ []) rest) ∙ ap (λ (p : List (List ℕ) × List ℕ). p.0 ++ if_any p.1) (cut_line line rest h)

pub no_lines : lines_of [] ≡ []
unfolding cut
no_lines = refl

-- ---- the text of a value

-- no text in it prints as an LF
abbrev mutual
  pub is_clear : Data → Bool
  is_clear null = true
  is_clear (boolean b) = true
  is_clear (number n) = true
  is_clear (string s) = is_unbroken (quoted s)
  is_clear (array ds) = are_items_clear ds
  is_clear (object ms) = are_members_clear ms

  pub are_items_clear : Items → Bool
  are_items_clear no_items = true
  are_items_clear (item d ds) = is_clear d && are_items_clear ds

  pub are_members_clear : Members → Bool
  are_members_clear no_members = true
  are_members_clear (member k d ms) = is_unbroken (quoted k) && (is_clear d && are_members_clear ms)

digits_unbroken : (ds : List ℕ) → AllDigits 10 ds → is_unbroken ds ≡ true
digits_unbroken [] h = refl
digits_unbroken (c ∷ cs) h =
    let digit = digit_from_value c h.0 in
    rw (ne_eqb c 10 (λ e. omega (arith, digit.0))) (digits_unbroken cs h.1)

number_unbroken : (n : Num) → IsPlain (number n) → is_unbroken (compact_text (number n)) ≡ true
number_unbroken (unsigned n) h = digits_unbroken (decimal n) (decimal_is_IsNumeral n h).0.1
number_unbroken (negative z) h = absurd h
number_unbroken (float x) h = absurd h

boolean_unbroken : (b : Bool) → is_unbroken (compact_text (boolean b)) ≡ true
boolean_unbroken true = refl
boolean_unbroken false = refl

comma_unbroken : (later : Bool) → is_unbroken (comma_if later) ≡ true
comma_unbroken true = refl
comma_unbroken false = refl

mutual
  pub text_unbroken : (d : Data) → IsPlain d → is_clear d ≡ true → is_unbroken (compact_text d) ≡ true
  text_unbroken null h c = refl
  text_unbroken (boolean b) h c = boolean_unbroken b
  text_unbroken (number n) h c = number_unbroken n h
  text_unbroken (string s) h c = c
  text_unbroken (array ds) h c = items_unbroken false ds h c
  text_unbroken (object ms) h c = members_unbroken false ms h.0 c

  items_unbroken : (later : Bool) (ds : Items) → AreItemsPlain ds → are_items_clear ds ≡ true → is_unbroken (items_text later ds) ≡ true
  items_unbroken later no_items h c = refl
  items_unbroken later (item d ds) h c =
      let p = and_parts (is_clear d) (are_items_clear ds) c in
      unbroken_append (comma_if later) (compact_text d ++ items_text true ds) (comma_unbroken later)
      (unbroken_append (compact_text d) (items_text true ds) (text_unbroken d h.0 p.0) (items_unbroken true ds h.1 p.1))

  members_unbroken : (later : Bool) (ms : Members) → AreMembersPlain ms → are_members_clear ms ≡ true → is_unbroken (members_text later ms) ≡ true
  members_unbroken later no_members h c = refl
  members_unbroken later (member k d ms) h c =
      let p = and_parts (is_unbroken (quoted k)) (is_clear d && are_members_clear ms) c in
      let q = and_parts (is_clear d) (are_members_clear ms) p.1 in
      let value = unbroken_append (compact_text d) (members_text true ms) (text_unbroken d h.1 q.0) (members_unbroken true ms h.2 q.1) in
      unbroken_append (comma_if later) (quoted k ++ 58 ∷ (compact_text d ++ members_text true ms)) (comma_unbroken later)
      (unbroken_append (quoted k) (58 ∷ (compact_text d ++ members_text true ms)) p.0 value)
