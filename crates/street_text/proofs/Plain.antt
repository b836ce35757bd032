-- A value of strings and numbers of 64 bits is read from its text.
use Rattle.std.proofs.Common.{◌≡◌, suc, max, ◌^◌, ◌<◌, ◌≤◌, List, [], ◌∷◌, ◌++◌, Bool, true, false, Option, Some, option_map, option_and_then, IsUtf8, decimal, refl, sym, ap, ap₂, ◌∙◌, subst, append-nil}
use Rattle.std.proofs.lemmas.Str.{IsUtf8-append, IsUtf8-from_ascii}
use Rattle.std.proofs.lemmas.Fmt.{IsAscii-decimal}
use Rattle.json.specs.Token.{Token}
use Rattle.json.specs.Lex.{tokens}
use Rattle.json.specs.Json as json
use Rattle.json.specs.Print.{quoted}
use Rattle.json.specs.Tree as tree
use Rattle.json.proofs.Printed.Decimals.{IsNumber-decimal}
use Rattle.json.proofs.Printed.Tokens.{tokens-print}
use Rattle.json.proofs.Printed.Trees.{value-json_tokens, ArePrintable-json_tokens}
use Rattle.json.proofs.Printed.Utf8.{IsUtf8-are_ascii, IsUtf8-quoted, IsUtf8-boolean}
use Rattle.serde_json.specs.Data.{Num, unsigned, negative, float, Data, null, boolean, number, string, array, object, Items, no_items, item, Members, no_members, member, put, depth, items_depth, members_depth}
use Rattle.serde_json.specs.Read.{read, of_json, of_items, of_members, max_depth}
use Rattle.serde_json.specs.Written.{outline, items_outline, members_outline, compact_text, items_text, members_text, comma_if}
use Rattle.serde_json.proofs.Numbers.{number_of-decimal}
use Rattle.serde_json.proofs.Texts.{print-outline}

abbrev IsWhole : Num → Type 0
IsWhole (unsigned n) = n < 2 ^ 64
IsWhole (negative z) = ⊥
IsWhole (float x) = ⊥

-- the members, put one after another
abbrev pub rebuilt : Members → Members → Members
rebuilt no_members found = found
rebuilt (member k d ms) found = rebuilt ms (put k d found)

abbrev mutual
  pub IsPlain : Data → Type 0
  IsPlain null = Unit {0}
  IsPlain (boolean b) = Unit {0}
  IsPlain (number n) = IsWhole n
  IsPlain (string s) = IsUtf8 s
  IsPlain (array ds) = AreItemsPlain ds
  IsPlain (object ms) = AreMembersPlain ms × (rebuilt ms no_members ≡ ms)

  pub AreItemsPlain : Items → Type 0
  AreItemsPlain no_items = Unit {0}
  AreItemsPlain (item d ds) = IsPlain d × AreItemsPlain ds

  pub AreMembersPlain : Members → Type 0
  AreMembersPlain no_members = Unit {0}
  AreMembersPlain (member k d ms) = IsUtf8 k × IsPlain d × AreMembersPlain ms

-- ---- its numbers are printed and read

number_printed : (n : Num) → IsWhole n → tree.HasNumbers (outline (number n))
number_printed (unsigned n) h = IsNumber-decimal n h
number_printed (negative z) h = absurd h
number_printed (float x) h = absurd h

number_same : (n : Num) → IsWhole n → of_json (outline (number n)) ≡ Some (number n)
number_same (unsigned n) h = rw (number_of-decimal n h) refl
number_same (negative z) h = absurd h
number_same (float x) h = absurd h

mutual
  printed : (d : Data) → IsPlain d → tree.HasNumbers (outline d)
  printed null h = tt
  printed (boolean b) h = tt
  printed (number n) h = number_printed n h
  printed (string s) h = tt
  printed (array ds) h = items_printed ds h
  printed (object ms) h = members_printed ms h.0

  items_printed : (ds : Items) → AreItemsPlain ds → tree.ItemsHaveNumbers (items_outline ds)
  items_printed no_items h = tt
  items_printed (item d ds) h = (printed d h.0, items_printed ds h.1)

  members_printed : (ms : Members) → AreMembersPlain ms → tree.MembersHaveNumbers (members_outline ms)
  members_printed no_members h = tt
  members_printed (member k d ms) h = (printed d h.1, members_printed ms h.2)

mutual
  same : (d : Data) → IsPlain d → of_json (outline d) ≡ Some d
  same null h = refl
  same (boolean b) h = refl
  same (number n) h = number_same n h
  same (string s) h = refl
  same (array ds) h = ap (option_map array) (items_same ds h)
  same (object ms) h = ap (option_map object) (members_same ms no_members h.0 ∙ ap Some h.1)

  items_same : (ds : Items) → AreItemsPlain ds → of_items (items_outline ds) ≡ Some ds
  items_same no_items h = refl
  items_same (item d ds) h = rw (same d h.0, items_same ds h.1) refl

  members_same : (ms found : Members) → AreMembersPlain ms → of_members (members_outline ms) found ≡ Some (rebuilt ms found)
  members_same no_members found h = refl
  members_same (member k d ms) found h = rw (same d h.1) (members_same ms (put k d found) h.2)

-- ---- its text is UTF-8

number_utf8 : (n : Num) → IsWhole n → IsUtf8 (compact_text (number n))
number_utf8 (unsigned n) h = IsUtf8-from_ascii (decimal n) (IsAscii-decimal n h)
number_utf8 (negative z) h = absurd h
number_utf8 (float x) h = absurd h

comma_utf8 : (later : Bool) → IsUtf8 (comma_if later)
comma_utf8 true = IsUtf8-are_ascii (44 ∷ []) refl
comma_utf8 false = IsUtf8-are_ascii [] refl

mutual
  pub plain_utf8 : (d : Data) → IsPlain d → IsUtf8 (compact_text d)
  plain_utf8 null h = IsUtf8-are_ascii _ refl
  plain_utf8 (boolean b) h = IsUtf8-boolean b
  plain_utf8 (number n) h = number_utf8 n h
  plain_utf8 (string s) h = IsUtf8-quoted s h
  plain_utf8 (array ds) h = IsUtf8-append (91 ∷ []) (items_text false ds) (IsUtf8-are_ascii _ refl) (items_utf8 false ds h)
  plain_utf8 (object ms) h = IsUtf8-append (123 ∷ []) (members_text false ms) (IsUtf8-are_ascii _ refl) (members_utf8 false ms h.0)

  items_utf8 : (later : Bool) (ds : Items) → AreItemsPlain ds → IsUtf8 (items_text later ds)
  items_utf8 later no_items h = IsUtf8-are_ascii _ refl
  items_utf8 later (item d ds) h = IsUtf8-append (comma_if later) _ (comma_utf8 later) (IsUtf8-append (compact_text d) (items_text true ds) (plain_utf8 d h.0) (items_utf8 true ds h.1))

  members_utf8 : (later : Bool) (ms : Members) → AreMembersPlain ms → IsUtf8 (members_text later ms)
  members_utf8 later no_members h = IsUtf8-are_ascii _ refl
  members_utf8 later (member k d ms) h =
      let value = IsUtf8-append (compact_text d) (members_text true ms) (plain_utf8 d h.1) (members_utf8 true ms h.2) in
      let rest = IsUtf8-append (58 ∷ []) (compact_text d ++ members_text true ms) (IsUtf8-are_ascii _ refl) value in
      IsUtf8-append (comma_if later) _ (comma_utf8 later) (IsUtf8-append (quoted k) (58 ∷ (compact_text d ++ members_text true ms)) (IsUtf8-quoted k h.0) rest)

-- ---- it is read from its text

mutual
  outline_depth : (d : Data) → tree.depth (outline d) ≡ depth d
  outline_depth null = refl
  outline_depth (boolean b) = refl
  outline_depth (number n) = refl
  outline_depth (string s) = refl
  outline_depth (array ds) = ap suc (items_outline_depth ds)
  outline_depth (object ms) = ap suc (members_outline_depth ms)

  items_outline_depth : (ds : Items) → tree.items_depth (items_outline ds) ≡ items_depth ds
  items_outline_depth no_items = refl
  items_outline_depth (item d ds) = ap₂ max (outline_depth d) (items_outline_depth ds)

  members_outline_depth : (ms : Members) → tree.members_depth (members_outline ms) ≡ members_depth ms
  members_outline_depth no_members = refl
  members_outline_depth (member k d ms) = ap₂ max (outline_depth d) (members_outline_depth ms)

abbrev whole : Option (json.Json × List Token) → Option Data
whole o = option_and_then of_json (option_and_then (λ p. json.if_last p.0 p.1) o)

pub plain_read : (d : Data) → IsPlain d → depth d ≤ max_depth → read (compact_text d) ≡ Some d
plain_read d plain shallow =
    let ts = tree.json_tokens (outline d) in
    let again : tokens (compact_text d) ≡ ts ++ [] = ap tokens (sym (print-outline d)) ∙ tokens-print ts (ArePrintable-json_tokens (outline d) (printed d plain)) ∙ sym (append-nil ts) in
    let within : tree.depth (outline d) ≤ max_depth = subst (λ n. n ≤ max_depth) (sym (outline_depth d)) shallow in
    ap whole (ap (json.value max_depth) again ∙ value-json_tokens (outline d) max_depth [] within) ∙ same d plain
