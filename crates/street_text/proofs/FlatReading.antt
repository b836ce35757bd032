-- A line of numbers, texts and lists of numbers, a token at a time.
use Rattle.std.proofs.Common.{◌≡◌, ℕ, suc, ◌^◌, ◌<◌, ◌==◌, List, [], ◌∷◌, ◌++◌, length, get_or, true, false, Option, Some, None, IfSome, refl, sym, ap, ◌∙◌, lt-ltb, eq-eqb, SomeIff, bytes_eq, IsUtf8}
use Rattle.std.proofs.lemmas.Slice.Eq.{bytes_eq-Decides}
use Rattle.fast_float.specs.Text.{Parts, scan, digits_of, IsInteger}
use Rattle.json.specs.Token.{Token}
use Rattle.json.specs.Json as json
use Rattle.json.specs.Json.{value, items, members, parse_map}
use Rattle.json.proofs.Grammar.{value_is}
use Rattle.serde_json.specs.Data.{unsigned, string, array, object, Items, no_items, item, Members, no_members, put}
use Rattle.serde_json.specs.Read.{number_of, number_from, of_json, of_items, of_members, converted, read}
use Rattle.serde_json.specs.Find.{get_member}
use Rattle.street_text.proofs.Converted.{converted-array, converted-object}
use Rattle.serde_json.proofs.Views.{get_member-put, get_member-put_other}
use Rattle.street_text.specs.FlatLines.{flat_data, put_flat, flat_members, flat_object}
use Rattle.street_text.specs.LineCommands.{number_in, entries_of, list_in, value_of}
use Rattle.street_text.specs.ReplyLines.{number_data, numbers}
use Rattle.street_text.specs.declared.flat.FlatLine.{FlatLine}
use Rattle.street_text.specs.declared.flat.FlatMember.{FlatMember}
use Rattle.street_text.proofs.Texts.{value_read}

-- ---- numbers

integer_from : (p : Parts) → IsInteger p → digits_of p < 2 ^ 64 → number_from false p ≡ Some (unsigned (digits_of p))
integer_from p whole less = rw (lt-ltb _ _ whole.0, whole.1, eq-eqb _ _ whole.2) (rw (lt-ltb _ _ less))

-- digits alone, below 2 ^ 64
pub whole_number : (s : List ℕ) (r : Option ℕ) → (get_or s 0 0 == 45) ≡ false → SomeIff r (IsInteger (scan s) × (digits_of (scan s) < 2 ^ 64)) (digits_of (scan s))
    → IfSome r (λ n. number_of s ≡ Some (unsigned n))
unfolding number_of
whole_number s None unsigned_ h = tt
whole_number s (Some n) unsigned_ h = rw unsigned_ (integer_from (scan s) h.0.0 h.0.1 ∙ ap (λ k. Some (unsigned k)) (sym h.1))

pub number_read : (depth : ℕ) (s : List ℕ) (n : ℕ) (ts : List Token) → number_of s ≡ Some (unsigned n) → converted of_json (value depth (Token.number s ∷ ts)) ≡ Some (number_data n, ts)
number_read depth s n ts e = ap (converted of_json) (value_is depth (Token.number s ∷ ts)) ∙ rw e refl

pub text_read : (depth : ℕ) (s : List ℕ) (ts : List Token) → converted of_json (value depth (Token.string s ∷ ts)) ≡ Some (string s, ts)
text_read depth s ts = ap (converted of_json) (value_is depth (Token.string s ∷ ts))

-- ---- a list that grows at its end

abbrev pub numbers_before : List ℕ → Items → Items
numbers_before [] rest = rest
numbers_before (n ∷ ns) rest = item (number_data n) (numbers_before ns rest)

pub none_before : (r : Option (Items × List Token)) → r ≡ parse_map (numbers_before []) r
none_before None = refl
none_before (Some p) = refl

pub numbers_before-no_items : (ns : List ℕ) → numbers_before ns no_items ≡ numbers ns
numbers_before-no_items [] = refl
numbers_before-no_items (n ∷ ns) = ap (item (number_data n)) (numbers_before-no_items ns)

numbers_push : (ns : List ℕ) (n : ℕ) (rest : Items) → numbers_before ns (item (number_data n) rest) ≡ numbers_before (ns ++ n ∷ []) rest
numbers_push [] n rest = refl
numbers_push (m ∷ ms) n rest = ap (item (number_data m)) (numbers_push ms n rest)

pub one_more_number : (ns : List ℕ) (n : ℕ) (r : Option (Items × List Token)) → parse_map (numbers_before ns) (parse_map (item (number_data n)) r) ≡ parse_map (numbers_before (ns ++ n ∷ [])) r
one_more_number ns n None = refl
one_more_number ns n (Some p) = ap (λ ds. Some (ds, p.1)) (numbers_push ns n p.0)

-- ---- what opens and is read to its end

list_opens : (depth : ℕ) (ts : List Token) → value (suc depth) (Token.begin_array ∷ ts) ≡ parse_map json.array (items (value depth) (length ts) ts)
unfolding value
list_opens depth ts = refl

pub list_read : (depth : ℕ) (ts r : List Token) (ns : List ℕ) → converted of_items (items (value depth) (length ts) ts) ≡ Some (numbers ns, r)
    → converted of_json (value (suc depth) (Token.begin_array ∷ ts)) ≡ Some (array (numbers ns), r)
list_read depth ts r ns e =
    ap (converted of_json) (list_opens depth ts) ∙ converted-array (items (value depth) (length ts) ts) ∙ ap (parse_map array) e

object_opens : (depth : ℕ) (ts : List Token) → value (suc depth) (Token.begin_object ∷ ts) ≡ parse_map json.object (members (value depth) (length ts) ts)
unfolding value
object_opens depth ts = refl

pub object_read : (depth : ℕ) (ts r : List Token) (ms : Members) → converted (λ js. of_members js no_members) (members (value depth) (length ts) ts) ≡ Some (ms, r)
    → converted of_json (value (suc depth) (Token.begin_object ∷ ts)) ≡ Some (object ms, r)
object_read depth ts r ms e =
    ap (converted of_json) (object_opens depth ts) ∙ converted-object (members (value depth) (length ts) ts) ∙ ap (parse_map object) e

-- ---- members that grow at their end

put_push : (ms : List FlatMember) (m : FlatMember) (found : Members) → put_flat (ms ++ m ∷ []) found ≡ put m.name.now (flat_data m.value) (put_flat ms found)
put_push [] m found = refl
put_push (x ∷ xs) m found = put_push xs m (put x.name.now (flat_data x.value) found)

pub flat_push : (ms : List FlatMember) (m : FlatMember) → flat_members (ms ++ m ∷ []) ≡ put m.name.now (flat_data m.value) (flat_members ms)
flat_push ms m = put_push ms m no_members

-- the last of a name counts
pub last_here : (name : List ℕ) (ms : List FlatMember) (m : FlatMember) → bytes_eq m.name.now name ≡ true → get_member name (flat_members (ms ++ m ∷ [])) ≡ Some (flat_data m.value)
last_here name ms m is =
    let same : m.name.now ≡ name = (bytes_eq-Decides m.name.now name).0 is in
    ap (get_member name) (flat_push ms m) ∙ rw same (get_member-put name (flat_data m.value) (flat_members ms))

pub last_elsewhere : (name : List ℕ) (ms : List FlatMember) (m : FlatMember) → (m.name.now ≡ name → ⊥) → get_member name (flat_members (ms ++ m ∷ [])) ≡ get_member name (flat_members ms)
last_elsewhere name ms m other =
    ap (get_member name) (flat_push ms m) ∙ get_member-put_other name m.name.now (flat_data m.value) (flat_members ms) (λ e. other (sym e))

-- ---- a whole line

pub flat_value : (bytes text : List ℕ) (r : Option FlatLine) → text ≡ bytes → IsUtf8 bytes → IfSome r (λ line. read text ≡ Some (flat_object line)) → IfSome r (λ line. value_of bytes ≡ Some (flat_object line))
flat_value bytes text None same utf8 h = tt
flat_value bytes text (Some line) same utf8 h = value_read bytes (flat_object line) utf8 (ap read (sym same) ∙ h)

numbers_again : (ns : List ℕ) → entries_of number_in (numbers ns) ≡ Some ns
numbers_again [] = refl
numbers_again (n ∷ ns) = rw (numbers_again ns) refl

pub list_again : (ns : List ℕ) → list_in number_in (array (numbers ns)) ≡ Some ns
list_again ns = numbers_again ns
