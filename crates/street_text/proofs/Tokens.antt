-- Tokens that are written behind one another.
use Rattle.std.proofs.Common.{◌≡◌, ℕ, ◌+◌, ◌<◌, List, [], ◌∷◌, ◌++◌, length, drop, get_or, Bool, true, false, Result, OnOk, refl, sym, ap, ◌∙◌, append_assoc}
use Rattle.std.proofs.lemmas.List.{at_drop_more}
use Rattle.std.proofs.lemmas.Result.{on_ok_weaker}
use Rattle.std.specs.Borrow.{Bor}
use Rattle.json.specs.Print.{print}
use Rattle.json.specs.Token.{Token}
use Rattle.json.specs.Tree.{items_tokens, members_tokens}
use Rattle.json.specs.Written.{Written, Writes}
use Rattle.serde_json.proofs.Texts.{print-outline}
use Rattle.serde_json.specs.Data.{Data}
use Rattle.serde_json.specs.Written.{compact_text, items_outline, members_outline}
use Rattle.street_text.specs.Tokens.{tokens_of, Adds, is_left_out, field_tokens, members_of}
use Rattle.street_text.specs.ReplyLines.{items_from}
use Rattle.street_text.specs.declared.fields.Field.{Field}

-- one token
pub adds_one : {E : Type 0} → (r : Result (Unit {0}) E) (old new : Written) (t : Token) → Writes r old new t → OnOk r (Adds (t ∷ []) old new)
adds_one r old new t w = on_ok_weaker r (λ e. (w.room.0, e)) w.ok

-- the text of a value that was written where nothing was
pub text_of_value : (d : Data) (old new : Written) → old.before ≡ [] → old.tokens ≡ [] → Adds (tokens_of d) old new → new.before ++ print new.tokens ≡ compact_text d
text_of_value d old new none nothing adds =
    let before : new.before ≡ [] = adds.0 ∙ none in
    let tokens : new.tokens ≡ tokens_of d = adds.1 ∙ ap (λ ts. ts ++ tokens_of d) nothing in
    ap (λ (text : List ℕ). text ++ print new.tokens) before ∙ ap print tokens ∙ print-outline d

-- the tokens of a list from an entry on
abbrev pub rest_of_list : {T : Type 0} → (T → Data) → List T → List Token
rest_of_list one xs = items_tokens (items_outline (items_from one xs))

pub one_more_row : {T : Type 0} (one : T → Data) (old new all : List Token) (xs : List T) (i : ℕ) (d : T) → i < length xs → new ≡ old ++ tokens_of (one (get_or xs i d))
    → old ++ rest_of_list one (drop i xs) ≡ all → new ++ rest_of_list one (drop (i + 1) xs) ≡ all
one_more_row one old new all xs i d within more is =
    ap (λ ts. ts ++ rest_of_list one (drop (i + 1) xs)) more
    ∙ append_assoc old (tokens_of (one (get_or xs i d))) (rest_of_list one (drop (i + 1) xs))
    ∙ sym (at_drop_more (λ ys. old ++ rest_of_list one ys) xs i d within)
    ∙ is

-- the tokens of an object from a field on
abbrev pub rest_of_object : List (Bor (List ℕ) × Field) → List Token
rest_of_object fields = members_tokens (members_outline (members_of fields))

by_field : (b : Bool) (key : Bor (List ℕ)) (f : Field) (fields : List (Bor (List ℕ) × Field)) → is_left_out f ≡ b
    → rest_of_object ((key, f) ∷ fields) ≡ field_tokens key.now f ++ rest_of_object fields
by_field true key f fields e = rw e refl
by_field false key f fields e = rw e refl

pub one_more_field : (old new all : List Token) (fields : List (Bor (List ℕ) × Field)) (i : ℕ) (d : Bor (List ℕ) × Field) → i < length fields
    → new ≡ old ++ field_tokens (get_or fields i d).0.now (get_or fields i d).1
    → old ++ rest_of_object (drop i fields) ≡ all → new ++ rest_of_object (drop (i + 1) fields) ≡ all
one_more_field old new all fields i d within more is =
    let e = get_or fields i d in
    ap (λ ts. ts ++ rest_of_object (drop (i + 1) fields)) more
    ∙ append_assoc old (field_tokens e.0.now e.1) (rest_of_object (drop (i + 1) fields))
    ∙ ap (λ ts. old ++ ts) (sym (by_field (is_left_out e.1) e.0 e.1 (drop (i + 1) fields) refl))
    ∙ sym (at_drop_more (λ ys. old ++ rest_of_object ys) fields i d within)
    ∙ is
