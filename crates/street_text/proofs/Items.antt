-- A list of values that grows at its end.
use Rattle.std.proofs.Common.{◌≡◌, ℕ, ◌+◌, ◌<◌, List, [], ◌∷◌, ◌++◌, length, drop, get_or, refl, sym, ap, ◌∙◌}
use Rattle.std.proofs.lemmas.List.{at_drop_more}
use Rattle.serde_json.specs.Data.{Data, Items, no_items, item}
use Rattle.serde_json.specs.View.{view, items_view}
use Rattle.serde_json.specs.declared.value.Value.{Value}
use Rattle.street_text.specs.ReplyLines.{items_from}

abbrev pub before : List Value → Items → Items
before [] rest = rest
before (v ∷ vs) rest = item (view v) (before vs rest)

pub before_end : (vs : List Value) → before vs no_items ≡ items_view vs
before_end [] = refl
before_end (v ∷ vs) = ap (item (view v)) (before_end vs)

before_push : (vs : List Value) (v : Value) (rest : Items) → before vs (item (view v) rest) ≡ before (vs ++ v ∷ []) rest
before_push [] v rest = refl
before_push (w ∷ vs) v rest = ap (item (view w)) (before_push vs v rest)

pub one_more_item : {T : Type 0} (one : T → Data) (vs : List Value) (xs : List T) (i : ℕ) (d : T) (v : Value) → i < length xs → view v ≡ one (get_or xs i d)
    → before (vs ++ v ∷ []) (items_from one (drop (i + 1) xs)) ≡ before vs (items_from one (drop i xs))
one_more_item one vs xs i d v within is =
    sym (at_drop_more (λ ys. before vs (items_from one ys)) xs i d within
    ∙ ap (λ e. before vs (item e (items_from one (drop (i + 1) xs)))) (sym is) ∙ before_push vs v (items_from one (drop (i + 1) xs)))
