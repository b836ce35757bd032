-- A search by keys is a search of the entries.
use Rattle.std.proofs.Common.{◌≡◌, ℕ, Bool, false, cond, eqb, List, [], ◌∷◌, ◌++◌, ◌+◌, ◌<◌, length, map, take, get_or, refl, sym, ◌∙◌, ap, Option, Some, None, position, slice_get, ◌&&◌, nat_lt, option_and_then, find, inl, inr, Bor, ltb, is_some, option_copied, IfSome}
use Rattle.std.specs.List.{list_any, position_or_len}
use Rattle.std.proofs.lemmas.Bool.{eqb-true, eqb-false, eq-eqb, ne_eqb, cases_Bool, cond-true, cond-false, ltb-false, ltb-true}
use Rattle.std.proofs.lemmas.List.{length-map, map-append, take_more}
use Rattle.std.proofs.lemmas.List.Folds.{find_at}
use Rattle.std.proofs.lemmas.Option.{slice_get_past, slice_get-get_or}

module _ {X K : Type 0} (key : X → K) (p : K → Bool) (q : X → Bool) (same : (x : X) → p (key x) ≡ q x) where
  pub list_any-keys : (xs : List X) → list_any p (map key xs) ≡ list_any q xs
  list_any-keys [] = refl
  list_any-keys (x ∷ xs) = rw (same x, list_any-keys xs) refl

  position_or_len-keys : (xs : List X) → position_or_len p (map key xs) ≡ position_or_len q xs
  position_or_len-keys [] = refl
  position_or_len-keys (x ∷ xs) = rw (same x, position_or_len-keys xs) refl

  pub position-keys : (xs : List X) → position p (map key xs) ≡ position q xs
  position-keys xs = rw (position_or_len-keys xs, length-map xs key) refl

-- the keys read so far, with one more that is new
module _ {X K : Type 0} (key : X → K) (eq : K → K → Bool) (rep : X → X → Bool) (same : (x y : X) → eq (key x) (key y) ≡ rep x y) where
  pub keys-more : (xs : List X) (i : ℕ) (d : X) (ks new : List K) → i < length xs → list_any (rep (get_or xs i d)) (take i xs) ≡ false → ks ≡ map key (take i xs) → new ≡ cond (list_any (eq (key (get_or xs i d))) ks) ks (ks ++ key (get_or xs i d) ∷ []) → new ≡ map key (take (i + 1) xs)
  keys-more xs i d ks new h fresh is e =
      let x = get_or xs i d in
      let absent : list_any (eq (key x)) ks ≡ false = ap (list_any (eq (key x))) is ∙ list_any-keys key (eq (key x)) (rep x) (same x) (take i xs) ∙ fresh in
      e ∙ cond-false _ _ _ absent ∙ ap (λ l. l ++ key x ∷ []) is ∙ sym (map-append key (take i xs) (x ∷ [])) ∙ sym (ap (map key) (take_more xs i d h))

-- the first that passes is the one at the first position that does
pub find-position : {X : Type 0} (p : X → Bool) (xs : List X) → find p xs ≡ option_and_then (slice_get xs) (position p xs)
find-position p xs = elim (cases_Bool (nat_lt (position_or_len p xs) (length xs))) as (λ _. find p xs ≡ option_and_then (slice_get xs) (position p xs)) [
  | inl t ↦ rw (cond-true (nat_lt (position_or_len p xs) (length xs)) (Some (position_or_len p xs)) None t) (find_at p xs)
  | inr f ↦ rw (cond-false (nat_lt (position_or_len p xs) (length xs)) (Some (position_or_len p xs)) None f) (find_at p xs ∙ slice_get_past xs (position_or_len p xs) (ltb-false _ _ f))
]

-- keys of turns are compared part by part
abbrev pub is_same_key : ℕ × ℕ × ℕ → ℕ × ℕ × ℕ → Bool
is_same_key x y = (eqb x.0 y.0 && eqb x.1 y.1) && eqb x.2 y.2

-- what `get` of a slice lends
pub copied-at : {X : Type 0} (xs : List X) (i : ℕ) (r : Option (Bor X)) → is_some r ≡ ltb i (length xs) → IfSome r (λ x. x.now ≡ get_or xs i x.now) → option_copied r ≡ slice_get xs i
copied-at xs i None e h = sym (slice_get_past xs i (ltb-false _ _ (sym e)))
copied-at xs i (Some x) e h = sym (slice_get-get_or xs i x.now (ltb-true _ _ (sym e)) ∙ ap Some (sym h))
