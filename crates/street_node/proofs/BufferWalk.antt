-- The order of a walk over buffers, against the choice by entrance.
use Rattle.std.proofs.Common.{◌≡◌, ℕ, zero, suc, ◌+◌, ◌<◌, ◌≤◌, Bool, true, false, List, [], ◌∷◌, length, get_or, take, refl, sym, ◌∙◌, ap, subst, arith, inl, inr, Option, Some, None, slice_get, find, not, ◌&&◌, if◌then◌else◌}
use Rattle.std.specs.Option.{option_map_or}
use Rattle.std.specs.List.{list_any}
use Rattle.std.proofs.lemmas.Bool.{cases_Bool, both_ways, or_left}
use Rattle.std.proofs.lemmas.List.Folds.{list_any_at}
use Rattle.std.proofs.lemmas.List.Sums.{sum_by-cons}
use Rattle.std.proofs.lemmas.Option.{slice_get_within, get_or_from_slice_get}
use Rattle.street_base.specs.declared.names.Place.{Place}
use Rattle.street_base.specs.Prelude.{is_place, places, is_free, Traffic, lane_at, one_if, target, is_this, may_give, giver, gives}
use Rattle.street_base.proofs.OptionLemmas.{holds-some}
use Rattle.street_base.proofs.ReleaseLemmas.{is_place-same, is_place-refl, find-holds}
use Rattle.street_node.specs.Prelude.{times, AtMostOnce, IsWalk}

-- ---- a place stands at most once in a list

pub times-cons : (q p : Place) (ps : List Place) → times q (p ∷ ps) ≡ one_if (is_place q p) + times q ps
times-cons q p ps = sum_by-cons (λ x. one_if (is_place q x)) p ps

pub times-at : (q d : Place) (ps : List Place) (k : ℕ) → k < length ps → get_or ps k d ≡ q → 1 ≤ times q ps
times-at q d [] k h e = absurd (omega arith)
times-at q d (p ∷ ps) zero h e =
    let one : one_if (is_place q p) ≡ 1 = rw (e, is_place-refl q) refl in
    omega (arith, times-cons q p ps, one)
times-at q d (p ∷ ps) (suc k) h e = omega (arith, times-cons q p ps, times-at q d ps k (omega arith) e)

pub once-rest : (p : Place) (ps : List Place) → AtMostOnce (p ∷ ps) → AtMostOnce ps
once-rest p ps h q = omega (arith, times-cons q p ps, h q)

pub none-times : (q : Place) (ps : List Place) → list_any (is_place q) ps ≡ false → times q ps ≡ 0
none-times q [] e = refl
none-times q (p ∷ ps) e = elim (cases_Bool (is_place q p)) as (λ _. times q (p ∷ ps) ≡ 0) [
  | inl here ↦ absurd (both_ways (list_any (is_place q) (p ∷ ps)) e (or_left (is_place q p) (list_any (is_place q) ps) here))
  | inr other ↦ (
      let away : list_any (is_place q) ps ≡ false = rw other at e in
      let none : one_if (is_place q p) ≡ 0 = ap one_if other in
      omega (arith, times-cons q p ps, none, none-times q ps away))
]

-- who stands at a place of a list is in it
pub at-any : (ps : List Place) (k : ℕ) (p : Place) → slice_get ps k ≡ Some p → list_any (is_place p) ps ≡ true
at-any ps k p at = list_any_at (is_place p) ps k p (slice_get_within ps k p at) (ap (is_place p) (get_or_from_slice_get ps k p p at) ∙ is_place-refl p)

-- ---- the first of a list at which a test holds is that at k, unless it holds before k

pub first-at : (t : Place → Bool) (ps : List Place) (k : ℕ) (q d : Place) → k < length ps → get_or ps k d ≡ q → t q ≡ true → AtMostOnce ps → is_this q (find t ps) ≡ not (list_any t (take k ps))
first-at t [] k q d h e holds once = absurd (omega arith)
first-at t (p ∷ ps) zero q d h e holds once =
    let here : t p ≡ true = ap t e ∙ holds in
    rw (here, e, is_place-refl q) refl
first-at t (p ∷ ps) (suc k) q d h e holds once = elim (cases_Bool (t p)) as (λ _. is_this q (find t (p ∷ ps)) ≡ not (list_any t (take (suc k) (p ∷ ps)))) [
  | inl here ↦ (
      let apart : is_place q p ≡ false = elim (cases_Bool (is_place q p)) as (λ _. is_place q p ≡ false) [
        | inl same ↦ absurd (
            let one : one_if (is_place q p) ≡ 1 = rw same refl in
            omega (arith, times-cons q p ps, one, once q, times-at q d ps k (omega arith) e))
        | inr other ↦ other
      ] in
      rw (here, apart) refl)
  | inr before ↦ rw before (first-at t ps k q d (omega arith) e holds (once-rest p ps once))
]

-- ---- who goes

module _ (m : Traffic) where
  pub taken-from : (o : Option Place) (from : Place) → is_this from o ≡ true → o ≡ Some from
  taken-from None from e = cc
  taken-from (Some f) from e = ap (λ (p : Place). Some p) (sym (is_place-same from f e))

  -- who is chosen leads there
  pub chosen-leads : (to from : Place) → is_this from (giver m to) ≡ true → may_give m to from ≡ true
  unfolding giver
  chosen-leads to from e = elim (cases_Bool (is_free (lane_at m to).track 0)) as (λ _. may_give m to from ≡ true) [
    | inl free ↦ find-holds (may_give m to) (places m.network) from (taken-from (find (may_give m to) (places m.network)) from (rw free at e))
    | inr shut ↦ (let none : false ≡ true = rw shut at e in cc)
  ]

  -- a front that a lane takes goes
  pub taken-goes : (to from : Place) → is_this from (giver m to) ≡ true → gives m from ≡ true
  taken-goes to from t =
      let found = holds-some (is_place to) (target m from) (chosen-leads to from t) in
      let same : to ≡ found.0 = is_place-same to found.0 found.2 in
      rw found.1 (subst (λ (p : Place). is_this from (giver m p) ≡ true) same t)

  -- a front that is not ready or has no turn stays
  pub stays : (from : Place) → target m from ≡ None → gives m from ≡ false
  stays from none = rw none refl

  -- a front that leads to a lane goes if that lane takes it
  pub goes-if-taken : (from to : Place) → target m from ≡ Some to → gives m from ≡ is_this from (giver m to)
  goes-if-taken from to is = rw is refl

  -- the front at k of the walk goes if its lane is free and no front before k leads there
  pub goes-at : (ps : List Place) → IsWalk m ps → (k : ℕ) (from to : Place) → slice_get ps k ≡ Some from → target m from ≡ Some to →
      gives m from ≡ is_free (lane_at m to).track 0 && not (list_any (may_give m to) (take k ps))
  unfolding giver
  goes-at ps walk k from to at is =
      let leads : may_give m to from ≡ true = ap (λ (o : Option Place). option_map_or (is_place to) o false) is ∙ is_place-refl to in
      let firsts = walk.firsts k to from at leads in
      let first = first-at (may_give m to) ps k from from (slice_get_within ps k from at) (get_or_from_slice_get ps k from from at) leads walk.once in
      goes-if-taken from to is ∙ by_free (is_free (lane_at m to).track 0) (find (may_give m to) (places m.network)) (ap (λ (o : Option Place). is_this from o) (sym firsts) ∙ first)
    where
      by_free : (b : Bool) (o : Option Place) → is_this from o ≡ not (list_any (may_give m to) (take k ps)) → is_this from (if b then o else None) ≡ b && not (list_any (may_give m to) (take k ps))
      by_free true o e = e
      by_free false o e = refl
