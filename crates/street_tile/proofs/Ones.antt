-- A number stands on one lane of traffic that is whole, so on a tile's lanes at most once.
use Rattle.std.proofs.Common.{◌≡◌, ℕ, ◌+◌, ◌<◌, ◌≤◌, Bool, true, false, List, [], ◌∷◌, length, sym, ◌∙◌, ap, arith, inl, inr, filter, nat_lt, slice_get, sum_by}
use Rattle.std.specs.List.{list_any}
use Rattle.std.proofs.lemmas.Bool.{cases_Bool, both_ways}
use Rattle.std.proofs.lemmas.List.Sums.{sum_by-cons}
use Rattle.std.proofs.lemmas.Option.{same_Some}
use Rattle.street_base.specs.declared.net.NetSpec.{NetSpec}
use Rattle.street_base.specs.declared.names.Place.{Place}
use Rattle.street_base.specs.Prelude.{is_place, places, Traffic, lane_at, in_lane, IsFormed, IsWhole}
use Rattle.street_base.proofs.ReleaseLemmas.{is_place-refl}
use Rattle.street_base.proofs.ReleaseCountLemmas.{in_lanes-places}
use Rattle.street_base.proofs.FormLemmas.{shape-of}
use Rattle.street_lanes.specs.Prelude.{IsOn}
use Rattle.street_tile.specs.Prelude.{TileView, IsTileOf, is_own, own_places, HaveAtMostOne}
use Rattle.street_base.proofs.PlaceOnceLemmas.{one_if-le}
use Rattle.street_tile.proofs.PublishedView.{any-at}
use Rattle.street_tile.proofs.NumberOnce.{sum-at, sum-both}

-- ---- two lanes of a list

pub sum-one : (f : Place → ℕ) (ps : List Place) (p : Place) → list_any (is_place p) ps ≡ true → f p ≤ sum_by f ps
sum-one f ps p e = let at = any-at p ps e in sum-at f ps at.0 p at.1

sum-two : (f : Place → ℕ) (ps : List Place) (p q : Place) → is_place p q ≡ false → list_any (is_place p) ps ≡ true → list_any (is_place q) ps ≡ true → f p + f q ≤ sum_by f ps
sum-two f ps p q ne a b =
    let first = any-at p ps a in
    let second = any-at q ps b in
    let apart : first.0 ≡ second.0 → ⊥ = λ e. both_ways (is_place p q) ne (ap (is_place p) (same_Some q p (sym second.1 ∙ ap (slice_get ps) (sym e) ∙ first.1)) ∙ is_place-refl p) in
    sum-both f ps first.0 second.0 p q apart first.1 second.1

-- where it is on one lane it is on no other
pub on-one : (m : Traffic) → IsFormed m → IsWhole m → (number : ℕ) (p q : Place) → is_place p q ≡ false → list_any (is_place p) (places m.network) ≡ true → list_any (is_place q) (places m.network) ≡ true → 0 < in_lane number (lane_at m p) → in_lane number (lane_at m q) ≡ 0
on-one m formed once number p q ne a b some =
    let all = in_lanes-places m (shape-of m formed) number in
    let two = sum-two (λ r. in_lane number (lane_at m r)) (places m.network) p q ne a b in
    let whole = once number in
    let most = one_if-le (nat_lt number (length m.ends)) in
    omega arith

-- ---- the lanes of one tile

filter-le : (f : Place → ℕ) (own : Place → Bool) (ps : List Place) → sum_by f (filter own ps) ≤ sum_by f ps
filter-le f own [] = omega arith
filter-le f own (p ∷ ps) = elim (cases_Bool (own p)) as (λ _. sum_by f (filter own (p ∷ ps)) ≤ sum_by f (p ∷ ps)) [
  | inl mine ↦ rw mine (omega (arith, sum_by-cons f p (filter own ps), sum_by-cons f p ps, filter-le f own ps))
  | inr other ↦ rw other (omega (arith, sum_by-cons f p ps, filter-le f own ps))
]

-- a number stands on them at most once
pub have-one : (net : NetSpec) (x : TileView) (number : ℕ) (m : Traffic) → IsTileOf net x → IsOn net m → IsWhole m → HaveAtMostOne x.own.places m number
have-one net x number m tile on whole =
    let f : Place → ℕ = λ p. in_lane number (lane_at m p) in
    let part = filter-le f (is_own net x.low x.high) (places net) in
    let own : sum_by f x.own.places ≡ sum_by f (own_places net x.low x.high) = ap (sum_by f) tile.places in
    let same : sum_by f (places m.network) ≡ sum_by f (places net) = ap (λ (n : NetSpec). sum_by f (places n)) on.network in
    let all = in_lanes-places m (shape-of m on.formed) number in
    let given = whole number in
    let most = one_if-le (nat_lt number (length m.ends)) in
    omega arith
