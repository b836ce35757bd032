-- The number of an own lane, by its slot.
use Rattle.std.proofs.Common.{◌≡◌, ℕ, zero, suc, true, false, List, [], ◌∷◌, get_or, refl, sym, subst, ap, ◌∙◌, arith, Some, slice_get}
use Rattle.std.specs.List.{list_any}
use Rattle.std.proofs.lemmas.Bool.{false_from_ne_true}
use Rattle.std.proofs.lemmas.List.{get_or_default}
use Rattle.street_base.specs.declared.net.NetSpec.{NetSpec}
use Rattle.street_base.specs.declared.names.Place.{Place}
use Rattle.street_base.specs.Prelude.{is_place, one_if}
use Rattle.std.proofs.lemmas.Option.{slice_get_within, get_or_from_slice_get}
use Rattle.street_base.proofs.ReleaseLemmas.{is_place-same, is_place-refl}
use Rattle.street_base.proofs.PlaceLemmas.{places-listed}
use Rattle.street_base.proofs.PlaceOnceLemmas.{places-once}
use Rattle.street_lanes.specs.Prelude.{IsLane}
use Rattle.street_net.specs.Prelude.{slot_of}
use Rattle.street_tile.specs.Prelude.{TileView, IsTileOf, AreNumbers, is_own}
use Rattle.street_node.specs.Prelude.{AtMostOnce}
use Rattle.street_node.proofs.BufferWalk.{times-cons, times-at, once-rest, at-any}
use Rattle.street_tile.proofs.PublishedView.{any-at}
use Rattle.street_tile.proofs.MovedHandOvers.{own-listed}

-- an own lane has a number
pub own-number : (net : NetSpec) (x : TileView) (p : Place) → IsTileOf net x → IsLane net p → is_own net x.low x.high p ≡ true → (k : ℕ) × (slice_get x.own.places k ≡ Some p)
own-number net x p tile there own = any-at p x.own.places (subst (λ (ps : List Place). list_any (is_place p) ps ≡ true) (sym tile.places) (own-listed net x.low x.high p (places-once net p (places-listed net p there.1)) own))

-- it has its place among the own lanes at its number
pub number-at : (net : NetSpec) (x : TileView) (p : Place) (numbers : List ℕ) → IsTileOf net x → AreNumbers x.links x.own.places numbers → IsLane net p → is_own net x.low x.high p ≡ true → slice_get x.own.places (get_or numbers (slot_of p) 0) ≡ Some p
number-at net x p numbers tile numbered there own = let found = own-number net x p tile there own in ap (slice_get x.own.places) (numbered.at found.0 p found.1) ∙ found.1

-- so has it at a number that was read there
pub number-found : (net : NetSpec) (x : TileView) (p : Place) (numbers : List ℕ) (slot at d : ℕ) → IsTileOf net x → AreNumbers x.links x.own.places numbers → IsLane net p → is_own net x.low x.high p ≡ true → slot ≡ slot_of p → at ≡ get_or numbers slot d → slice_get x.own.places at ≡ Some p
number-found net x p numbers slot at d tile numbered there own slot_is at_is =
    let link = there.0 in
    let lane = there.1 in
    let two = tile.roads.two p.link in
    let wide = numbered.wide in
    let links = tile.links in
    let zero : at ≡ get_or numbers (slot_of p) 0 = at_is ∙ ap (λ k. get_or numbers k d) slot_is ∙ get_or_default numbers (slot_of p) d 0 (omega arith) in
    ap (slice_get x.own.places) zero ∙ number-at net x p numbers tile numbered there own

-- ---- one place, one number

twice : (q : Place) (ps : List Place) → AtMostOnce (q ∷ ps) → (p : Place) → q ≡ p → list_any (is_place p) ps ≡ true → ⊥
twice q ps once p same among =
    let one : one_if (is_place p q) ≡ 1 = ap one_if (ap (is_place p) same ∙ is_place-refl p) in
    let at = any-at p ps among in
    let more = times-at p p ps at.0 (slice_get_within ps at.0 p at.1) (get_or_from_slice_get ps at.0 p p at.1) in
    let cons = times-cons p q ps in
    let most = once p in
    absurd (omega arith)

-- a place that stands at most once in a list stands at one index
pub alone-at : (ps : List Place) → AtMostOnce ps → (j k : ℕ) (p : Place) → slice_get ps j ≡ Some p → slice_get ps k ≡ Some p → j ≡ k
alone-at [] once j k p a b = cc
alone-at (q ∷ ps) once zero zero p a b = refl
alone-at (q ∷ ps) once zero (suc k) p a b = let same : q ≡ p = cc in absurd (twice q ps once p same (at-any ps k p b))
alone-at (q ∷ ps) once (suc j) zero p a b = let same : q ≡ p = cc in absurd (twice q ps once p same (at-any ps j p a))
alone-at (q ∷ ps) once (suc j) (suc k) p a b = ap (λ n. suc n) (alone-at ps (once-rest q ps once) j k p a b)

-- at another index stands another place
pub apart-at : (ps : List Place) → AtMostOnce ps → (j k : ℕ) (p q : Place) → slice_get ps j ≡ Some p → slice_get ps k ≡ Some q → (j ≡ k → ⊥) → is_place p q ≡ false
apart-at ps once j k p q a b other = false_from_ne_true (is_place p q) (λ here. absurd (other (alone-at ps once j k p a (b ∙ ap Some (sym (is_place-same p q here))))))
