-- The lanes that run to some nodes are a walk: each stands once among them, and all buffers that lead to one lane are at one node.
use Rattle.std.proofs.Common.{◌≡◌, ℕ, ◌≤◌, Bool, true, false, List, [], ◌∷◌, refl, sym, ◌∙◌, ap, arith, inl, inr, Option, Some, slice_get, find, filter, if◌then◌else◌}
use Rattle.std.specs.Option.{option_map_or}
use Rattle.std.specs.List.{list_any}
use Rattle.std.proofs.lemmas.Bool.{cases_Bool, both_ways, false_from_ne_true}
use Rattle.std.proofs.lemmas.List.Elements.{filter_passes}
use Rattle.std.proofs.lemmas.Option.{slice_get_within, get_or_from_slice_get}
use Rattle.street_base.specs.declared.net.NetSpec.{NetSpec}
use Rattle.street_base.specs.declared.net.TurnSpec.{TurnSpec}
use Rattle.street_base.specs.declared.names.Place.{Place}
use Rattle.street_base.specs.Prelude.{is_place, link_at, node_of, turn, places, Traffic, one_if, front, target, may_give}
use Rattle.street_base.proofs.OptionLemmas.{holds-some}
use Rattle.street_base.proofs.ReleaseLemmas.{is_place-same}
use Rattle.street_base.proofs.PlaceOnceLemmas.{places-once}
use Rattle.street_node.specs.Prelude.{times, AtMostOnce, IsWalk}
use Rattle.street_node.proofs.BufferWalk.{times-cons, none-times}
use Rattle.street_node.proofs.Joins.{way-turn}

-- ---- a filter

pub filter-holds : {A : Type 0} (t : A → Bool) (xs : List A) (k : ℕ) (x : A) → slice_get (filter t xs) k ≡ Some x → t x ≡ true
filter-holds t xs k x at = ap t (sym (get_or_from_slice_get (filter t xs) k x x at)) ∙ filter_passes t xs k x (slice_get_within (filter t xs) k x at)

-- a number where a test holds, and else 0
abbrev pub gated : Bool → ℕ → ℕ
gated b n = if b then n else 0

pub times-filter : (q : Place) (own : Place → Bool) (ps : List Place) → times q (filter own ps) ≡ gated (own q) (times q ps)
times-filter q own [] = either (own q)
  where
    either : (b : Bool) → 0 ≡ gated b 0
    either true = refl
    either false = refl
times-filter q own (p ∷ ps) = by_own (own p) refl (is_place q p) refl (times-filter q own ps)
  where
    by_own : (b : Bool) → own p ≡ b → (s : Bool) → is_place q p ≡ s → times q (filter own ps) ≡ gated (own q) (times q ps) → times q (if b then p ∷ filter own ps else filter own ps) ≡ gated (own q) (times q (p ∷ ps))
    by_own true o true s ih = let same : q ≡ p = is_place-same q p s in let oq : own q ≡ true = ap own same ∙ o in let rest : times q (filter own ps) ≡ times q ps = rw oq at ih in rw oq (omega (arith, times-cons q p (filter own ps), times-cons q p ps, rest))
    by_own true o false s ih = let none : one_if (is_place q p) ≡ 0 = ap one_if s in let a = times-cons q p (filter own ps) in let b = times-cons q p ps in let c : times q (p ∷ filter own ps) ≡ times q (filter own ps) = omega arith in let d : times q (p ∷ ps) ≡ times q ps = omega arith in rw d (c ∙ ih)
    by_own false o true s ih = let same : q ≡ p = is_place-same q p s in let oq : own q ≡ false = ap own same ∙ o in let rest : times q (filter own ps) ≡ 0 = rw oq at ih in rw oq rest
    by_own false o false s ih = let none : one_if (is_place q p) ≡ 0 = ap one_if s in let b = times-cons q p ps in let d : times q (p ∷ ps) ≡ times q ps = omega arith in rw d ih

find-filter : (t own : Place → Bool) → ((p : Place) → t p ≡ true → own p ≡ true) → (ps : List Place) → find t (filter own ps) ≡ find t ps
find-filter t own inside [] = refl
find-filter t own inside (p ∷ ps) = elim (cases_Bool (own p)) as (λ _. find t (filter own (p ∷ ps)) ≡ find t (p ∷ ps)) [
  | inl o ↦ rw o (ap (λ (x : Option Place). if t p then Some p else x) (find-filter t own inside ps))
  | inr o ↦ (
      let away : t p ≡ false = false_from_ne_true (t p) (λ h. both_ways (own p) o (inside p h)) in
      rw (o, away) (find-filter t own inside ps))
]

-- ---- lanes of a network

places-at_most : (net : NetSpec) → AtMostOnce (places net)
places-at_most net q = elim (cases_Bool (list_any (is_place q) (places net))) as (λ _. times q (places net) ≤ 1) [
  | inl among ↦ (let e = places-once net q among in omega arith)
  | inr away ↦ (let e = none-times q (places net) away in omega arith)
]

pub picked-once : (net : NetSpec) (own : Place → Bool) → AtMostOnce (filter own (places net))
picked-once net own q =
    let e = times-filter q own (places net) in
    let h = places-at_most net q in
    elim (cases_Bool (own q)) as (λ _. times q (filter own (places net)) ≤ 1) [
      | inl o ↦ (let f : times q (filter own (places net)) ≡ times q (places net) = rw o at e in omega arith)
      | inr o ↦ (let f : times q (filter own (places net)) ≡ 0 = rw o at e in omega arith)
    ]

-- the lane's link runs to a node of these
abbrev pub ends_in : NetSpec → (ℕ → Bool) → Place → Bool
ends_in net nodes p = option_map_or nodes (node_of net (link_at net p.link).to) false

module _ (net : NetSpec) (joined : (from : Place) (next : ℕ) (t : TurnSpec) → turn net from next ≡ Some t → (link_at net from.link).to ≡ (link_at net next).from) (m : Traffic) (on : m.network ≡ net) where
  -- a buffer that leads to a lane is at the node at which that lane's link begins
  leads-joined : (to from : Place) → may_give m to from ≡ true → (link_at net from.link).to ≡ (link_at net to.link).from
  leads-joined to from leads =
      let found = holds-some (is_place to) (target m from) leads in
      let is : target m from ≡ Some to = found.1 ∙ ap (λ (p : Place). Some p) (sym (is_place-same to found.0 found.2)) in
      let way = way-turn net m.clock from to (front m from) (rw on at is) in
      joined from to.link way.0 way.1

  pub lanes-walk : (nodes : ℕ → Bool) → IsWalk m (filter (ends_in net nodes) (places net))
  lanes-walk nodes = record {
    once = picked-once net (ends_in net nodes);
    firsts = λ k to from at leads.
        let ends : ends_in net nodes from ≡ true = filter-holds (ends_in net nodes) (places net) k from at in
        let inside : (p : Place) → may_give m to p ≡ true → ends_in net nodes p ≡ true = λ p l.
        ap (λ (n : ℕ). option_map_or nodes (node_of net n) false) (leads-joined to p l ∙ sym (leads-joined to from leads)) ∙ ends in
        find-filter (may_give m to) (ends_in net nodes) inside (places net) ∙ ap (λ (n : NetSpec). find (may_give m to) (places n)) (sym on);
  }
