-- A list of mouths, lane after lane.
use Rattle.std.proofs.Common.{◌≡◌, ℕ, ◌+◌, ◌*◌, ◌<◌, Bool, false, List, length, set, refl, sym, ◌∙◌, ap, subst, arith, inl, inr, Some, slice_get}
use Rattle.std.specs.List.{list_any}
use Rattle.std.proofs.lemmas.Bool.{cases_Bool, cases_eq, both_ways, false_from_ne_true}
use Rattle.std.proofs.lemmas.List.{get_or-set_same, get_or-set_other}
use Rattle.std.proofs.lemmas.Option.{same_Some}
use Rattle.street_base.specs.declared.net.NetSpec.{NetSpec}
use Rattle.street_base.specs.declared.names.Place.{Place}
use Rattle.street_base.specs.Prelude.{is_place}
use Rattle.street_base.proofs.ReleaseLemmas.{is_place-same, is_place-refl}
use Rattle.street_lanes.specs.Prelude.{Lanes, IsLane, AllLanes, place_at}
use Rattle.street_net.specs.Prelude.{mouth, slot_of}
use Rattle.street_tile.specs.Prelude.{IsRoads}
use Rattle.street_tile.proofs.SameLanes.{there-at}
use Rattle.street_node.proofs.Mouths.{slot-apart}
use Rattle.street_node.proofs.BufferWalk.{at-any}

-- the mouth that is held
abbrev pub IsHeld : List Bool → Place → Bool → Type 0
IsHeld held p b = b ≡ mouth held p

-- a lane of the network has a small slot, inside a list of mouths
pub slot-inside : (net : NetSpec) → IsRoads net → (own : Lanes) → AllLanes net own.places → (n : ℕ) → n < length own.places → (slot_of (place_at own n) < 65536) × (slot_of (place_at own n) < 2 * length net.links)
slot-inside net roads own there n h =
    let is = there-at net own there n h in
    let a = is.0 in
    let b = is.1 in
    let two = roads.two (place_at own n).link in
    let few = roads.few in
    (omega arith, omega arith)

module _ (net : NetSpec) (roads : IsRoads net) (ps : List Place) (there : AllLanes net ps) (Right : Place → Bool → Type 0) (old : List Bool) where
  -- the mouths of the lanes before k are right, and of other lanes nothing is changed
  pub record IsShown (k : ℕ) (now : List Bool) : Type 0 where
    pub wide : length now ≡ 2 * length net.links
    pub shown : (j : ℕ) (p : Place) → j < k → slice_get ps j ≡ Some p → Right p (mouth now p)
    pub rest : (p : Place) → IsLane net p → list_any (is_place p) ps ≡ false → mouth now p ≡ mouth old p

  two-of : (p : Place) → IsLane net p → p.lane < 2
  two-of p h = let b = h.1 in let two = roads.two p.link in omega arith

  pub other-mouth : (now : List Bool) (p q : Place) (b : Bool) → IsLane net p → IsLane net q → is_place p q ≡ false → mouth (set now (slot_of p) b) q ≡ mouth now q
  other-mouth now p q b h k other = get_or-set_other now (slot_of p) (slot_of q) b false (slot-apart p q (two-of p h) (two-of q k) other)

  pub same-mouth : (now : List Bool) (p : Place) (b : Bool) → length now ≡ 2 * length net.links → IsLane net p → mouth (set now (slot_of p) b) p ≡ b
  same-mouth now p b wide h = get_or-set_same now (slot_of p) b false (let a = h.0 in let c = two-of p h in omega arith)

  pub shown-start : length old ≡ 2 * length net.links → IsShown 0 old
  shown-start wide = record { wide = wide; shown = λ j p h. absurd (omega arith); rest = λ p h e. refl }

  pub shown-next : (k : ℕ) (now : List Bool) (p : Place) (b : Bool) → IsShown k now → slice_get ps k ≡ Some p → Right p b → length (set now (slot_of p) b) ≡ 2 * length net.links → IsShown (k + 1) (set now (slot_of p) b)
  shown-next k now p b d at right wide = record {
    wide = wide;
    shown = λ j q h there_q. elim (cases_Bool (is_place p q)) as (λ _. Right q (mouth (set now (slot_of p) b) q)) [
      | inl here ↦ (
          let same : p ≡ q = is_place-same p q here in
          subst (λ (x : Place). Right x (mouth (set now (slot_of p) b) x)) same (subst (Right p) (sym (same-mouth now p b d.wide (there k p at))) right))
      | inr other ↦ (
          let before : j < k = elim (cases_eq j k) as (λ _. j < k) [
            | inl e ↦ absurd (
                let same = same_Some p q (sym at ∙ ap (slice_get ps) (sym e) ∙ there_q) in
                both_ways (is_place p q) other (ap (is_place p) (sym same) ∙ is_place-refl p))
            | inr ne ↦ omega arith
          ] in
          subst (Right q) (sym (other-mouth now p q b (there k p at) (there j q there_q) other)) (d.shown j q before there_q))
    ];
    rest = λ q h away.
        let other : is_place p q ≡ false = false_from_ne_true (is_place p q) (λ e.
        let same : p ≡ q = is_place-same p q e in
        both_ways (list_any (is_place q) ps) away (at-any ps k q (at ∙ ap (λ (x : Place). Some x) same))) in
        other-mouth now p q b (there k p at) h other ∙ d.rest q h away;
  }
