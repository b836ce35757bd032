-- The hand-overs of all tiles together are the entries of the machine.
use Rattle.std.proofs.Common.{◌≡◌, Bool, true, false, List, [], ◌∷◌, ◌++◌, map, refl, sym, ◌∙◌, ap, arith, inl, inr, Option, Some, None, filter, filter_map, option_to_list, option_map, option_and_then, if◌then◌else◌}
use Rattle.std.specs.Option.{option_map_or}
use Rattle.std.specs.List.{list_any, cons_option}
use Rattle.std.proofs.lemmas.Bool.{cases_Bool, cond-true, cond-false, both_ways, false_from_ne_true}
use Rattle.std.proofs.lemmas.List.{append-nil}
use Rattle.street_base.specs.Prelude.{is_free, is_place, link_at, places, Vehicle, Traffic, Queued, lane_at, one_if, front, target, is_this, may_give, giver, gives, entering, on_next_link}
use Rattle.street_base.specs.declared.names.Place.{Place}
use Rattle.street_base.proofs.ReleaseLemmas.{is_place-same, is_place-refl, is_place-swap, find-among}
use Rattle.street_tile.specs.Prelude.{Transfer, crossing, entries_to}
use Rattle.street_node.specs.Prelude.{times, Crossing}
use Rattle.street_node.proofs.BufferWalk.{times-cons, chosen-leads, taken-goes, stays, goes-if-taken}
use Rattle.street_node.proofs.Crossings.{leads-of, crossing-goes, crossing-stays}

-- of a list in which q stands once, what stands at q alone
module _ (h : Place → List Vehicle) (q : Place) (others : (p : Place) → is_place q p ≡ false → h p ≡ []) where
  abbrev pub gathered : List Place → List Vehicle
  gathered [] = []
  gathered (p ∷ ps) = h p ++ gathered ps

  nobody : (ps : List Place) → times q ps ≡ 0 → gathered ps ≡ []
  nobody [] e = refl
  nobody (p ∷ ps) e =
      let cons = times-cons q p ps in
      let none : times q ps ≡ 0 = omega (arith, cons) in
      elim (cases_Bool (is_place q p)) as (λ _. gathered (p ∷ ps) ≡ []) [
        | inl here ↦ absurd (let one : one_if (is_place q p) ≡ 1 = ap one_if here in omega (arith, cons, one))
        | inr other ↦ rw (others p other, nobody ps none) refl
      ]

  pub alone : (ps : List Place) → times q ps ≡ 1 → gathered ps ≡ h q
  alone [] e = absurd (omega arith)
  alone (p ∷ ps) e =
      let cons = times-cons q p ps in
      elim (cases_Bool (is_place q p)) as (λ _. gathered (p ∷ ps) ≡ h q) [
        | inl here ↦ (
            let one : one_if (is_place q p) ≡ 1 = ap one_if here in
            let none : times q ps ≡ 0 = omega (arith, cons, one) in
            let same = is_place-same q p here in
            rw (nobody ps none, same) (append-nil (h p)))
        | inr other ↦ (
            let no : one_if (is_place q p) ≡ 0 = ap one_if other in
            let rest : times q ps ≡ 1 = omega (arith, cons, no) in
            rw (others p other) (alone ps rest))
      ]

  pub none-gathered : ((p : Place) → h p ≡ []) → (ps : List Place) → gathered ps ≡ []
  none-gathered none [] = refl
  none-gathered none (p ∷ ps) = rw (none p, none-gathered none ps) refl

-- of an entry, who enters this lane
abbrev pub enters : Place → Option Transfer → List Vehicle
enters to None = []
enters to (Some e) = if is_place to e.to then e.vehicle ∷ [] else []

pub entries-cons : (to : Place) (o : Option Transfer) (es : List Transfer) → entries_to to (cons_option o es) ≡ enters to o ++ entries_to to es
entries-cons to None es = refl
entries-cons to (Some e) es = by_test (is_place to e.to)
  where
    by_test : (b : Bool) → map (λ (x : Transfer). x.vehicle) (if b then e ∷ filter (λ x. is_place to x.to) es else filter (λ x. is_place to x.to) es) ≡ (if b then e.vehicle ∷ [] else []) ++ entries_to to es
    by_test true = refl
    by_test false = refl

entries-gathered : (c : Place → Option Transfer) (to q : Place) (others : (p : Place) → is_place q p ≡ false → enters to (c p) ≡ []) (ps : List Place) → entries_to to (filter_map c ps) ≡ gathered (λ p. enters to (c p)) q others ps
entries-gathered c to q others [] = refl
entries-gathered c to q others (p ∷ ps) = entries-cons to (c p) (filter_map c ps) ∙ ap (λ (vs : List Vehicle). enters to (c p) ++ vs) (entries-gathered c to q others ps)

module _ (m : Traffic) (to : Place) where
  -- who enters this lane if it takes the front of that buffer
  abbrev front_enters : Option Queued → List Vehicle
  front_enters o = option_map_or (λ q. on_next_link (link_at m.network to.link).limit q.vehicle ∷ []) o []

  not_chosen : (from : Place) (xs : List Vehicle) → (is_this from (giver m to) ≡ true → ⊥) → (if is_this from (giver m to) then xs else []) ≡ []
  not_chosen from xs never = cond-false (is_this from (giver m to)) xs [] (false_from_ne_true (is_this from (giver m to)) never)

  -- what crosses from a buffer into this lane
  pub crosses : (from : Place) → enters to (crossing m from) ≡ (if is_this from (giver m to) then front_enters (front m from) else [])
  crosses from = elim (cases_Bool (gives m from)) as (λ _. enters to (crossing m from) ≡ (if is_this from (giver m to) then front_enters (front m from) else [])) [
    | inl goes ↦ by_target (target m from) refl goes
    | inr no_one ↦
        ap (λ (o : Option Crossing). enters to (option_map (λ (c : Crossing). record { to = c.to; vehicle = c.vehicle }) o)) (crossing-stays m from no_one)
        ∙ sym (not_chosen from (front_enters (front m from)) (λ t. both_ways (gives m from) no_one (taken-goes m to from t)))
  ]
    where
      by_target : (o : Option Place) → target m from ≡ o → gives m from ≡ true → enters to (crossing m from) ≡ (if is_this from (giver m to) then front_enters (front m from) else [])
      by_target None e goes = absurd (both_ways (gives m from) (stays m from e) goes)
      by_target (Some t) e goes =
          let led = leads-of m from t e in
          let crossed : enters to (crossing m from) ≡ (if is_place to t then on_next_link (link_at m.network t.link).limit led.0.vehicle ∷ [] else []) =
          ap (λ (o : Option Crossing). enters to (option_map (λ (c : Crossing). record { to = c.to; vehicle = c.vehicle }) o)) (crossing-goes m from t led.0 led.1 goes) in
          elim (cases_Bool (is_place to t)) as (λ _. enters to (crossing m from) ≡ (if is_this from (giver m to) then front_enters (front m from) else [])) [
            | inl here ↦ (
                let same : to ≡ t = is_place-same to t here in
                let chosen : is_this from (giver m to) ≡ true = ap (λ (p : Place). is_this from (giver m p)) same ∙ sym (goes-if-taken m from t e) ∙ goes in
                crossed
                ∙ cond-true (is_place to t) (on_next_link (link_at m.network t.link).limit led.0.vehicle ∷ []) [] here
                ∙ ap (λ (p : Place). on_next_link (link_at m.network p.link).limit led.0.vehicle ∷ []) (sym same)
                ∙ ap front_enters (sym led.1.front)
                ∙ sym (cond-true (is_this from (giver m to)) (front_enters (front m from)) [] chosen))
            | inr other ↦
                crossed
                ∙ cond-false (is_place to t) (on_next_link (link_at m.network t.link).limit led.0.vehicle ∷ []) [] other
                ∙ sym (not_chosen from (front_enters (front m from)) (λ c.
                let there : is_place to t ≡ true = sym (ap (λ (o : Option Place). option_map_or (is_place to) o false) e) ∙ chosen-leads m to from c in
                both_ways (is_place to t) other there))
          ]

  chosen-among : (from : Place) → giver m to ≡ Some from → list_any (is_place from) (places m.network) ≡ true
  unfolding giver
  chosen-among from e = elim (cases_Bool (is_free (lane_at m to).track 0)) as (λ _. list_any (is_place from) (places m.network) ≡ true) [
    | inl free ↦ find-among (may_give m to) (places m.network) from (sym (cond-true _ _ _ free) ∙ e)
    | inr shut ↦ (let none : ◌≡◌ {A = Option Place} None (Some from) = sym (cond-false _ _ _ shut) ∙ e in cc)
  ]

  -- of the crossings from all buffers, each once, those into this lane are who enters it
  pub crossings-enter : (ps : List Place) → ((q : Place) → list_any (is_place q) (places m.network) ≡ true → times q ps ≡ 1) → entries_to to (filter_map (crossing m) ps) ≡ option_to_list (entering m to)
  crossings-enter ps all = by_giver (giver m to) refl
    where
      entered : (o : Option Queued) → front_enters o ≡ option_to_list (option_map (λ q. on_next_link (link_at m.network to.link).limit q.vehicle) o)
      entered None = refl
      entered (Some q) = refl

      by_giver : (o : Option Place) → giver m to ≡ o → entries_to to (filter_map (crossing m) ps) ≡ option_to_list (option_and_then (λ from. option_map (λ q. on_next_link (link_at m.network to.link).limit q.vehicle) (front m from)) o)
      by_giver None e =
          let none : (p : Place) → enters to (crossing m p) ≡ [] = λ p. crosses p ∙ not_chosen p _ (λ t. let no : false ≡ true = rw e at t in both_ways false refl no) in
          entries-gathered (crossing m) to to (λ p _. none p) ps ∙ none-gathered (λ p. enters to (crossing m p)) to (λ p _. none p) none ps
      by_giver (Some from) e =
          let others : (p : Place) → is_place from p ≡ false → enters to (crossing m p) ≡ [] =
          λ p other. crosses p ∙ not_chosen p _ (λ t. let h : is_place p from ≡ true = rw e at t in both_ways _ other (is_place-swap from p ∙ h)) in
          entries-gathered (crossing m) to from others ps
          ∙ alone (λ p. enters to (crossing m p)) from others ps (all from (chosen-among from e))
          ∙ crosses from
          ∙ cond-true _ _ _ (ap (λ (o : Option Place). is_this from o) e ∙ is_place-refl from)
          ∙ entered (front m from)
