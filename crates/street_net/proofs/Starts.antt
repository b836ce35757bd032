-- The sorted list of all turns, cut where the lists of lanes start.
use Rattle.std.proofs.Common.{◌≡◌, ℕ, zero, suc, ◌+◌, ◌-◌, ◌*◌, ◌<◌, ◌≤◌, Bool, true, false, List, [], ◌∷◌, length, get_or, take, drop, map, refl, sym, ◌∙◌, ap, subst, arith, inl, inr, None, unwrap_or, filter, ◌==◌, Contains}
use Rattle.std.specs.List.{between}
use Rattle.std.specs.List.Sorted.{IsPermutation, IsNonDecreasingBy}
use Rattle.std.proofs.lemmas.Bool.{cases_eq, cases_lt, cond-true, cond-false, eq-eqb, ne_eqb, both_ways}
use Rattle.std.proofs.lemmas.List.{length-take, length-drop, length-map, get_or-take, get_or-drop, get_or-map, get_or_default}
use Rattle.std.proofs.lemmas.List.Sorted.{Contains-permutation, IsPermutation-sym}
use Rattle.street_base.specs.declared.net.NetSpec.{NetSpec}
use Rattle.street_base.specs.declared.net.TurnSpec.{TurnSpec}
use Rattle.street_base.specs.declared.net.Turn.{Turn}
use Rattle.street_base.specs.Prelude.{most_turns, network_fault, is_bad_turn}
use Rattle.street_base.specs.declared.names.Place.{Place}
use Rattle.street_base.proofs.FirstBadLemmas.{first_bad-none}
use Rattle.street_base.proofs.FaultLemmas.{link_of_below, turns-good}
use Rattle.street_net.specs.Prelude.{seen_turn, is_from, turns_from, list_number, turn_rank, turns_at, IsStart, IsTurnTable, AreTurnsFrom}
use Rattle.street_net.proofs.GoodLinks.{joined, good-link, good-turn}
use Rattle.street_net.proofs.TurnTable.{no_turn, from-list, from-other}
use Rattle.street_net.proofs.Permutation.{filter-permutation, filter-map}

-- where a test passes from one place on for so many, these are what passes
filter-cut : {X : Type 0} (q : X → Bool) (xs : List X) (start count : ℕ)
    → ((k : ℕ) (d : X) → k < length xs → k < start → q (get_or xs k d) ≡ false)
    → ((k : ℕ) (d : X) → k < length xs → start ≤ k → k < start + count → q (get_or xs k d) ≡ true)
    → ((k : ℕ) (d : X) → k < length xs → start + count ≤ k → q (get_or xs k d) ≡ false)
    → filter q xs ≡ take count (drop start xs)
filter-cut q [] zero zero below within above = refl
filter-cut q [] zero (suc count) below within above = refl
filter-cut q [] (suc start) zero below within above = refl
filter-cut q [] (suc start) (suc count) below within above = refl
filter-cut q (x ∷ xs) (suc start) count below within above =
    cond-false (q x) (x ∷ filter q xs) (filter q xs) (below zero x (omega arith) (omega arith))
    ∙ filter-cut q xs start count (λ k d low a. below (suc k) d (omega arith) (omega arith)) (λ k d low a b. within (suc k) d (omega arith) (omega arith) (omega arith)) (λ k d low a. above (suc k) d (omega arith) (omega arith))
filter-cut q (x ∷ xs) zero (suc count) below within above =
    cond-true (q x) (x ∷ filter q xs) (filter q xs) (within zero x (omega arith) (omega arith) (omega arith))
    ∙ ap (λ ys. x ∷ ys) (filter-cut q xs zero count (λ k d low a. absurd (omega arith)) (λ k d low a b. within (suc k) d (omega arith) (omega arith) (omega arith)) (λ k d low a. above (suc k) d (omega arith) (omega arith)))
filter-cut q (x ∷ xs) zero zero below within above =
    cond-false (q x) (x ∷ filter q xs) (filter q xs) (above zero x (omega arith) (omega arith))
    ∙ filter-cut q xs zero zero (λ k d low a. absurd (omega arith)) (λ k d low a b. absurd (omega arith)) (λ k d low a. above (suc k) d (omega arith) (omega arith))

-- ---- a list between two starts

module _ (turns : List Turn) (list start next : ℕ) (from : IsStart turns list start) (to : IsStart turns (list + 1) next) where
  pub starts-rise : start ≤ next
  starts-rise = elim (cases_lt next start) as (λ _. start ≤ next) [
    | inl back ↦ absurd (
        let within = from.within in
        let low = from.before next (record { link = 0; lane = 0; next = 0; next_lane = 0 }) back in
        let high = to.after next (record { link = 0; lane = 0; next = 0; next_lane = 0 }) (omega arith) (omega arith) in
        omega arith)
    | inr on ↦ omega arith
  ]

  -- between them stand the turns of this list
  number-between : (k : ℕ) (d : Turn) → start ≤ k → k < next → list_number (get_or turns k d) ≡ list
  number-between k d low high =
      let within = to.within in
      let least = from.after k d low (omega arith) in
      let most = to.before k d high in
      omega arith

  filter-between : filter (λ t. list_number t == list) turns ≡ between start next turns
  filter-between =
      let rise = starts-rise in
      filter-cut (λ t. list_number t == list) turns start (next - start)
      (λ k d low before. let less = from.before k d before in ne_eqb (list_number (get_or turns k d)) list (λ e. omega arith))
      (λ k d low first last. eq-eqb (list_number (get_or turns k d)) list (number-between k d first (omega arith)))
      (λ k d low after. let more = to.after k d (omega arith) low in ne_eqb (list_number (get_or turns k d)) list (λ e. omega arith))

  -- in the order of their next links
  rising-between : IsNonDecreasingBy turn_rank turns → IsNonDecreasingBy (λ t. t.next) (between start next turns)
  rising-between rising i j d low high =
      let rise = starts-rise in
      let within = to.within in
      let long = length-take (next - start) (drop start turns) in
      let left = length-drop start turns in
      let first : get_or (between start next turns) i d ≡ get_or turns (start + i) d = get_or-take (next - start) (drop start turns) i d (omega arith) ∙ get_or-drop start turns i d in
      let last : get_or (between start next turns) j d ≡ get_or turns (start + j) d = get_or-take (next - start) (drop start turns) j d (omega arith) ∙ get_or-drop start turns j d in
      let up = rising (start + i) (start + j) d (omega arith) (omega arith) in
      let here = number-between (start + i) d (omega arith) (omega arith) in
      let there = number-between (start + j) d (omega arith) (omega arith) in
      omega (arith, ap (λ (t : Turn). t.next) first, ap (λ (t : Turn). t.next) last)

-- ---- all turns of a load

module _ (net : NetSpec) (faultless : network_fault net ≡ None) where
  -- a load has at most this many turns
  pub few-turns : length net.turns ≤ most_turns
  few-turns = elim (cases_lt most_turns (length net.turns)) as (λ _. length net.turns ≤ most_turns) [
    | inl more ↦ absurd (
        let bad : is_bad_turn net most_turns (get_or net.turns most_turns no_turn) ≡ false = first_bad-none (is_bad_turn net) net.turns (turns-good net faultless) most_turns no_turn more in
        both_ways (is_bad_turn net most_turns (get_or net.turns most_turns no_turn)) bad refl)
    | inr few ↦ omega arith
  ]

  -- the next link of each turn is one of the load
  module _ (turns : List Turn) (same : IsPermutation (map (seen_turn net) net.turns) turns) where
    next-low : (k : ℕ) (d : Turn) → k < length turns → (get_or turns k d).next < 65536
    next-low k d low =
        let seen_here : Contains turns (get_or turns k d) = (k, low, get_or_default turns k (get_or turns k d) d low) in
        let has = Contains-permutation turns (map (seen_turn net) net.turns) (get_or turns k d) (IsPermutation-sym (map (seen_turn net) net.turns) turns same) seen_here in
        let at = has.0 in
        let long = length-map net.turns (seen_turn net) in
        let within : at < length net.turns = omega (arith, has.1) in
        let u : TurnSpec = get_or net.turns at no_turn in
        let good = joined net u (good-turn net faultless at no_turn within).0 in
        let seen : seen_turn net u ≡ get_or turns k d = sym (get_or-map (seen_turn net) net.turns at no_turn (get_or turns k d) within) ∙ has.2 in
        let next : good.next ≡ (get_or turns k d).next = sym (ap (λ o. unwrap_or o 0) good.next_is) ∙ ap (λ (t : Turn). t.next) seen in
        omega (arith, link_of_below net faultless u.next good.next (sym good.next_is))

    -- so they stand in the order of their lists
    pub lists-rise : IsNonDecreasingBy turn_rank turns → IsNonDecreasingBy list_number turns
    lists-rise rising i j d low high =
        let up = rising i j d low high in
        let next = next-low j d high in
        omega arith

  -- a turn stands in the list of the lane that it leaves
  from-number : (place : Place) → place.lane < 2 → (k : ℕ) (d : TurnSpec) → k < length net.turns → (list_number (seen_turn net (get_or net.turns k d)) == 2 * place.link + place.lane) ≡ is_from net place (get_or net.turns k d)
  from-number place lane_low k d low =
      let t : TurnSpec = get_or net.turns k d in
      let g = joined net t (good-turn net faultless k d low).0 in
      let few = (good-link net faultless g.link g.link_in).few_lanes in
      let own : t.lane < 2 = omega (arith, g.lane_in) in
      let link : (seen_turn net t).link ≡ g.link = ap (λ o. unwrap_or o 0) g.link_is in
      let number : list_number (seen_turn net t) ≡ 2 * g.link + t.lane = ap (λ i. 2 * i + t.lane) link in
      elim (cases_eq (2 * place.link + place.lane) (2 * g.link + t.lane)) as (λ _. (list_number (seen_turn net t) == 2 * place.link + place.lane) ≡ is_from net place t) [
        | inl same ↦ eq-eqb _ _ (number ∙ sym same) ∙ sym (from-list net place t g.link g.link_is own lane_low same)
        | inr other ↦ ne_eqb _ _ (λ e. other (sym e ∙ number)) ∙ sym (from-other net place t g.link g.link_is other)
      ]

  -- the list of a lane holds the turns from it
  pub turns-at : (starts : List ℕ) (turns : List Turn) → IsTurnTable net starts turns → (place : Place) → place.link < length net.links → place.lane < 2 → AreTurnsFrom net place (turns_at starts turns (2 * place.link + place.lane))
  turns-at starts turns table place inside lane_low =
      let list = 2 * place.link + place.lane in
      let start = get_or starts list 0 in
      let next = get_or starts (list + 1) 0 in
      let from : IsStart turns list start = table.cut list 0 (omega (arith, table.two_each)) in
      let to : IsStart turns (list + 1) next = table.cut (list + 1) 0 (omega (arith, table.two_each)) in
      let test : Turn → Bool = λ t. list_number t == list in
      let all : filter test (map (seen_turn net) net.turns) ≡ turns_from net place net.turns = filter-map (seen_turn net) (is_from net place) test net.turns (from-number place lane_low) in
      let cut : filter test turns ≡ turns_at starts turns list = filter-between turns list start next from to in
      record {
        same = subst (λ us. IsPermutation us (turns_at starts turns list)) all (subst (IsPermutation (filter test (map (seen_turn net) net.turns))) cut (filter-permutation test (map (seen_turn net) net.turns) turns table.same));
        rising = rising-between turns list start next from to table.rising;
      }
