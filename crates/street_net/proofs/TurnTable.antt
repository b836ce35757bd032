-- The turn from a lane to a next link, and the sorted list of the turns from the lane.
use Rattle.std.proofs.Common.{◌≡◌, ℕ, zero, suc, ◌+◌, ◌*◌, ◌<◌, Bool, true, false, List, [], ◌∷◌, ◌++◌, length, get_or, take, map, refl, sym, ◌∙◌, ap, subst, arith, inl, inr, Option, Some, None, option_map, unwrap_or, filter, slice_get, MatchOption, ◌==◌, ◌&&◌, ◌≢◌, Contains, Ok, Err}
use Rattle.std.specs.Option.{option_map_or}
use Rattle.std.specs.List.{list_any, position_or_len}
use Rattle.std.specs.Ordering.{nat_cmp, ordering_index}
use Rattle.std.proofs.lemmas.Cmp.{ranked}
use Rattle.std.proofs.lemmas.Bool.Decides.{nat_tests}
use Rattle.std.specs.List.Sorted.{IsNonDecreasingBy, IsBinarySearchResult}
use Rattle.std.proofs.lemmas.Bool.{cases_Bool, cases_lt, cond-true, cond-false, and_parts, eqb-true, eq-eqb, both_ways}
use Rattle.std.proofs.lemmas.List.{length-take, get_or-take}
use Rattle.std.proofs.lemmas.List.Elements.{Contains-append_right, Contains-append_cases}
use Rattle.std.proofs.lemmas.List.Folds.{find_at, list_any_at}
use Rattle.std.proofs.lemmas.List.Sums.{fails_before_first}
use Rattle.std.proofs.lemmas.List.Sorted.{Contains-permutation, IsPermutation-sym}
use Rattle.std.proofs.lemmas.Option.{slice_get_within, get_or_from_slice_get, slice_get-get_or, same_Some}
use Rattle.street_base.specs.declared.net.NetSpec.{NetSpec}
use Rattle.street_base.specs.declared.net.TurnSpec.{TurnSpec}
use Rattle.street_base.specs.declared.net.Turn.{Turn}
use Rattle.street_base.specs.declared.names.Place.{Place}
use Rattle.street_base.specs.Prelude.{link_of, names_link, turn, is_same_turn, joins, network_fault}
use Rattle.street_base.proofs.ReleaseLemmas.{find-holds}
use Rattle.street_net.specs.Prelude.{turn_by_position, seen_turn, is_from, turns_from, AreTurnsFrom}
use Rattle.street_net.proofs.GoodLinks.{named-at, same-id, joined, good-link, good-turn}

-- past the end
abbrev pub no_turn : TurnSpec
no_turn = record { link = 0; lane = 0; next = 0; next_lane = 0 }

-- ---- what passes a test, and what is made of it

module _ {X Y : Type 0} (f : X → Y) (p : X → Bool) where
  pub among : (xs : List X) (y : Y) (d : X) → Contains (map f (filter p xs)) y → (k : ℕ) × (k < length xs) × (p (get_or xs k d) ≡ true) × (f (get_or xs k d) ≡ y)
  among [] y d (k, h, e) = absurd (omega arith)
  among (x ∷ xs) y d c = elim (cases_Bool (p x)) as (λ _. (k : ℕ) × (k < length (x ∷ xs)) × (p (get_or (x ∷ xs) k d) ≡ true) × (f (get_or (x ∷ xs) k d) ≡ y)) [
    | inl t ↦ (
        let parted : Contains ((f x ∷ []) ++ map f (filter p xs)) y = subst (λ zs. Contains (map f zs) y) (cond-true (p x) (x ∷ filter p xs) (filter p xs) t) c in
        elim (Contains-append_cases (f x ∷ []) (map f (filter p xs)) y parted) as (λ _. (k : ℕ) × (k < length (x ∷ xs)) × (p (get_or (x ∷ xs) k d) ≡ true) × (f (get_or (x ∷ xs) k d) ≡ y)) [
          | inl here ↦ (zero, omega arith, t, first here)
          | inr rest ↦ later (among xs y d rest)
        ])
    | inr fails ↦ later (among xs y d (subst (λ zs. Contains (map f zs) y) (cond-false (p x) (x ∷ filter p xs) (filter p xs) fails) c))
  ]
    where
      first : Contains (f x ∷ []) y → f x ≡ y
      first (zero, h, e) = e
      first (suc k, h, e) = absurd (omega arith)

      later : (k : ℕ) × (k < length xs) × (p (get_or xs k d) ≡ true) × (f (get_or xs k d) ≡ y) → (k : ℕ) × (k < length (x ∷ xs)) × (p (get_or (x ∷ xs) k d) ≡ true) × (f (get_or (x ∷ xs) k d) ≡ y)
      later (k, h, t, e) = (suc k, omega arith, t, e)

  pub among-at : (xs : List X) (k : ℕ) (d : X) → k < length xs → p (get_or xs k d) ≡ true → Contains (map f (filter p xs)) (f (get_or xs k d))
  among-at [] k d h t = absurd (omega arith)
  among-at (x ∷ xs) zero d h t = subst (λ zs. Contains (map f zs) (f x)) (sym (cond-true (p x) (x ∷ filter p xs) (filter p xs) t)) (zero, omega arith, refl)
  among-at (x ∷ xs) (suc k) d h t =
      let rest = among-at xs k d (omega arith) t in
      elim (cases_Bool (p x)) as (λ _. Contains (map f (filter p (x ∷ xs))) (f (get_or xs k d))) [
        | inl e ↦ subst (λ zs. Contains (map f zs) (f (get_or xs k d))) (sym (cond-true (p x) (x ∷ filter p xs) (filter p xs) e)) (Contains-append_right (f x ∷ []) (map f (filter p xs)) (f (get_or xs k d)) rest)
        | inr e ↦ subst (λ zs. Contains (map f zs) (f (get_or xs k d))) (sym (cond-false (p x) (x ∷ filter p xs) (filter p xs) e)) rest
      ]

-- ---- the turn to a next link

module _ (net : NetSpec) (faultless : network_fault net ≡ None) (place : Place) (next : ℕ) where
  abbrev leads : TurnSpec → Bool
  leads t = names_link net t.link place.link && (t.lane == place.lane) && names_link net t.next next

  -- two turns of the load that lead the same way are one
  no-twin : (i j : ℕ) → i < j → j < length net.turns → leads (get_or net.turns i no_turn) ≡ true → leads (get_or net.turns j no_turn) ≡ true → ⊥
  no-twin i j low high a b =
      let u : TurnSpec = get_or net.turns i no_turn in
      let t : TurnSpec = get_or net.turns j no_turn in
      let ua = and_parts _ _ a in
      let ub = and_parts _ _ ua.0 in
      let ta = and_parts _ _ b in
      let tb = and_parts _ _ ta.0 in
      let link : t.link ≡ u.link = same-id net t.link u.link place.link (named-at net t.link place.link tb.0) (named-at net u.link place.link ub.0) in
      let lane : t.lane ≡ u.lane = eqb-true _ _ tb.1 ∙ sym (eqb-true _ _ ub.1) in
      let on : t.next ≡ u.next = same-id net t.next u.next next (named-at net t.next next ta.1) (named-at net u.next next ua.1) in
      let same : is_same_turn t u ≡ true = rw (eq-eqb t.link u.link link, eq-eqb t.lane u.lane lane, eq-eqb t.next u.next on) refl in
      let before : get_or (take j net.turns) i no_turn ≡ u = get_or-take j net.turns i no_turn low in
      let twice : list_any (is_same_turn t) (take j net.turns) ≡ true = list_any_at (is_same_turn t) (take j net.turns) i no_turn (omega (arith, length-take {A = TurnSpec})) (ap (is_same_turn t) before ∙ same) in
      both_ways _ (good-turn net faultless j no_turn high).1 twice

  -- so one that leads there is the turn
  pub turn-at : (k : ℕ) → k < length net.turns → leads (get_or net.turns k no_turn) ≡ true → turn net place next ≡ Some (get_or net.turns k no_turn)
  turn-at k h t =
      let first = position_or_len leads net.turns in
      let at_first : turn net place next ≡ slice_get net.turns first = find_at leads net.turns in
      elim (cases_lt first k) as (λ _. turn net place next ≡ Some (get_or net.turns k no_turn)) [
        | inl before ↦ absurd (
            let there = slice_get-get_or net.turns first no_turn (omega arith) in
            no-twin first k before h (find-holds leads net.turns (get_or net.turns first no_turn) (at_first ∙ there)) t)
        | inr at_most ↦ (elim (cases_lt k first) as (λ _. turn net place next ≡ Some (get_or net.turns k no_turn)) [
          | inl early ↦ absurd (both_ways _ (fails_before_first leads net.turns k no_turn early) t)
          | inr at_least ↦ (
              let same : first ≡ k = omega arith in
              at_first ∙ ap (slice_get net.turns) same ∙ slice_get-get_or net.turns k no_turn h)
        ])
      ]

  seen-next : (t : TurnSpec) → names_link net t.next next ≡ true → (seen_turn net t).next ≡ next
  seen-next t e = ap (λ o. unwrap_or o 0) (named-at net t.next next e)

  module _ (turns : List Turn) (are : AreTurnsFrom net place turns) where
    -- a turn of the list that leads to the next link is the turn
    pub turn-found : (t : Turn) → Contains turns t → t.next ≡ next → option_map (turn_by_position place next) (turn net place next) ≡ Some t
    turn-found t has to =
        let was = among (seen_turn net) (is_from net place) net.turns t no_turn (Contains-permutation turns (turns_from net place net.turns) t (IsPermutation-sym (turns_from net place net.turns) turns are.same) has) in
        let k = was.0 in
        let u : TurnSpec = get_or net.turns k no_turn in
        let good = joined net u (good-turn net faultless k no_turn was.1).0 in
        let parts = and_parts _ _ was.2 in
        let on : good.next ≡ next = sym (ap (λ o. unwrap_or o 0) good.next_is) ∙ ap (λ (s : Turn). s.next) was.3 ∙ to in
        let names : names_link net u.next next ≡ true = ap (λ o. option_map_or (λ i. i == next) o false) good.next_is ∙ eq-eqb good.next next on in
        let leads_there : leads u ≡ true = rw (was.2, names) refl in
        let link : place.link ≡ (seen_turn net u).link = sym (ap (λ o. unwrap_or o 0) (named-at net u.link place.link parts.0)) in
        let lane : place.lane ≡ u.lane = sym (eqb-true _ _ parts.1) in
        let next_is : next ≡ (seen_turn net u).next = sym (seen-next u names) in
        let same : turn_by_position place next u ≡ seen_turn net u = cc in
        ap (option_map (turn_by_position place next)) (turn-at k was.1 leads_there) ∙ ap Some (same ∙ was.3)

    -- where none of the list leads there, there is no turn
    pub turn-missing : ((k : ℕ) (d : Turn) → k < length turns → (get_or turns k d).next ≢ next) → turn net place next ≡ None
    turn-missing none = by_turn (turn net place next) refl
      where
        by_turn : (o : Option TurnSpec) → turn net place next ≡ o → turn net place next ≡ None
        by_turn None e = e
        by_turn (Some u) e = absurd (
            let first = position_or_len leads net.turns in
            let got : slice_get net.turns first ≡ Some u = sym (find_at leads net.turns) ∙ e in
            let within = slice_get_within net.turns first u got in
            let here : get_or net.turns first u ≡ u = get_or_from_slice_get net.turns first u u got in
            let leads_there : leads u ≡ true = find-holds leads net.turns u e in
            let parts = and_parts _ _ leads_there in
            let listed : Contains (turns_from net place net.turns) (seen_turn net u) = subst (λ v. Contains (turns_from net place net.turns) (seen_turn net v)) here (among-at (seen_turn net) (is_from net place) net.turns first u within (ap (is_from net place) here ∙ parts.0)) in
            let has = Contains-permutation (turns_from net place net.turns) turns (seen_turn net u) are.same listed in
            none has.0 (seen_turn net u) has.1 (ap (λ (t : Turn). t.next) has.2 ∙ seen-next u parts.1))

-- ---- a search among sorted turns

module _ (turns : List Turn) (rising : IsNonDecreasingBy (λ t. t.next) turns) (next : ℕ) where
  compared : IsNonDecreasingBy (λ t. ordering_index (nat_cmp t.next next)) turns
  compared i j d low high = let rise = rising i j d low high in grind (arith, nat_tests)

  pub searched-ok : (at : ℕ) (d : Turn) → at < length turns → IsBinarySearchResult (λ t. nat_cmp t.next next) turns (Ok at) → (get_or turns at d).next ≡ next
  searched-ok at d h equal = ranked _ next _ (sym (equal d))

  pub searched-err : (at : ℕ) → IsBinarySearchResult (λ t. nat_cmp t.next next) turns (Err at) → (k : ℕ) (d : Turn) → k < length turns → (get_or turns k d).next ≢ next
  searched-err at parted k d h same = elim (cases_lt k at) [
    | inl low ↦ (let below = ranked (get_or turns k d).next next _ (sym ((parted compared).0 k d (omega arith) low)) in omega arith)
    | inr high ↦ (let above = ranked (get_or turns k d).next next _ (sym ((parted compared).1 k d high h)) in omega arith)
  ]

-- ---- the lists of lanes

-- the list of a lane is that of no other
pub from-list : (net : NetSpec) (place : Place) (t : TurnSpec) (link : ℕ) → link_of net t.link ≡ Some link → t.lane < 2 → place.lane < 2 → 2 * place.link + place.lane ≡ 2 * link + t.lane → is_from net place t ≡ true
from-list net place t link is low here same =
    let a : link ≡ place.link = omega arith in
    let b : t.lane ≡ place.lane = omega arith in
    rw (is, eq-eqb link place.link a, eq-eqb t.lane place.lane b) refl

pub from-other : (net : NetSpec) (place : Place) (t : TurnSpec) (link : ℕ) → link_of net t.link ≡ Some link → (2 * place.link + place.lane ≡ 2 * link + t.lane → ⊥) → is_from net place t ≡ false
from-other net place t link is other = elim (cases_Bool (is_from net place t)) as (λ _. is_from net place t ≡ false) [
  | inl from ↦ absurd (
      let parts = and_parts _ _ from in
      let a : link ≡ place.link = same_Some link place.link (sym is ∙ named-at net t.link place.link parts.0) in
      let b : t.lane ≡ place.lane = eqb-true _ _ parts.1 in
      other (omega arith))
  | inr no_turn_from ↦ no_turn_from
]

module _ (net : NetSpec) (faultless : network_fault net ≡ None) (place : Place) (next : ℕ) where
  -- a lane that has a turn is one of the network
  pub turn-there : (u : TurnSpec) → turn net place next ≡ Some u → (place.link < length net.links) × (place.lane < 2)
  turn-there u e =
      let at = position_or_len (leads net faultless place next) net.turns in
      let got : slice_get net.turns at ≡ Some u = sym (find_at (leads net faultless place next) net.turns) ∙ e in
      let joins_them = subst (λ t. joins net t ≡ true) (get_or_from_slice_get net.turns at u u got) (good-turn net faultless at u (slice_get_within net.turns at u got)).0 in
      let g = joined net u joins_them in
      let parts = and_parts _ _ (and_parts _ _ (find-holds (leads net faultless place next) net.turns u e)).0 in
      let link : g.link ≡ place.link = same_Some g.link place.link (sym g.link_is ∙ named-at net u.link place.link parts.0) in
      let lane : u.lane ≡ place.lane = eqb-true _ _ parts.1 in
      let few = (good-link net faultless g.link g.link_in).few_lanes in
      (omega (arith, g.link_in), omega (arith, g.lane_in))

  -- so where there is no such lane there is no turn
  pub turn-nowhere : ((place.link < length net.links) × (place.lane < 2) → ⊥) → turn net place next ≡ None
  turn-nowhere nowhere = by_turn (turn net place next) refl
    where
      by_turn : (o : Option TurnSpec) → turn net place next ≡ o → turn net place next ≡ None
      by_turn None e = e
      by_turn (Some u) e = absurd (nowhere (turn-there u e))

-- what a search of the lane's list answers
pub turn-answer : (net : NetSpec) (faultless : network_fault net ≡ None) (place : Place) (next : ℕ) (turns : List Turn) → AreTurnsFrom net place turns → (o : Option Turn)
    → MatchOption o ((k : ℕ) (d : Turn) → k < length turns → (get_or turns k d).next ≢ next) (λ t. Contains turns t × (t.next ≡ next)) → o ≡ option_map (turn_by_position place next) (turn net place next)
turn-answer net faultless place next turns are None none = sym (ap (option_map (turn_by_position place next)) (turn-missing net faultless place next turns are none))
turn-answer net faultless place next turns are (Some t) found = sym (turn-found net faultless place next turns are t found.0 found.1)
