-- What a faultless network gives a tile, and a tile with nobody on it.
use Rattle.std.proofs.Common.{◌≡◌, ℕ, zero, suc, ◌+◌, ◌-◌, ◌<◌, ◌≤◌, Bool, true, false, List, [], ◌∷◌, ◌++◌, length, map, set, get_or, refl, sym, ◌∙◌, ap, subst, arith, inl, inr, Option, Some, None, filter, replicate, slice_get, option_map, nat_le, nat_lt, ◌&&◌, ◌==◌, if◌then◌else◌}
use Rattle.std.specs.List.{range_with_len, position_or_len}
use Rattle.std.proofs.lemmas.Bool.{cases_lt, cases_eq, and_parts, eq-eqb, le-leb, lt-ltb}
use Rattle.std.proofs.lemmas.List.{append-nil, get_or-map, get_or_past, get_or-replicate, get_or-set_same, get_or-set_other}
use Rattle.std.proofs.lemmas.List.Elements.{filter-append}
use Rattle.std.proofs.lemmas.List.Folds.{find_at}
use Rattle.std.proofs.lemmas.Option.{slice_get_within, get_or_from_slice_get, slice_get-map, same_Some}
use Rattle.street_base.specs.declared.net.LinkSpec.{LinkSpec}
use Rattle.street_base.specs.declared.net.NodeSpec.{NodeSpec}
use Rattle.street_base.specs.declared.net.TurnSpec.{TurnSpec}
use Rattle.street_base.specs.declared.net.NetSpec.{NetSpec}
use Rattle.street_base.specs.Prelude.{network_fault, joins, most_lanes, no_link, link_at, node_of, names_link, turn, Vehicle, LaneState, no_lane, lane_at, SignalPlan, empty_lane, empty_lanes, loaded}
use Rattle.street_base.specs.declared.names.Place.{Place}
use Rattle.street_base.proofs.FaultLemmas.{node_below, few_links, link_keeps_limits}
use Rattle.street_base.proofs.ReleaseLemmas.{find-holds}
use Rattle.street_net.proofs.GoodLinks.{IsJoined, joined, named-at, good-link, good-turn}
use Rattle.street_net.proofs.InLanes.{lanes_of, places_below, places-more}
use Rattle.street_lanes.specs.Prelude.{LaneView, LaneStands, IsLane, AllLanes, fresh_on, LanesStand}
use Rattle.street_tile.specs.Prelude.{vehicle_in, IsRoads, ShowSignals, is_own}
use Rattle.street_net.specs.Prelude.{slot_of}
use Rattle.street_node.specs.Prelude.{AtMostOnce}
use Rattle.street_node.proofs.Mouths.{slot-apart}
use Rattle.street_tile.proofs.Numbers.{apart-at}

-- ---- a network without a fault

module _ (net : NetSpec) (faultless : network_fault net ≡ None) where
  some-node : 0 < length net.nodes
  unfolding network_fault
  some-node = elim (cases_eq (length net.nodes) 0) as (λ _. 0 < length net.nodes) [
    | inl none ↦ (let bad : (length net.nodes == 0) ≡ true = eq-eqb (length net.nodes) 0 none in let fault = rw bad at faultless in cc)
    | inr some ↦ omega arith
  ]

  few-nodes : length net.nodes ≤ 4096
  few-nodes = elim (cases_lt 4096 (length net.nodes)) as (λ _. length net.nodes ≤ 4096) [
    | inl more ↦ absurd (let h = node_below net faultless 4096 more in omega arith)
    | inr few ↦ few
  ]

  two-lanes : (link : ℕ) → (link_at net link).lanes ≤ 2
  two-lanes link = elim (cases_lt link (length net.links)) as (λ _. (link_at net link).lanes ≤ 2) [
    | inl there ↦ (let few : (link_at net link).lanes ≤ most_lanes = (link_keeps_limits net faultless link there).few_lanes in omega arith)
    | inr past ↦ (let none : (link_at net link).lanes ≡ 0 = ap (λ (l : LinkSpec). l.lanes) (get_or_past net.links link no_link past) in omega arith)
  ]

  -- a turn joins its links
  pub record IsTurn (from : Place) (next : ℕ) (t : TurnSpec) : Type 0 where
    pub inside : next < length net.links
    pub lane : t.next_lane < (link_at net next).lanes
    pub meet : (link_at net from.link).to ≡ (link_at net next).from

  turn-joins : (from : Place) (next : ℕ) (t : TurnSpec) → turn net from next ≡ Some t → IsTurn from next t
  turn-joins from next t e =
      let test = λ (u : TurnSpec). names_link net u.link from.link && (u.lane == from.lane) && names_link net u.next next in
      let at = position_or_len test net.turns in
      let got : slice_get net.turns at ≡ Some t = sym (find_at test net.turns) ∙ e in
      let joins_them = subst (λ (u : TurnSpec). joins net u ≡ true) (get_or_from_slice_get net.turns at t t got) (good-turn net faultless at t (slice_get_within net.turns at t got)).0 in
      let g : IsJoined net t = joined net t joins_them in
      let holds = and_parts _ _ (find-holds test net.turns t e) in
      let link : g.link ≡ from.link = same_Some g.link from.link (sym g.link_is ∙ named-at net t.link from.link (and_parts _ _ holds.0).0) in
      let next_is : g.next ≡ next = same_Some g.next next (sym g.next_is ∙ named-at net t.next next holds.1) in
      record {
        inside = subst (λ n. n < length net.links) next_is g.next_in;
        lane = subst (λ n. t.next_lane < (link_at net n).lanes) next_is g.next_lane_in;
        meet = subst (λ n. (link_at net from.link).to ≡ (link_at net n).from) next_is (subst (λ n. (link_at net n).to ≡ (link_at net g.next).from) link g.meet);
      }

  pub faultless-roads : IsRoads net
  faultless-roads = record {
    nodes = (some-node, few-nodes);
    few = few_links net faultless;
    two = two-lanes;
    inside = λ from next t e. let is = turn-joins from next t e in (is.inside, is.lane);
    ends = λ link h. (good-link net faultless link h).ends;
    joined = λ from next t e. (turn-joins from next t e).meet;
  }

-- ---- own lanes, link by link

module _ (net : NetSpec) (low high : ℕ) where
  row-kept : (b : Bool) (i a n : ℕ) → ((k : ℕ) → is_own net low high (record { link = i; lane = k }) ≡ b) → filter (is_own net low high) (map (λ k. record { link = i; lane = k }) (range_with_len a n)) ≡ (if b then map (λ k. record { link = i; lane = k }) (range_with_len a n) else [])
  row-kept true i a zero h = refl
  row-kept false i a zero h = refl
  row-kept true i a (suc n) h = rw (h a) (ap (λ (ps : List Place). record { link = i; lane = a } ∷ ps) (row-kept true i (a + 1) n h))
  row-kept false i a (suc n) h = rw (h a) (row-kept false i (a + 1) n h)

  pub own-more : (i node : ℕ) → node_of net (link_at net i).to ≡ Some node → low ≤ node → node < high → filter (is_own net low high) (places_below net (i + 1)) ≡ filter (is_own net low high) (places_below net i) ++ lanes_of net i
  own-more i node is above below =
      ap (filter (is_own net low high)) (places-more net i)
      ∙ filter-append (is_own net low high) (places_below net i) (lanes_of net i)
      ∙ ap (λ (ps : List Place). filter (is_own net low high) (places_below net i) ++ ps) (row-kept true i 0 (link_at net i).lanes (λ k. rw (is, le-leb low node above, lt-ltb node high below) refl))

  pub own-elsewhere : (i node : ℕ) → node_of net (link_at net i).to ≡ Some node → (nat_le low node && nat_lt node high) ≡ false → filter (is_own net low high) (places_below net (i + 1)) ≡ filter (is_own net low high) (places_below net i)
  own-elsewhere i node is away =
      ap (filter (is_own net low high)) (places-more net i)
      ∙ filter-append (is_own net low high) (places_below net i) (lanes_of net i)
      ∙ ap (λ (ps : List Place). filter (is_own net low high) (places_below net i) ++ ps) (row-kept false i 0 (link_at net i).lanes (λ k. rw is away))
      ∙ append-nil (filter (is_own net low high) (places_below net i))

-- ---- nobody is on a tile

lane_at-loaded : (net : NetSpec) (p : Place) → IsLane net p → lane_at (loaded net) p ≡ empty_lane (link_at net p.link).length
unfolding loaded
lane_at-loaded net p there =
    ap (λ (ls : List LaneState). get_or ls p.lane no_lane) (get_or-map empty_lanes net.links p.link no_link [] there.0)
    ∙ get_or-replicate (link_at net p.link).lanes p.lane (empty_lane (link_at net p.link).length) no_lane there.1

empty-stands : (n : ℕ) → LaneStands (empty_lane n) (empty_lane n)
unfolding LaneStands
empty-stands n = record { track = refl; queue = refl; waiting = refl; order = tt }

pub loaded-lanes : (net : NetSpec) (ps : List Place) → AllLanes net ps → LanesStand ps (map (fresh_on net) ps) (loaded net)
loaded-lanes net ps all k p l at is =
    let same : Some (fresh_on net p) ≡ Some l = sym (slice_get-map (fresh_on net) ps k ∙ ap (option_map (fresh_on net)) at) ∙ is in
    let view : fresh_on net p ≡ l = same_Some (fresh_on net p) l same in
    subst (λ (x : LaneView). LaneStands x (lane_at (loaded net) p)) view (subst (LaneStands (fresh_on net p)) (sym (lane_at-loaded net p (all k p at))) (empty-stands (link_at net p.link).length))

pub loaded-clock : (net : NetSpec) → (loaded net).clock ≡ net.start
unfolding loaded
loaded-clock net = refl

abbrev no_plan : Option SignalPlan
no_plan = None

-- no plans
abbrev pub no_plans : ℕ → List (Option SignalPlan)
no_plans n = replicate n None

pub loaded-signals : (net : NetSpec) (low high : ℕ) → high ≤ length net.nodes → ShowSignals low high (no_plans (high - low)) (loaded net)
unfolding loaded
loaded-signals net low high within node above below =
    let mine : get_or {A = Option SignalPlan} (no_plans (high - low)) (node - low) None ≡ None = get_or-replicate {A = Option SignalPlan} (high - low) (node - low) None None (omega arith) in
    let theirs : get_or {A = Option SignalPlan} (map (λ (n : NodeSpec). no_plan) net.nodes) node None ≡ None = get_or-map (λ (n : NodeSpec). no_plan) net.nodes node (record { id = 0; residence = 0; capacity = 0 }) no_plan (omega arith) in
    rw (mine, theirs) (λ place next step. refl)

-- nobody comes to any of so many lanes
pub nobody-comes : (n : ℕ) (ps : List Place) → n ≡ length ps → map vehicle_in (replicate n None) ≡ map (λ p. None) ps
nobody-comes zero [] e = refl
nobody-comes zero (p ∷ ps) e = absurd (omega arith)
nobody-comes (suc n) [] e = absurd (omega arith)
nobody-comes (suc n) (p ∷ ps) e = ap (λ (vs : List (Option Vehicle)). None ∷ vs) (nobody-comes n ps (omega arith))

-- ---- numbers

-- one more lane has its number at its slot
pub numbered-more : (ps : List Place) (links : ℕ) → AtMostOnce ps → ((k : ℕ) (p : Place) → slice_get ps k ≡ Some p → p.lane < 2) → (n : ℕ) (p : Place) (numbers : List ℕ) → slice_get ps n ≡ Some p → slot_of p < length numbers
    → ((k : ℕ) (q : Place) → k < n → slice_get ps k ≡ Some q → get_or numbers (slot_of q) 0 ≡ k) → (k : ℕ) (q : Place) → k < n + 1 → slice_get ps k ≡ Some q → get_or (set numbers (slot_of p) n) (slot_of q) 0 ≡ k
numbered-more ps links once two n p numbers at fits before k q h at_k = elim (cases_eq k n) as (λ _. get_or (set numbers (slot_of p) n) (slot_of q) 0 ≡ k) [
  | inl here ↦ (
      let same = same_Some p q (sym at ∙ ap (slice_get ps) (sym here) ∙ at_k) in
      ap (λ (x : Place). get_or (set numbers (slot_of p) n) (slot_of x) 0) (sym same) ∙ get_or-set_same numbers (slot_of p) n 0 fits ∙ sym here)
  | inr other ↦ (
      let apart = apart-at ps once n k p q at at_k (λ e. other (sym e)) in
      get_or-set_other numbers (slot_of p) (slot_of q) n 0 (slot-apart p q (two n p at) (two k q at_k) apart) ∙ before k q (omega arith) at_k)
]
