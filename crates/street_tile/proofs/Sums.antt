-- Sums over the lanes of all tiles are sums over all lanes.
use Rattle.std.proofs.Common.{◌≡◌, ℕ, ◌+◌, ◌≤◌, Bool, true, false, List, [], ◌∷◌, length, refl, sym, ◌∙◌, ap, subst, arith, inl, inr, Option, Some, None, IsSome, nat_le, nat_lt, filter, ◌&&◌, ◌==◌, sum_by}
use Rattle.std.specs.Option.{option_map_or}
use Rattle.std.specs.List.{enumerate_from}
use Rattle.std.proofs.lemmas.Bool.{cases_lt, le-leb, lt-leb, lt-ltb, le-ltb, cond-true, cond-false}
use Rattle.std.proofs.lemmas.List.Sums.{sum_by-cons, sum_by-append}
use Rattle.std.proofs.lemmas.List.Quantifiers.{position-Some}
use Rattle.street_base.specs.declared.net.NodeSpec.{NodeSpec}
use Rattle.street_base.specs.declared.net.NetSpec.{NetSpec}
use Rattle.street_base.specs.declared.names.Place.{Place}
use Rattle.street_base.specs.Prelude.{link_at, node_of, places, Traffic, LaneState, lane_at, over_all}
use Rattle.street_base.proofs.ReleaseLemmas.{sums-same, sums-zero, sums-add}
use Rattle.street_base.proofs.ReleaseCountLemmas.{sums-among}
use Rattle.street_base.proofs.CensusLemmas.{HasShape, over_lanes-places}
use Rattle.street_lanes.specs.Prelude.{IsLane}
use Rattle.street_tile.specs.Prelude.{TileView, IsRoads, is_own, all_places}
use Rattle.street_tile.proofs.Rows.{InRow, AreInRow}
use Rattle.street_tile.proofs.OwnLanes.{lane-of}
use Rattle.street_node.proofs.LaneWalk.{gated}

sums-filter : (f : Place → ℕ) (own : Place → Bool) (ps : List Place) → sum_by f (filter own ps) ≡ sum_by (λ p. gated (own p) (f p)) ps
sums-filter f own [] = refl
sums-filter f own (p ∷ ps) = by_own (own p) refl (sums-filter f own ps)
  where
    by_own : (b : Bool) → own p ≡ b → sum_by f (filter own ps) ≡ sum_by (λ q. gated (own q) (f q)) ps → sum_by f (filter own (p ∷ ps)) ≡ sum_by (λ q. gated (own q) (f q)) (p ∷ ps)
    by_own true o rest =
        let here : gated (own p) (f p) ≡ f p = ap (λ (b : Bool). gated b (f p)) o in
        ap (λ (ys : List Place). sum_by f ys) (cond-true (own p) (p ∷ filter own ps) (filter own ps) o) ∙ omega (arith, sum_by-cons f p (filter own ps), sum_by-cons (λ q. gated (own q) (f q)) p ps, rest, here)
    by_own false o rest =
        let here : gated (own p) (f p) ≡ 0 = ap (λ (b : Bool). gated b (f p)) o in
        ap (λ (ys : List Place). sum_by f ys) (cond-false (own p) (p ∷ filter own ps) (filter own ps) o) ∙ omega (arith, sum_by-cons (λ q. gated (own q) (f q)) p ps, rest, here)

gate-split : (net : NetSpec) (a b c : ℕ) (n : ℕ) (q : Place) → a ≤ b → b ≤ c → gated (is_own net a c q) n ≡ gated (is_own net b c q) n + gated (is_own net a b q) n
gate-split net a b c n q h k = by_node (node_of net (link_at net q.link).to)
  where
    at : (node : ℕ) → gated (nat_le a node && nat_lt node c) n ≡ gated (nat_le b node && nat_lt node c) n + gated (nat_le a node && nat_lt node b) n
    at node = elim (cases_lt node a) as (λ _. gated (nat_le a node && nat_lt node c) n ≡ gated (nat_le b node && nat_lt node c) n + gated (nat_le a node && nat_lt node b) n) [
      | inl below ↦ rw (lt-leb a node below, lt-leb b node (omega arith)) refl
      | inr from_a ↦ elim (cases_lt node b) as (λ _. gated (nat_le a node && nat_lt node c) n ≡ gated (nat_le b node && nat_lt node c) n + gated (nat_le a node && nat_lt node b) n) [
        | inl below ↦ rw (le-leb a node from_a, lt-leb b node below, lt-ltb node b below, lt-ltb node c (omega arith)) (omega arith)
        | inr from_b ↦ rw (le-leb a node from_a, le-leb b node from_b, le-ltb node b from_b) (omega arith)
      ]
    ]

    by_node : (o : Option ℕ) → gated (option_map_or (λ node. nat_le a node && nat_lt node c) o false) n ≡ gated (option_map_or (λ node. nat_le b node && nat_lt node c) o false) n + gated (option_map_or (λ node. nat_le a node && nat_lt node b) o false) n
    by_node None = omega arith
    by_node (Some node) = at node

gate-none : (net : NetSpec) (a n : ℕ) (q : Place) → gated (is_own net a a q) n ≡ 0
gate-none net a n q = by_node (node_of net (link_at net q.link).to)
  where
    by_node : (o : Option ℕ) → gated (option_map_or (λ node. nat_le a node && nat_lt node a) o false) n ≡ 0
    by_node None = refl
    by_node (Some node) = elim (cases_lt node a) as (λ _. gated (nat_le a node && nat_lt node a) n ≡ 0) [
      | inl below ↦ rw (lt-leb a node below) refl
      | inr above ↦ rw (le-leb a node above, le-ltb node a above) refl
    ]

row-le : (net : NetSpec) (low high : ℕ) (xs : List TileView) → InRow net low high xs → low ≤ high
row-le net low high [] e = omega arith
row-le net low high (x ∷ xs) r = let rest = row-le net x.high high xs r.3 in let le = r.2 in omega arith

row-sums : (net : NetSpec) (f : Place → ℕ) (low high : ℕ) (xs : List TileView) → InRow net low high xs → sum_by f (all_places xs) ≡ sum_by (λ p. gated (is_own net low high p) (f p)) (places net)
row-sums net f low high [] e =
    let same : low ≡ high = e in
    sym (subst (λ (n : ℕ). sum_by (λ p. gated (is_own net low n p) (f p)) (places net) ≡ 0) same (sums-zero (λ p. gated (is_own net low low p) (f p)) (places net) (λ p. gate-none net low (f p) p)))
row-sums net f low high (x ∷ xs) r =
    let rest = row-sums net f x.high high xs r.3 in
    let own : sum_by f x.own.places ≡ sum_by (λ p. gated (is_own net low x.high p) (f p)) (places net) =
    ap (λ (ps : List Place). sum_by f ps) r.0.places ∙ sums-filter f (is_own net x.low x.high) (places net) ∙ ap (λ (n : ℕ). sum_by (λ p. gated (is_own net n x.high p) (f p)) (places net)) r.1 in
    let le = row-le net x.high high xs r.3 in
    let split =
    sums-same (λ p. gated (is_own net low high p) (f p)) (λ p. gated (is_own net x.high high p) (f p) + gated (is_own net low x.high p) (f p)) (places net) (λ p. gate-split net low x.high high (f p) p r.2 le)
    ∙ sums-add (λ p. gated (is_own net x.high high p) (f p)) (λ p. gated (is_own net low x.high p) (f p)) (places net) in
    sum_by-append f (all_places xs) x.own.places ∙ omega (arith, rest, own, split)

-- whose are all nodes, its are all lanes
pub all-own : (net : NetSpec) → IsRoads net → (p : Place) → IsLane net p → is_own net 0 (length net.nodes) p ≡ true
all-own net roads p there = whole (node_of net (link_at net p.link).to) refl (roads.ends p.link there.0)
  where
    nowhere : NodeSpec
    nowhere = record { id = 0; residence = 0; capacity = 0 }

    whole : (o : Option ℕ) → node_of net (link_at net p.link).to ≡ o → IsSome o → option_map_or (λ node. nat_le 0 node && nat_lt node (length net.nodes)) o false ≡ true
    whole None e some = cc
    whole (Some node) e some = rw (le-leb 0 node (omega arith)) (lt-ltb node (length net.nodes) (position-Some (λ (n : NodeSpec). n.id == (link_at net p.link).to) net.nodes node nowhere e).0)

-- over the lanes of all tiles of a network
pub tiles-sums : (net : NetSpec) → IsRoads net → (f : Place → ℕ) (xs : List TileView) → AreInRow net xs → sum_by f (all_places xs) ≡ sum_by f (places net)
tiles-sums net roads f xs row =
    row-sums net f 0 (length net.nodes) xs row
    ∙ sums-among (λ p. gated (is_own net 0 (length net.nodes) p) (f p)) f (places net) (λ p among. ap (λ (b : Bool). gated b (f p)) (all-own net roads p (lane-of net p among)))

-- ---- over all lanes of the machine

second-only : {A : Type 0} (g : A → ℕ) (n : ℕ) (xs : List A) → sum_by (λ e. g e.1) (enumerate_from n xs) ≡ sum_by g xs
second-only g n [] = refl
second-only g n (x ∷ xs) = omega (arith, sum_by-cons (λ e. g e.1) (n, x) (enumerate_from (n + 1) xs), sum_by-cons g x xs, second-only g (n + 1) xs)

pub over_all-places : (m : Traffic) → HasShape m → (f : LaneState → ℕ) → over_all f m ≡ sum_by (λ p. f (lane_at m p)) (places m.network)
over_all-places m shape f =
    sym (second-only (λ (lanes : List LaneState). sum_by f lanes) 0 m.lanes)
    ∙ sums-same (λ at. sum_by f at.1) (λ at. sum_by (λ on. f on.1) (enumerate_from 0 at.1)) (enumerate_from 0 m.lanes) (λ at. sym (second-only f 0 at.1))
    ∙ over_lanes-places m shape (λ p lane. f lane)
