-- Tiles in a row: each lane is one tile's.
use Rattle.std.proofs.Common.{◌≡◌, ℕ, suc, ◌+◌, ◌*◌, ◌/◌, ◌<◌, ◌≤◌, true, List, [], ◌∷◌, ◌++◌, length, get_or, refl, sym, ◌∙◌, ap, subst, arith, Option, Some, None, slice_get, filter_map, option_to_list}
use Rattle.std.specs.List.{list_any}
use Rattle.std.proofs.lemmas.Bool.{le-leb, lt-ltb}
use Rattle.std.proofs.lemmas.List.Elements.{filter_map-append}
use Rattle.street_base.specs.declared.net.NetSpec.{NetSpec}
use Rattle.street_base.specs.declared.names.Place.{Place}
use Rattle.street_base.specs.Prelude.{is_place, link_at, node_of, places, Vehicle, Traffic, one_if, entering}
use Rattle.street_base.proofs.PlaceOnceLemmas.{places-once}
use Rattle.street_tile.specs.Prelude.{Transfer, crossing, entry_in, TileView, IsRoads, AreTiles, is_own, all_handed, all_places}
use Rattle.street_node.specs.Prelude.{times}
use Rattle.street_tile.proofs.Rows.{AreInRow}
use Rattle.street_tile.proofs.Sums.{tiles-sums}
use Rattle.street_tile.proofs.Crossings.{crossings-enter}

-- ---- each lane once

pub tiles-once : (net : NetSpec) → IsRoads net → (xs : List TileView) → AreInRow net xs → (q : Place) → list_any (is_place q) (places net) ≡ true → times q (all_places xs) ≡ 1
tiles-once net roads xs row q among = tiles-sums net roads (λ p. one_if (is_place q p)) xs row ∙ places-once net q among

-- ---- the hand-overs of all tiles are the entries of the machine

pub handed-crossing : (m : Traffic) (xs ys : List TileView) → length ys ≡ length xs → ((i : ℕ) (d : TileView) → i < length xs → (get_or ys i d).handed ≡ filter_map (crossing m) (get_or xs i d).own.places) → all_handed ys ≡ filter_map (crossing m) (all_places xs)
handed-crossing m [] [] e h = refl
handed-crossing m [] (y ∷ ys) e h = absurd (omega arith)
handed-crossing m (x ∷ xs) [] e h = absurd (omega arith)
handed-crossing m (x ∷ xs) (y ∷ ys) e h =
    ap (λ (es : List Transfer). es ++ y.handed) (handed-crossing m xs ys (omega arith) (λ i d l. h (suc i) d (omega arith)))
    ∙ ap (λ (es : List Transfer). filter_map (crossing m) (all_places xs) ++ es) (h 0 x (omega arith))
    ∙ sym (filter_map-append (crossing m) (all_places xs) x.own.places)

pub entries-are : (net : NetSpec) → IsRoads net → (m : Traffic) → m.network ≡ net → (xs : List TileView) → AreInRow net xs → (p : Place) → entry_in (filter_map (crossing m) (all_places xs)) p ≡ entering m p
entries-are net roads m on xs row p =
    ap (λ (vs : List Vehicle). slice_get vs 0) (crossings-enter m p (all_places xs) (λ q among. tiles-once net roads xs row q (subst (λ (n : NetSpec). list_any (is_place q) (places n) ≡ true) on among)))
    ∙ first (entering m p)
  where
    first : (o : Option Vehicle) → slice_get (option_to_list o) 0 ≡ o
    first None = refl
    first (Some v) = refl

-- the tile with the share of a node, of k tiles
pub share-holds : (net : NetSpec) (xs : List TileView) → AreTiles net xs → (k i node : ℕ) → k ≡ length xs → i < k → i * length net.nodes / k ≤ node → node < (i + 1) * length net.nodes / k → (d : TileView) → ((get_or xs i d).low ≤ node) × (node < (get_or xs i d).high)
share-holds net xs tiles k i node count h low high d =
    let is = tiles.shares i d (omega arith) in
    let above : i * length net.nodes / length xs ≤ node = subst (λ (n : ℕ). i * length net.nodes / n ≤ node) count low in
    let below : node < (i + 1) * length net.nodes / length xs = subst (λ (n : ℕ). node < (i + 1) * length net.nodes / n) count high in
    ((let a = is.low in omega arith), (let a = is.high in omega arith))

-- it owns the lanes of the links that run to that node
pub share-owns : (net : NetSpec) (xs : List TileView) → AreTiles net xs → (k i node : ℕ) (p : Place) → k ≡ length xs → i < k → i * length net.nodes / k ≤ node → node < (i + 1) * length net.nodes / k
    → node_of net (link_at net p.link).to ≡ Some node → (d : TileView) → is_own net (get_or xs i d).low (get_or xs i d).high p ≡ true
share-owns net xs tiles k i node p count h low high at d =
    let x : TileView = get_or xs i d in
    let holds = share-holds net xs tiles k i node count h low high d in
    rw (at, le-leb x.low node holds.0) (lt-ltb node x.high holds.1)
