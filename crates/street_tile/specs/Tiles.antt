-- A tile, and what it stands for of the machine.
use Rattle.std.specs.Prelude.{◌≡◌, ℕ, ◌+◌, ◌-◌, ◌*◌, ◌/◌, ◌<◌, ◌≤◌, nat_le, nat_lt, List, [], map, length, filter, Bool, false, ◌&&◌, Option, Some}
use Rattle.std.specs.Prelude.{None, IsSome, slice_get, slice_index_or, All}
use Rattle.std.proofs.Common.{suc}
use Rattle.std.specs.Option.{option_map_or}
use Rattle.street_base.specs.declared.net.NetSpec.{NetSpec}
use Rattle.street_base.specs.declared.net.TurnSpec.{TurnSpec}
use Rattle.street_base.specs.declared.record.RecordRow.{RecordRow}
use Rattle.street_base.specs.Prelude.{Vehicle, is_free, link_at, node_of, turn, places, SignalPlan, Traffic, lane_at}
use Rattle.street_base.specs.Limits.{most_nodes, most_links}
use Rattle.street_base.specs.declared.names.Place.{Place}
use Rattle.street_net.specs.Prelude.{slot_of, mouth}
use Rattle.street_lanes.specs.Prelude.{Lanes, Same, no_place, place_at, IsOn, LanesStand, PlanStands, cells_on, Detectors}
use Rattle.street_lanes.specs.Lanes.{IsOf}
use Rattle.street_meter.specs.Meter.{next_step}
use Rattle.street_tile.specs.Halves.{Transfer}

-- ---- the network

-- that tiles can have the network: nodes, at least one, and links within their limits, at most two lanes a link, each
-- link running to a node, and each turn leading to a lane of a link that begins where the first ends
pub record IsRoads (net : NetSpec) : Type 0 where
  pub nodes : (0 < length net.nodes) × (length net.nodes ≤ most_nodes)
  pub few : length net.links ≤ most_links
  pub two : (link : ℕ) → (link_at net link).lanes ≤ 2
  pub inside : (from : Place) (next : ℕ) (t : TurnSpec) → turn net from next ≡ Some t → (next < length net.links) × (t.next_lane < (link_at net next).lanes)
  pub ends : (link : ℕ) → link < length net.links → IsSome (node_of net (link_at net link).to)
  pub joined : (from : Place) (next : ℕ) (t : TurnSpec) → turn net from next ≡ Some t → (link_at net from.link).to ≡ (link_at net next).from

-- a network of nothing, with all numbers 0, for a contract or a default that must have some network
abbrev pub no_network : NetSpec
no_network = record { nodes = []; links = []; turns = []; zone = 0; change = 0; dawdle = 0; seed = 0; start = 0 }

-- ---- the view

-- that the mouths, at each lane's slot, 2 * link + lane, say of each lane of the network whether its cell 0 is free in
-- this traffic
abbrev pub Shows : NetSpec → List Bool → Traffic → Type 0
Shows net mouths m = (p : Place) → p.link < length net.links → p.lane < (link_at net p.link).lanes → mouth mouths p ≡ is_free (lane_at m p).track 0

-- ---- signals

-- that `signals`, whose first entry is of node `low`, has for each node from `low` to below `high` the same greens in
-- each step as the traffic's plan; no plan shows all turns green
abbrev pub ShowSignals : ℕ → ℕ → List (Option SignalPlan) → Traffic → Type 0
ShowSignals low high signals m = (node : ℕ) → low ≤ node → node < high
    → PlanStands (slice_index_or signals (node - low) None) (slice_index_or m.signals node None)

-- ---- a tile

-- what contracts see of a tile: nodes from `low` to below `high`, the network's count of links, own lanes, clock, a
-- plan or none a node; at 2 * link + lane in `mouths`: is cell 0 free; transfers `handed` over, who is `coming` (one an
-- own lane), numbers `arrived` and rows `left`; detectors
pub record TileView : Type 0 where
  pub low : ℕ
  pub high : ℕ
  pub links : ℕ
  pub own : Lanes
  pub clock : ℕ
  pub signals : List (Option SignalPlan)
  pub mouths : List Bool
  pub handed : List Transfer
  pub coming : List (Option Vehicle)
  pub arrived : List ℕ
  pub left : List RecordRow
  pub detectors : List Detectors

-- whether the lane's link runs to a node from `low` up to, but not including, `high`; false where it runs to no node
abbrev pub is_own : NetSpec → ℕ → ℕ → Place → Bool
is_own net low high p = option_map_or (λ node. nat_le low node && nat_lt node high) (node_of net (link_at net p.link).to) false

-- the lanes of the network, in its order, whose links run to a node from `low` up to, but not including, `high`
abbrev pub own_places : NetSpec → ℕ → ℕ → List Place
own_places net low high = filter (is_own net low high) (places net)

-- for each lane the count of cells, `size`, that its detectors' record has
abbrev pub sizes_of : List Detectors → List ℕ
sizes_of detectors = map (λ g. g.size) detectors

-- that x is a tile of this network (`IsRoads`): it has the count of links, nodes of the network, its odds, and as own
-- lanes just those whose links run to these nodes, in order; each, and its record of detectors, is as long as its link
pub record IsTileOf (net : NetSpec) (x : TileView) : Type 0 where
  pub roads : IsRoads net
  pub links : x.links ≡ length net.links
  pub within : x.high ≤ length net.nodes
  pub places : x.own.places ≡ own_places net x.low x.high
  pub own : IsOf net x.own
  pub sized : sizes_of x.detectors ≡ map (cells_on net) x.own.places

-- the place at position n of a list; link 0 and lane 0 past its end
abbrev pub nth : List Place → ℕ → Place
nth ps n = slice_index_or ps n no_place

-- the lane with number `lane` of the same link as p, whether it is there or not
abbrev pub beside : Place → ℕ → Place
beside p lane = record { link = p.link; lane = lane }

-- the count of lanes of the link that this lane is of
abbrev pub lanes_beside : NetSpec → Place → ℕ
lanes_beside net p = (link_at net p.link).lanes

-- that in this list of lanes each lane but a lane 0 stands right behind lane 0 of its link, and each lane 0 of a link
-- of two lanes right before lane 1 of it; so in an empty list
pub record ArePairs (net : NetSpec) (ps : List Place) : Type 0 where
  pub first : 0 < length ps → (nth ps 0).lane ≡ 0
  pub next : (n : ℕ) → n < length ps → (nth ps n).lane ≡ 0 → lanes_beside net (nth ps n) ≡ 2 → (suc n < length ps) × (nth ps (suc n) ≡ beside (nth ps n) 1)
  pub before : (n : ℕ) → suc n < length ps → ((nth ps (suc n)).lane ≡ 0 → ⊥) → nth ps n ≡ beside (nth ps (suc n)) 0

-- that behind lane n of this list no lane but a lane 0 stands: so it is no lane 0 of a link of two lanes
abbrev pub BeginsNoPair : List Place → ℕ → Type 0
BeginsNoPair ps n = suc n < length ps → (nth ps (suc n)).lane ≡ 0

-- that `next` has for each lane of ps a later position, at most their count, and that no lane between the two begins a
-- link of two lanes
pub record AreNextPairs (ps : List Place) (next : List ℕ) : Type 0 where
  pub even : length next ≡ length ps
  pub later : (n : ℕ) → n < length ps → n < slice_index_or next n 0
  pub within : (n : ℕ) → n < length ps → slice_index_or next n 0 ≤ length ps
  pub none : (n k : ℕ) → n < length ps → n < k → k < slice_index_or next n 0 → BeginsNoPair ps k

-- that own lane n is the first lane of its link, lane 0; nothing is said where there is no own lane n
abbrev pub BeginsLink : Lanes → ℕ → Type 0
BeginsLink own n = n < length own.places → (place_at own n).lane ≡ 0

-- that the tile shows the traffic as far as it is the tile's: the same clock, its own lanes, the greens at its own
-- nodes, and no vehicle on no list; of mouths, detectors and those on the way nothing is said
pub record TileStandsFor (x : TileView) (m : Traffic) : Type 0 where
  pub clock : x.clock ≡ m.clock
  pub lanes : LanesStand x.own.places x.own.lanes m
  pub none_loose : x.own.loose ≡ []
  pub signals : ShowSignals x.low x.high x.signals m

-- that the tile's mouths at its own lanes' slots, 2 * link + lane, say whether their cells 0 are free, in all traffic
-- for which the tile stands
abbrev pub ShowsOwn : TileView → Type 0
ShowsOwn x = (m : Traffic) → TileStandsFor x m → (j : ℕ) (p : Place) → slice_get x.own.places j ≡ Some p → mouth x.mouths p ≡ is_free (lane_at m p).track 0

-- that `numbers`, two entries for each link, has at the slot of each lane of ps, 2 * link + lane, the lane's position
-- in ps; of other slots nothing is said
pub record AreNumbers (links : ℕ) (ps : List Place) (numbers : List ℕ) : Type 0 where
  pub wide : length numbers ≡ 2 * links
  pub at : (k : ℕ) (p : Place) → slice_get ps k ≡ Some p → slice_index_or numbers (slot_of p) 0 ≡ k

-- that the next step that each meter of these lanes' detectors notes is that of this clock; so where there is no meter
abbrev pub AreDue : ℕ → List Detectors → Type 0
AreDue clock detectors = All (λ g. All (λ x. next_step x ≡ clock) g.meters) detectors

-- that a lane has no detector: neither a meter nor a watch
abbrev pub IsBare : Detectors → Type 0
IsBare g = (g.meters ≡ []) × (g.watches ≡ [])

-- that none of these lanes has a detector
abbrev pub AreBare : List Detectors → Type 0
AreBare detectors = All IsBare detectors

-- for each own lane of a tile none, as nobody comes to it
abbrev pub nobody : TileView → List (Option Vehicle)
nobody x = map (λ p. None) x.own.places

-- that nobody is on the way: the tile has no hand-over, and no vehicle comes to its lanes
abbrev pub IsStill : TileView → Type 0
IsStill x = (x.handed ≡ []) × (x.coming ≡ nobody x)

-- that the tile is between two steps: it has no hand-over, no vehicle comes to its lanes, and no number of one who
-- arrived is left in it
pub record IsIdle (x : TileView) : Type 0 where
  pub handed : x.handed ≡ []
  pub coming : x.coming ≡ nobody x
  pub arrived : x.arrived ≡ []

-- that the tile's arena has room for at least one more vehicle on each own lane, as many as can come in one step
abbrev pub IsPrepared : TileView → Type 0
IsPrepared x = length x.own.places ≤ x.own.room

-- that y is the same tile as x: the same nodes, count of links, places, loose vehicles and odds, and lanes and
-- detectors of the same sizes; who is on them, and all else, may differ
pub record SameTile (x y : TileView) : Type 0 where
  pub low : y.low ≡ x.low
  pub high : y.high ≡ x.high
  pub links : y.links ≡ x.links
  pub own : Same x.own y.own
  pub sized : sizes_of y.detectors ≡ sizes_of x.detectors

-- ---- all tiles

-- that R holds of the tile of xs and the tile of ys at each position of xs; that ys is as long as xs is not said
abbrev pub Each : (TileView → TileView → Type 0) → List TileView → List TileView → Type 0
Each R xs ys = (i : ℕ) (d : TileView) → i < length xs → R (slice_index_or xs i d) (slice_index_or ys i d)

-- that x is tile i of k, a tile of the network (`IsTileOf`): of the network's n nodes it has those from i * n / k to
-- below (i + 1) * n / k, both rounded down
pub record IsShare (net : NetSpec) (k i : ℕ) (x : TileView) : Type 0 where
  pub tile : IsTileOf net x
  pub low : x.low ≡ i * length net.nodes / k
  pub high : x.high ≡ (i + 1) * length net.nodes / k

-- that xs are all tiles of the network: at least one, at most as many as nodes, and tile i with its share of the nodes
-- and their lanes (`IsShare`)
pub record AreTiles (net : NetSpec) (xs : List TileView) : Type 0 where
  pub some : 0 < length xs
  pub few : length xs ≤ length net.nodes
  pub shares : (i : ℕ) (d : TileView) → i < length xs → IsShare net (length xs) i (slice_index_or xs i d)

-- that the traffic is of this network, with lanes and cells as the network has them (`IsOn`), and each tile stands for
-- it at its own lanes and nodes; that the tiles cover the network is not said
pub record AllStand (net : NetSpec) (xs : List TileView) (m : Traffic) : Type 0 where
  pub on : IsOn net m
  pub each : All (λ x. TileStandsFor x m) xs
