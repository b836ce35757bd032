-- What commands do to a tile.
use Rattle.std.specs.Prelude.{◌≡◌, ◌<◌, ◌≤◌, ℕ, List, sum_by, Option, Some, None, slice_get, slice_set, if◌then◌else◌}
use Rattle.street_base.specs.declared.net.NetSpec.{NetSpec}
use Rattle.street_base.specs.declared.reply.Whereabouts.{Whereabouts}
use Rattle.street_base.specs.Prelude.{Vehicle, is_place, SignalPlan, Traffic, LaneState, lane_at, each_lane, in_lane, lane_without, whereabouts_in}
use Rattle.street_base.specs.declared.names.Place.{Place}
use Rattle.street_lanes.specs.Prelude.{vehicle_on, place_at, IsOn}
use Rattle.street_tile.specs.Tiles.{TileView, TileStandsFor, SameTile}

-- ---- what is done

-- the traffic with the lane at place p changed by a rule, and all else as it was; all as it was where there is no such
-- lane
unfoldable pub at_place : Place → (LaneState → LaneState) → Traffic → Traffic
at_place p rule m = record m { lanes = each_lane (λ q lane. if is_place q p then rule lane else lane) m.lanes }

-- the traffic with no vehicle of this number on any lane, in cells, buffer or among those who wait; its end, if it has
-- one, stays
unfoldable pub without : ℕ → Traffic → Traffic
without number m = record m { lanes = each_lane (λ place. lane_without number) m.lanes }

-- the traffic with this signal plan at the node at position `node`, in place of the plan or none that it had; as it was
-- where it has no entry of signal plans at that position
unfoldable pub planned : ℕ → SignalPlan → Traffic → Traffic
planned node plan m = record m { signals = slice_set m.signals node (Some plan) }

-- ---- a tile before and after

-- that, whatever traffic of the network tile x stood for, if P held of it, tile y stands for f of it; nodes, places,
-- sizes, loose vehicles and odds (`SameTile`), hand-overs, those who come, arrived numbers and detectors are as they
-- were; of mouths, rows and room nothing is said
pub record DoesIf (net : NetSpec) (P : Traffic → Type 0) (f : Traffic → Traffic) (x y : TileView) : Type 0 where
  pub same : SameTile x y
  pub handed : y.handed ≡ x.handed
  pub coming : y.coming ≡ x.coming
  pub arrived : y.arrived ≡ x.arrived
  pub detectors : y.detectors ≡ x.detectors
  pub stands : (m : Traffic) → IsOn net m → P m → TileStandsFor x m → TileStandsFor y (f m)

-- that, for each traffic of the network for which tile x stood, tile y stands for f of it, with no condition; nodes,
-- places, sizes, loose vehicles and odds, hand-overs, those who come, arrived numbers and detectors are as they were
-- (`DoesIf`)
abbrev pub Does : NetSpec → (Traffic → Traffic) → TileView → TileView → Type 0
Does net f x y = DoesIf net (λ m. Unit {0}) f x y

-- that tile y is as tile x in all but the room of its arena for more vehicles, which may be any
abbrev pub KeepsAll : TileView → TileView → Type 0
KeepsAll x y = y ≡ record x { own = record x.own { room = y.own.room } }

-- ---- what is found on some lanes

-- that no vehicle of this number is on any of these lanes of the traffic: in cells, buffers or among those who wait; so
-- where there are no lanes
abbrev pub HaveNot : List Place → Traffic → ℕ → Type 0
HaveNot ps m number = (k : ℕ) (p : Place) → slice_get ps k ≡ Some p → in_lane number (lane_at m p) ≡ 0

-- that a vehicle of this number is on at least one of these lanes of the traffic: in its cells, its buffer or among
-- those who wait
abbrev pub Have : List Place → Traffic → ℕ → Type 0
Have ps m number = (k : ℕ) × (p : Place) × (slice_get ps k ≡ Some p) × (0 < in_lane number (lane_at m p))

-- that on one of these lanes of the traffic the vehicle of this number, first looked for in cells, then in the buffer,
-- then among those who wait, is v
abbrev pub Hold : List Place → Traffic → ℕ → Vehicle → Type 0
Hold ps m number v = (k : ℕ) × (p : Place) × (slice_get ps k ≡ Some p) × (vehicle_on number (lane_at m p) ≡ Some v)

-- that `found` is the whereabouts of the vehicle of this number as one of these lanes of the traffic has it; where
-- `found` is none, that the vehicle is on none of them, as where there are no lanes
abbrev pub Finds : NetSpec → List Place → Traffic → ℕ → Option Whereabouts → Type 0
Finds net ps m number None = HaveNot ps m number
Finds net ps m number (Some found) = (k : ℕ) × (p : Place) × (slice_get ps k ≡ Some p) × (whereabouts_in net p number (lane_at m p) ≡ Some found)

-- the sum of f over the traffic's lanes at these places, a place that stands twice counted twice; 0 where there are
-- none
abbrev pub over : List Place → (LaneState → ℕ) → Traffic → ℕ
over ps f m = sum_by (λ p. f (lane_at m p)) ps

-- that this number stands at most once on these lanes of the traffic together: in cells, buffers or among those who
-- wait
abbrev pub HaveAtMostOne : List Place → Traffic → ℕ → Type 0
HaveAtMostOne ps m number = over ps (in_lane number) m ≤ 1

-- that P holds of all traffic of the network for which the tile stands, and in which the number stands at most once on
-- the tile's lanes; nothing is claimed of other traffic
abbrev pub WhereOnce : NetSpec → TileView → ℕ → (Traffic → Type 0) → Type 0
WhereOnce net x number P = (m : Traffic) → IsOn net m → TileStandsFor x m → HaveAtMostOne x.own.places m number → P m

-- that `found` is the whereabouts of the vehicle of this number on lane n of the tile's own, none where it is not on
-- that lane; claimed of all traffic of the network for which the tile stands and that has the number at most once on
-- the tile's lanes
abbrev pub FindsAt : NetSpec → TileView → ℕ → ℕ → Option Whereabouts → Type 0
FindsAt net x n number found = WhereOnce net x number (λ m. found ≡ whereabouts_in net (place_at x.own n) number (lane_at m (place_at x.own n)))
