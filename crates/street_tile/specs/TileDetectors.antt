-- The detectors of a tile, and what they note of a step.
use Rattle.std.specs.Prelude.{◌≡◌, ℕ, ◌+◌, ◌<◌, List, [], map, length, filter, Some, slice_get, slice_index_or, All}
use Rattle.street_base.specs.declared.net.NetSpec.{NetSpec}
use Rattle.street_base.specs.declared.names.Place.{Place}
use Rattle.street_base.specs.Prelude.{metered, is_place, link_at, Traffic, LaneState, Detector, noted}
use Rattle.street_lanes.specs.Prelude.{LaneStands, Lanes, lane_of, Detectors, watch_of, AllGoOn, AllNote, MetersStandFor}
use Rattle.street_tile.specs.Tiles.{TileView, TileStandsFor, SameTile}

-- the detectors that are read past the end of a list: none, on a lane of no cells
abbrev pub no_detectors : Detectors
no_detectors = record { size = 0; meters = []; watches = [] }

-- the detectors of lane k, by its own number, of a tile; no meters and no watches, on a lane of no cells, where there
-- is no such lane
abbrev pub detectors_at : List Detectors → ℕ → Detectors
detectors_at detectors k = slice_index_or detectors k no_detectors

-- the detectors of a lane that has none: its count of cells, the length of its link, no meters and no watches
abbrev pub bare : NetSpec → Place → Detectors
bare net at = record { size = (link_at net at.link).length; meters = []; watches = [] }

-- ---- the step

-- that there are as many lanes as before, and each lane's detectors have the same size and meters; their watches may be
-- any
pub record KeepMeters (olds news : List Detectors) : Type 0 where
  pub even : length news ≡ length olds
  pub each : (k : ℕ) → detectors_at news k ≡ record (detectors_at olds k) { watches = (detectors_at news k).watches }

-- that each watch on these lanes holds just what it sees of the motion that is made from this traffic: as many watches
-- as meters, lane by lane in the order of `ps`
abbrev pub HaveWatched : Traffic → List Place → List Detectors → Type 0
HaveWatched m ps detectors = (k : ℕ) (p : Place) → slice_get ps k ≡ Some p
    → (detectors_at detectors k).watches ≡ map (watch_of m p) (detectors_at detectors k).meters

-- that the meters of each lane have gone on to the next step and noted this one, by what their watches saw and whether
-- their cells are covered in `own`; sizes, watches and the count of lanes are as they were
pub record HaveNoted (own : Lanes) (olds news : List Detectors) : Type 0 where
  pub even : length news ≡ length olds
  pub each : (k : ℕ) → detectors_at news k ≡ record (detectors_at olds k) { meters = (detectors_at news k).meters }
  pub go : (k : ℕ) → k < length olds → AllGoOn (detectors_at olds k).meters (detectors_at news k).meters
  pub note : (k : ℕ) (s : LaneState) → k < length olds → LaneStands (lane_of own k) s
      → AllNote s.track.cells (detectors_at olds k).watches (detectors_at olds k).meters (detectors_at news k).meters

-- the traffic with this step noted by all detectors, its motion as made from the traffic `before`, its covered cells as
-- in m, and the clock one later
unfoldable pub noted_by : Traffic → Traffic → Traffic
noted_by before m = record m { detectors = map (noted before m) m.detectors; clock = m.clock + 1 }

-- ---- the machine's detectors

-- the machine's detectors that are on lane p, in the order of the list
abbrev pub detectors_on : Place → List Detector → List Detector
detectors_on p ds = filter (λ d. is_place p d.place) ds

-- that on each own lane of the tile there are as many meters as the traffic has detectors on that lane, and they stand
-- for these one by one and in order
abbrev pub MetersStand : TileView → Traffic → Type 0
MetersStand x m = (k : ℕ) (p : Place) → slice_get x.own.places k ≡ Some p → MetersStandFor (detectors_at x.detectors k).meters (detectors_on p m.detectors)

-- that on each own lane of all these tiles the meters stand for the traffic's detectors on that lane, one by one and in
-- order (`MetersStand`)
abbrev pub AllMetersStand : List TileView → Traffic → Type 0
AllMetersStand xs m = All (λ x. MetersStand x m) xs

-- ---- a detector more

-- that tile y is tile x in all but its detectors, and stands for each traffic that x stood for with one detector more,
-- new in this cell of lane p, with rows of `period` steps; its meters stand for the detectors then, if those of x did
pub record PlacesMeter (p : Place) (cell period : ℕ) (x y : TileView) : Type 0 where
  pub same : SameTile x y
  pub rest : y ≡ record x { detectors = y.detectors }
  pub stands : (m : Traffic) → TileStandsFor x m → TileStandsFor y (metered m p cell period)
  pub meters : (m : Traffic) → TileStandsFor x m → MetersStand x m → MetersStand y (metered m p cell period)
