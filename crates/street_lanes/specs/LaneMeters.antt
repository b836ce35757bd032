-- What the fields of `LaneMeters` stand for.
use Rattle.std.specs.Prelude.{◌≡◌, ◌<◌, length, All}
use Rattle.street_lanes.specs.declared.lane_meters.LaneMeters.TheInside.{Inside}
use Rattle.street_lanes.specs.Detectors.{Detectors}

-- what contracts see of the meters of a lane: its length in cells, its meters and their watches
abbrev pub seen : Inside → Detectors
seen x = record { size = x.length; meters = x.meters.items; watches = x.watches.items }

-- that there is a watch for each meter, and each meter is in a cell that the lane has
pub record IsSound (x : Inside) : Type 0 where
  pub even : length x.watches.items ≡ length x.meters.items
  pub within : All (λ m. m.cell < x.length) x.meters.items
