-- A link of a network, with the list and the closed cells of each of its lanes.
use Rattle.std.specs.Prelude.{ℕ, ◌<◌, List, [], length, map, slice_index_or, All}
use Rattle.street_base.specs.declared.net.NetSpec.{NetSpec}
use Rattle.street_base.specs.Prelude.{link_at, Track}
use Rattle.street_gap.specs.declared.closures.Stretch.{Stretch}
use Rattle.street_gap.specs.Prelude.{IsWithin, closed_marks}
use Rattle.street_rule.specs.declared.road.RoadLane.{RoadLane as Declared}
use Rattle.street_yard.specs.Prelude.{Yard, IsApart, cells_at, IsLane}

-- a lane of a link: the list that has its vehicles, the front first, and its closed stretches
pub record RoadLane : Type 0 where
  pub list : ℕ
  pub closed : List Stretch

-- a link, by its position in the network, with its lanes, lane 0 first, each as a list of the yard with its closed
-- stretches
pub record Road : Type 0 where
  pub network : NetSpec
  pub link : ℕ
  pub lanes : List RoadLane

-- the lane of the definitions that a lane of the code stands for: its list and its closed stretches
abbrev pub lane_seen : Declared → RoadLane
lane_seen lane = record { list = lane.list.0; closed = lane.closures.now }

-- what stands for a lane that a road does not have: list 0 with no closed cells
abbrev pub no_lane : RoadLane
no_lane = record { list = 0; closed = [] }

-- the lane of a road with this number, 0 or 1; list 0 with no closed cells where the road has no such lane
abbrev pub lane_of : Road → ℕ → RoadLane
lane_of road lane = slice_index_or road.lanes lane no_lane

-- how many cells each lane of a road has: the length of its link in the network
abbrev pub length_of : Road → ℕ
length_of road = (link_at road.network road.link).length

-- the cells and closed marks of a lane of `count` cells, made of the vehicles on its list and its closed stretches
abbrev pub track_of : Yard → ℕ → RoadLane → Track
track_of y count lane = record { cells = cells_at y lane.list count; closed = closed_marks lane.closed count }

-- the cells and closed marks of each lane of a road, lane 0 first, made of the vehicles on its list and its closed
-- stretches
abbrev pub tracks : Yard → Road → List Track
tracks y road = map (track_of y (length_of road)) road.lanes

-- that a lane of a road fits the yard: its list is one of the yard's and stands for a lane of `count` cells, no two
-- vehicles in one cell, and its closed stretches lie within these
pub record IsRoadLane (y : Yard) (count : ℕ) (lane : RoadLane) : Type 0 where
  pub listed : lane.list < length y.lists
  pub stands : IsLane y lane.list count
  pub within : IsWithin lane.closed count

-- the numbers of the lists of a road's lanes, lane 0 first
abbrev pub lists_of : Road → List ℕ
lists_of road = map (λ lane. lane.list) road.lanes

-- that a road fits the yard: each of its lanes has a list of the yard that stands for a lane of the link's length, and
-- closed stretches within it, and no two lanes have one list
pub record IsRoad (y : Yard) (road : Road) : Type 0 where
  pub lanes : All (IsRoadLane y (length_of road)) road.lanes
  pub apart : IsApart (lists_of road)
