-- The phase of releases in two halves: buffers let their fronts go, and those who were let go are placed in the lanes
-- that they enter. Between the halves such a vehicle is in no lane: it is handed over.
use Rattle.std.specs.Prelude.{List, map, filter, drop, Option, option_map, slice_get, if◌then◌else◌}
use Rattle.street_base.specs.declared.net.NetSpec.{NetSpec}
use Rattle.street_base.specs.Prelude.{Vehicle, is_place, link_at, Traffic, LaneState, each_lane, gives, on_next_link, with_entry}
use Rattle.street_base.specs.declared.names.Place.{Place}
use Rattle.street_node.specs.Prelude.{crossing as crosses}

-- a vehicle on its way between two lanes: the lane `to` that it enters, and the vehicle as it enters
pub record Transfer : Type 0 where
  pub to : Place
  pub vehicle : Vehicle

-- the vehicle of a transfer; none where there is no transfer
abbrev pub vehicle_in : Option Transfer → Option Vehicle
vehicle_in entry = option_map (λ e. e.vehicle) entry

-- the transfer of a vehicle into the lane `to`: its position in the plan one further, and its speed cut to the limit of
-- the lane's link
abbrev pub entry_on : NetSpec → Vehicle → Place → Transfer
entry_on net v to = record { to = to; vehicle = on_next_link (link_at net to.link).limit v }

-- the vehicle that the buffer at `from` lets go in this step, as it enters its next lane, and that lane; none where its
-- front stays or the buffer is empty
abbrev pub crossing : Traffic → Place → Option Transfer
crossing m from = option_map (λ c. record { to = c.to; vehicle = c.vehicle }) (crosses m from)

-- the vehicles, of a list of transfers, that enter the lane `to`, in the order of the list
abbrev pub entries_to : Place → List Transfer → List Vehicle
entries_to to entries = map (λ e. e.vehicle) (filter (λ e. is_place to e.to) entries)

-- a lane after the first half of the releases: its buffer without the front, if the lane at this place gives its front
-- in this step; else as it was
abbrev pub let_go_lane : Traffic → Place → LaneState → LaneState
let_go_lane m place lane = record lane { queue = if gives m place then drop 1 lane.queue else lane.queue }

-- the first half of the releases, on all lanes: each buffer whose front goes has lost it, and the vehicle is in no lane
unfoldable pub let_go : Traffic → Traffic
let_go m = record m { lanes = each_lane (let_go_lane m) m.lanes }

-- a lane after the second half of the releases: with the vehicle that `entry` gives for its place, if any, put with its
-- front in cell 0; else as it was
abbrev pub placed_lane : (Place → Option Vehicle) → Place → LaneState → LaneState
placed_lane entry place lane = record lane { track = with_entry (entry place) lane.track }

-- the second half of the releases on all lanes: each has the vehicle that `entry` gives for its place, if any, put with
-- its front in cell 0
unfoldable pub placed : (Place → Option Vehicle) → Traffic → Traffic
placed entry m = record m { lanes = each_lane (placed_lane entry) m.lanes }

-- the first vehicle, of a list of transfers, that enters lane p; none where none does
abbrev pub entry_in : List Transfer → Place → Option Vehicle
entry_in entries p = slice_get (entries_to p entries) 0
