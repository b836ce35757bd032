-- What entries and departures do to a tile's lanes.
use Rattle.std.specs.Prelude.{◌≡◌, ℕ, ◌<◌, List, length, map, true, Option, IsSome}
use Rattle.street_base.specs.declared.names.Place.{Place}
use Rattle.street_base.specs.Prelude.{Vehicle, is_free, Traffic, LaneState, with_entry, departed_lane}
use Rattle.street_lanes.specs.Prelude.{LaneStands, Lanes, lane_of, LanesStand, LanesGo, AllFree}
use Rattle.street_tile.specs.Halves.{Transfer, vehicle_in, placed_lane}

-- that lane n, by the own lanes' numbers, stands for its lane, whatever it was, with the vehicle of the transfer
-- `coming`, if there is one, put with its front in cell 0; claimed where that cell was free or nobody comes
abbrev pub PlacesAt : ℕ → Option Transfer → Lanes → Lanes → Type 0
PlacesAt n coming old new = (s : LaneState) → LaneStands (lane_of old n) s → (IsSome coming → is_free s.track 0 ≡ true)
    → LaneStands (lane_of new n) (record s { track = with_entry (vehicle_in coming) s.track })

-- that each lane stands for its lane, whatever it was, with the vehicle that `coming` has at the lane's own number, if
-- any, put with its front in cell 0; claimed where cell 0 of each lane that somebody enters was free
abbrev pub PlaceAll : List (Option Transfer) → Lanes → Lanes → Type 0
PlaceAll coming old new =
    (m : Traffic) (entry : Place → Option Vehicle) → LanesStand old.places old.lanes m → map vehicle_in coming ≡ map entry old.places
    → AllFree old.places m entry → LanesGo (placed_lane entry) m new.places new.lanes

-- that each lane stands for its lane after departures at this clock, whatever lane it stood for: if cell 0 is free, the
-- next who waits and whose depart has come stands there
abbrev pub DepartAll : ℕ → Lanes → Lanes → Type 0
DepartAll clock old new = (n : ℕ) (s : LaneState) → n < length old.places → LaneStands (lane_of old n) s → LaneStands (lane_of new n) (departed_lane clock s)
