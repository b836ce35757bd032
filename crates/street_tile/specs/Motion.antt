-- What motion on a tile's lanes reads of the step, and what it does.
use Rattle.std.specs.Prelude.{◌≡◌, ℕ, ◌+◌, ◌<◌, ◌≤◌, List, ◌++◌, length, map, filter_map, slice_get, Bool, true, false, Option, Some}
use Rattle.street_base.specs.Prelude.{last_clock, is_free, Traffic, lane_at, driven, driven_lane, arrival, leaver_of}
use Rattle.street_base.specs.declared.names.Place.{Place}
use Rattle.street_base.specs.declared.record.RecordRow.{RecordRow}
use Rattle.street_net.specs.Prelude.{mouth}
use Rattle.street_lanes.specs.declared.motion.ArrivedCar.{ArrivedCar}
use Rattle.street_lanes.specs.Prelude.{LaneStands, arrived_car, Lanes, Same, Others, lane_of, place_at, IsOn, LanesStand, cells_on, Detectors, watch_of}
use Rattle.street_lanes.specs.Lanes.{IsOf}
use Rattle.street_tile.specs.declared.motion.MotionStep.{MotionStep}
use Rattle.street_record.specs.Rows.{arrival_at}
use Rattle.street_tile.specs.Tiles.{IsRoads, ShowSignals, AreBare, is_own, sizes_of}
use Rattle.street_tile.specs.TileDetectors.{KeepMeters, HaveWatched}

-- that the traffic is one that `step` may move: of the step's network and formed (`IsOn`), at the step's clock, with
-- the same greens at the step's nodes as the step's signal plans show
pub record IsOfStep (step : MotionStep) (m : Traffic) : Type 0 where
  pub on : IsOn step.net.now m
  pub in_time : m.clock ≡ step.clock
  pub signals : ShowSignals step.low (step.low + length step.signals.now) step.signals.now m

-- that the lane's link runs to one of the step's nodes, from `low` on as many as it has entries of signal plans, plan
-- or none
abbrev pub HasPlanFor : MotionStep → Place → Type 0
HasPlanFor step p = is_own step.net.now step.low (step.low + length step.signals.now) p ≡ true

-- ---- one lane

-- that lane n stands for its lane after motion, in all traffic of the step (`IsOfStep`), and `told` is the number and
-- speed of the vehicle that arrives, none if none does; other lanes, places and sizes are as they were, and there is no
-- less room
pub record DrivesLane (step : MotionStep) (n : ℕ) (old new : Lanes) (told : Option ArrivedCar) : Type 0 where
  pub same : Same old new
  pub others : Others n old new
  pub room : old.room ≤ new.room
  pub stands : (m : Traffic) → IsOfStep step m → LaneStands (lane_of old n) (lane_at m (place_at old n))
      → LaneStands (lane_of new n) (driven_lane m (place_at old n) (lane_at m (place_at old n)))
  pub arrived : (m : Traffic) → IsOfStep step m → LaneStands (lane_of old n) (lane_at m (place_at old n)) → told ≡ arrived_car (leaver_of m (place_at old n))

-- that the watches of lane n's detectors, one a meter, now hold what they see of its motion, in all traffic of the step
-- for which the lane stands; meters and size are as they were, and where `has_meters` is false the watches are, too
pub record WatchesLane (step : MotionStep) (n : ℕ) (own : Lanes) (old new : Detectors) : Type 0 where
  pub meters : new ≡ record old { watches = new.watches }
  pub bare : step.has_meters ≡ false → new ≡ old
  pub watched : (m : Traffic) → IsOfStep step m → LaneStands (lane_of own n) (lane_at m (place_at own n))
      → new.watches ≡ map (watch_of m (place_at own n)) old.meters

-- ---- all lanes of a tile

-- that the lanes may drive: of the step's network (`IsRoads`), running to nodes of the step's range, the clock not past
-- the last, an entry of detectors for each, of its length, and all bare where `has_meters` is false
pub record MayDrive (step : MotionStep) (own : Lanes) (detectors : List Detectors) : Type 0 where
  pub of : IsOf step.net.now own
  pub roads : IsRoads step.net.now
  pub in_time : step.clock ≤ last_clock
  pub nodes : (n : ℕ) → n < length own.places → HasPlanFor step (place_at own n)
  pub sized : sizes_of detectors ≡ map (cells_on step.net.now) own.places
  pub bare : step.has_meters ≡ false → AreBare detectors

-- that all lanes stand for their lanes after motion, in all traffic of the step, and the numbers and rows of those who
-- arrive stand, lane by lane, behind those of the lists before; places and sizes are as they were, and there is no less
-- room
pub record DrivesLanes (step : MotionStep) (old new : Lanes) (before after : List ℕ) (rows_before rows_after : List RecordRow) : Type 0 where
  pub same : Same old new
  pub room : old.room ≤ new.room
  pub stand : (m : Traffic) → IsOfStep step m → LanesStand old.places old.lanes m → LanesStand new.places new.lanes (driven m)
  pub arrived : (m : Traffic) → IsOfStep step m → LanesStand old.places old.lanes m → after ≡ before ++ filter_map (λ p. arrival (leaver_of m p)) old.places
  pub rows : (m : Traffic) → IsOfStep step m → LanesStand old.places old.lanes m → rows_after ≡ rows_before ++ filter_map (arrival_at m) old.places

-- that the watches of all lanes' detectors now hold what they see of the lanes' motion, in all traffic of the step for
-- which the lanes stand; meters and sizes are as they were, and where `has_meters` is false the watches are, too
pub record WatchLanes (step : MotionStep) (own : Lanes) (old new : List Detectors) : Type 0 where
  pub meters : KeepMeters old new
  pub bare : step.has_meters ≡ false → new ≡ old
  pub watched : (m : Traffic) → IsOfStep step m → LanesStand own.places own.lanes m → HaveWatched m own.places new

-- that the mouths at these lanes' slots, 2 * link + lane, say whether their cells 0 are free, in all traffic for which
-- the lanes stand; of other mouths nothing is said
abbrev pub ShowLanes : Lanes → List Bool → Type 0
ShowLanes own mouths =
    (m : Traffic) → LanesStand own.places own.lanes m → (j : ℕ) (p : Place) → slice_get own.places j ≡ Some p → mouth mouths p ≡ is_free (lane_at m p).track 0
