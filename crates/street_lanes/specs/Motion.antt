-- Motion on one lane of a tile.
use Rattle.std.specs.Prelude.{◌≡◌, ◌⊎◌, ℕ, ◌+◌, ◌<◌, ◌≤◌, nat_lt, List, [], ◌∷◌, ◌++◌, length, map, Bool, true, false, ◌&&◌, Option, Some, None}
use Rattle.std.specs.Prelude.{if◌then◌else◌, option_to_list}
use Rattle.std.specs.Option.{option_map_or}
use Rattle.street_base.specs.declared.car.Car.{Car}
use Rattle.street_base.specs.declared.net.NetSpec.{NetSpec}
use Rattle.street_base.specs.Prelude.{last_clock, link_at, end_node, serves, Vehicle, vehicle_of, next_link, is_on_last, SignalPlan, is_green}
use Rattle.street_base.specs.Prelude.{Traffic, lane_at, plan_at, drive_on, leaver_of, driven_lane}
use Rattle.street_base.specs.declared.names.Place.{Place}
use Rattle.street_gap.specs.declared.closures.Stretch.{Stretch}
use Rattle.street_yard.specs.Prelude.{Yard, list_at, car_of, IsLane}
use Rattle.street_rule.specs.declared.watch.Watch.{Watch}
use Rattle.street_rule.specs.Prelude.{watched}
use Rattle.street_lanes.specs.declared.motion.ArrivedCar.{ArrivedCar}
use Rattle.street_lanes.specs.declared.motion.Leg.{Leg}
use Rattle.street_lanes.specs.Views.{LaneView, LaneStands, IsLaneOf}
use Rattle.street_lanes.specs.Lanes.{Lanes, lane_of, place_at, Same, Others}
use Rattle.street_lanes.specs.Lists.{cells_list, buffer_list, cars_on, lane_seen, NoneLoose, Touches}

-- ---- the traffic of a step

-- that two signal plans show the same turns green in every step, for each place and next link; where there is no plan,
-- all turns are green in all steps
abbrev pub PlanStands : Option SignalPlan → Option SignalPlan → Type 0
PlanStands plan other = (place : Place) (next step : ℕ) → is_green plan place next step ≡ is_green other place next step

-- that the traffic is of this network, at this clock, which is not past the last one, and that `signal` shows the same
-- greens as the plan of the node to which the lane at p runs
pub record IsStepOf (net : NetSpec) (signal : Option SignalPlan) (step : ℕ) (p : Place) (m : Traffic) : Type 0 where
  pub network : m.network ≡ net
  pub clock : m.clock ≡ step
  pub in_time : step ≤ last_clock
  pub plan : PlanStands signal (plan_at m p.link)

-- ---- the exit

-- whether so many `buffered` vehicles are fewer than the capacity of the node to which the lane's link runs; false
-- where there is no such node
abbrev pub has_room : NetSpec → Place → ℕ → Bool
has_room net place buffered = option_map_or (λ node. nat_lt buffered node.capacity) (end_node net place.link) false

-- whether the lane's exit is open to a vehicle whose next link is `next`: always where `next` is none; else where the
-- lane has a turn to it that is green (as all are without a plan), and `buffered` is below the node's capacity
abbrev pub opens_to : NetSpec → Option SignalPlan → ℕ → Place → ℕ → Option ℕ → Bool
opens_to net plan step place buffered next =
    option_map_or (λ next. serves net place next && is_green plan place next step && has_room net place buffered) next true

-- whether a lane's exit is open to this vehicle, with so many `buffered`: on its last link always, else where its turn
-- is there and green and the buffer has room (`opens_to`)
abbrev pub is_open_to : NetSpec → Option SignalPlan → ℕ → Place → ℕ → Vehicle → Bool
is_open_to net plan step place buffered v = opens_to net plan step place buffered (next_link v)

-- the count of cells of a lane at a place, which is the length of its link
abbrev pub cells_on : NetSpec → Place → ℕ
cells_on net p = (link_at net p.link).length

-- that a vehicle with its front in this cell cannot pass the lane's end in one step, as `cell` and the link's limit add
-- up to less than its length; and that the limit is at most 16
abbrev pub IsFarFrom : NetSpec → Place → ℕ → Type 0
IsFarFrom net p cell = ((link_at net p.link).limit ≤ 16) × (cell + (link_at net p.link).limit < cells_on net p)

-- that `exit` says whether the lane's exit is open to the car (`is_open_to`), with so many `buffered`; or that the car
-- is too far from the lane's end for the exit to matter, and `exit` may say either
abbrev pub IsToldExit : NetSpec → Option SignalPlan → ℕ → Place → ℕ → Car → Bool → Type 0
IsToldExit net plan step p buffered car exit = IsFarFrom net p car.cell ⊎ (exit ≡ is_open_to net plan step p buffered (vehicle_of car))

-- that `exit` says whether the leg's lane lets out the car of key `front` (`is_open_to`), with as many in the buffer as
-- on list `buffer`; it may say either where that car is far from the end, or the key has no car
abbrev pub TellsExit : Yard → Leg → ℕ → ℕ → Bool → Type 0
TellsExit y leg buffer front exit =
    (car : Car) → car_of y front ≡ Some car → IsToldExit leg.net.now leg.signal.now leg.clock leg.at (length (list_at y buffer)) car exit

-- ---- a leaver

-- what a leaver adds to its buffer's list: the car with `ready` as the step from which it may go on; nothing where it
-- is on its last link
abbrev pub behind_all : ℕ → Car → List Car
behind_all ready car = if is_on_last (vehicle_of car) then [] else record car { step = ready } ∷ []

-- the number and speed of a leaver that is on its last link, as of a vehicle that arrives; none of any other leaver, or
-- of nobody
abbrev pub arrived_car : Option Vehicle → Option ArrivedCar
arrived_car None = None
arrived_car (Some v) = if is_on_last v then Some (record { number = v.number; speed = v.speed }) else None

-- that a car which left its lane's cells is where it belongs: on its last link it is taken out and `told` as arrived;
-- else `told` is none, and it is the last of `list`, the buffer's, ready at step `ready`; other lists are as they were
pub record Settles (list ready : ℕ) (car : Car) (old new : Yard) (told : Option ArrivedCar) : Type 0 where
  pub arrived : told ≡ arrived_car (Some (vehicle_of car))
  pub touches : Touches (list ∷ []) old new
  pub room : new.room ≡ old.room + length (option_to_list told)
  pub queue : cars_on new list ≡ cars_on old list ++ behind_all ready car

-- ---- the lane

-- that P holds of all traffic of this network, clock and signal plan whose lane at p is one that `lane` shows
-- (`IsLaneOf`); nothing is claimed of other traffic
abbrev pub WhereSeen : NetSpec → Option SignalPlan → ℕ → Place → LaneView → (Traffic → Type 0) → Type 0
WhereSeen net signal step p lane P = (m : Traffic) → IsStepOf net signal step p m → IsLaneOf lane (lane_at m p) → P m

-- that the lists of lane n show its lane after motion, whatever lane at p they showed before; `told` is who arrives,
-- taken out of the yard, or none; the watches `before` became `after`; lists but those of its cells and buffer are as
-- they were
pub record MovesLane (net : NetSpec) (signal : Option SignalPlan) (step : ℕ) (p : Place) (closed : List Stretch) (n : ℕ)
    (old new : Yard) (told : Option ArrivedCar) (before after : List Watch) : Type 0 where
  pub touches : Touches (cells_list n ∷ buffer_list n ∷ []) old new
  pub room : new.room ≡ old.room + length (option_to_list told)
  pub none_loose : NoneLoose old → NoneLoose new
  pub lane : IsLane new (cells_list n) (cells_on net p)
  pub goes : WhereSeen net signal step p (lane_seen old closed (cells_on net p) n)
      (λ m. IsLaneOf (lane_seen new closed (cells_on net p) n) (driven_lane m p (lane_at m p)))
  pub arrived : WhereSeen net signal step p (lane_seen old closed (cells_on net p) n) (λ m. told ≡ arrived_car (leaver_of m p))
  pub watched : WhereSeen net signal step p (lane_seen old closed (cells_on net p) n) (λ m. after ≡ map (watched (drive_on m p) (lane_at m p).track) before)

-- that motion was made on the lists of the leg's lane, by its network, signal plan, clock, place and closed stretches
-- (`MovesLane`): `told` is who arrives, and the watches `before` became `after`
abbrev pub MovesLeg : Leg → Yard → Yard → Option ArrivedCar → List Watch → List Watch → Type 0
MovesLeg leg old new told before after =
    MovesLane leg.net.now leg.signal.now leg.clock leg.at leg.closures.now leg.lane old new told before after

-- that P holds of all traffic of this network, clock and signal plan whose lane, at the place of lane n, is one that
-- lane n stands for; nothing is claimed of other traffic
abbrev pub WhereStands : NetSpec → Option SignalPlan → ℕ → ℕ → Lanes → (Traffic → Type 0) → Type 0
WhereStands net signal step n x P = (m : Traffic) → IsStepOf net signal step (place_at x n) m → LaneStands (lane_of x n) (lane_at m (place_at x n)) → P m

-- that lane n stands for its lane after motion, whatever lane it stood for; `told` is who arrives, if anybody, and
-- there is room for as many more; the watches `before` became `after`; places, sizes, loose vehicles, odds (`Same`) and
-- other lanes are as they were
pub record DrivesAt (net : NetSpec) (signal : Option SignalPlan) (step n : ℕ) (x y : Lanes) (told : Option ArrivedCar) (before after : List Watch) : Type 0 where
  pub same : Same x y
  pub others : Others n x y
  pub room : y.room ≡ x.room + length (option_to_list told)
  pub goes : WhereStands net signal step n x (λ m. LaneStands (lane_of y n) (driven_lane m (place_at x n) (lane_at m (place_at x n))))
  pub arrived : WhereStands net signal step n x (λ m. told ≡ arrived_car (leaver_of m (place_at x n)))
  pub watched : WhereStands net signal step n x (λ m. after ≡ map (watched (drive_on m (place_at x n)) (lane_at m (place_at x n)).track) before)
