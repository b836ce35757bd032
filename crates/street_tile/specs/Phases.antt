-- The phases of a tile: each speaks of the whole machine, whatever state the tile stood for.
use Rattle.std.specs.Prelude.{◌≡◌, ℕ, ◌+◌, ◌≤◌, List, map, filter_map, Bool, Option}
use Rattle.street_base.specs.declared.net.NetSpec.{NetSpec}
use Rattle.street_base.specs.Prelude.{Vehicle, Traffic, departed, arrival, leaver_of, changed, driven}
use Rattle.street_base.specs.declared.names.Place.{Place}
use Rattle.street_lanes.specs.Prelude.{Lanes, AllFree, IsOn, LanesStand}
use Rattle.street_tile.specs.Halves.{crossing, let_go, placed}
use Rattle.street_record.specs.Rows.{arrival_at}
use Rattle.street_tile.specs.Tiles.{TileView, TileStandsFor, SameTile, Shows, ShowsOwn, nobody}
use Rattle.street_tile.specs.TileDetectors.{KeepMeters, HaveWatched, MetersStand, noted_by}

-- that, whatever traffic of the network tile x stood for, tile y stands for f of it; nodes, places, sizes, loose
-- vehicles and odds (`SameTile`), hand-overs and those who come are as they were, and there is no less room
pub record GoesBy (net : NetSpec) (f : Traffic → Traffic) (x y : TileView) : Type 0 where
  pub same : SameTile x y
  pub handed : y.handed ≡ x.handed
  pub coming : y.coming ≡ x.coming
  pub room : x.own.room ≤ y.own.room
  pub stands : (m : Traffic) → IsOn net m → TileStandsFor x m → TileStandsFor y (f m)

-- that, whatever traffic of the network at this clock the lanes `old` stood for, the lanes `new` stand for it after its
-- lane changes
abbrev pub ChangeLanes : NetSpec → ℕ → Lanes → Lanes → Type 0
ChangeLanes net clock old new = (m : Traffic) → IsOn net m → m.clock ≡ clock
    → LanesStand old.places old.lanes m → LanesStand new.places new.lanes (changed m)

-- that tile y is tile x after lane changes, in all traffic that x stood for; its clock, arrived numbers, detectors and
-- those on the way are as they were, and it has no less room (of the rows `left` nothing is said)
pub record LanePhase (net : NetSpec) (x y : TileView) : Type 0 where
  pub goes : GoesBy net changed x y
  pub clock : y.clock ≡ x.clock
  pub arrived : y.arrived ≡ x.arrived
  pub detectors : y.detectors ≡ x.detectors

-- that tile y is tile x after motion, in all traffic that x stood for; it holds the numbers and rows of who arrived,
-- lane by lane, its mouths say whether own cells 0 are free, and its watches have seen the motion
pub record MotionPhase (net : NetSpec) (x y : TileView) : Type 0 where
  pub goes : GoesBy net driven x y
  pub arrived : (m : Traffic) → IsOn net m → TileStandsFor x m → y.arrived ≡ filter_map (λ p. arrival (leaver_of m p)) x.own.places
  pub left : (m : Traffic) → IsOn net m → TileStandsFor x m → y.left ≡ filter_map (arrival_at m) x.own.places
  pub detectors : KeepMeters x.detectors y.detectors
  pub watched : (m : Traffic) → IsOn net m → TileStandsFor x m → HaveWatched m x.own.places y.detectors
  pub shown : ShowsOwn y

-- that tile y is tile x after it let go the fronts that go, in all traffic that x stood for and of which the mouths
-- `view` show each cell 0; these are then its hand-overs, buffer by buffer; who comes, arrived numbers, rows and
-- detectors are as they were, and there is no less room
pub record ReleasePhase (net : NetSpec) (view : List Bool) (x y : TileView) : Type 0 where
  pub same : SameTile x y
  pub arrived : y.arrived ≡ x.arrived
  pub left : y.left ≡ x.left
  pub coming : y.coming ≡ x.coming
  pub detectors : y.detectors ≡ x.detectors
  pub room : x.own.room ≤ y.own.room
  pub stands : (m : Traffic) → IsOn net m → Shows net view m → TileStandsFor x m → TileStandsFor y (let_go m)
  pub handed : (m : Traffic) → IsOn net m → Shows net view m → TileStandsFor x m → y.handed ≡ filter_map (crossing m) x.own.places

-- that tile y is tile x after those who come were put in cells 0, claimed where these were free, and then departures;
-- nobody comes to it then; clock, hand-overs, arrived numbers, rows and detectors are as they were
pub record EnterPhase (net : NetSpec) (x y : TileView) : Type 0 where
  pub same : SameTile x y
  pub clock : y.clock ≡ x.clock
  pub handed : y.handed ≡ x.handed
  pub arrived : y.arrived ≡ x.arrived
  pub left : y.left ≡ x.left
  pub coming : y.coming ≡ nobody x
  pub detectors : y.detectors ≡ x.detectors
  pub stands : (m : Traffic) (entry : Place → Option Vehicle) → IsOn net m → TileStandsFor x m → x.coming ≡ map entry x.own.places
      → AllFree x.own.places m entry → TileStandsFor y (departed (placed entry m))

-- the traffic with its clock one later, and all else as it was
unfoldable pub ticked : Traffic → Traffic
ticked m = record m { clock = m.clock + 1 }

-- that tile y is tile x with its clock one later, arrived numbers and rows as they were; its meters stand for the
-- detectors with the step noted, if they stood for them before and the watches had seen the step's motion from the
-- traffic `before`
pub record MeterPhase (net : NetSpec) (x y : TileView) : Type 0 where
  pub goes : GoesBy net ticked x y
  pub arrived : y.arrived ≡ x.arrived
  pub left : y.left ≡ x.left
  pub noted : (before m : Traffic) → IsOn net m → TileStandsFor x m → HaveWatched before x.own.places x.detectors
      → MetersStand x m → MetersStand y (noted_by before m)

-- that P leads from x to some tile between, and Q from that tile to z
pub record Then (P Q : TileView → TileView → Type 0) (x z : TileView) : Type 0 where
  pub between : TileView
  pub first : P x between
  pub second : Q between z
