-- The phases of a step and its parts, as workers make them, by their numbers. Phases: 0 lane changes, 1 motion, 2
-- releases, 3 entries and departures, any other detectors. As a part 5 is lane changes and motion, 6 entries,
-- departures and detectors. Shown are the mouths, by which releases go.
use Rattle.std.specs.Prelude.{ℕ, ◌≡◌, ◌*◌, ◌<◌, ◌≤◌, List, Bool, [], length, All}
use Rattle.std.specs.Fn.{Shared}
use denote.Ref.{Bor, MutBor}
use Rattle.std.proofs.Common.{zero, suc}
use Rattle.street_base.specs.declared.net.NetSpec.{NetSpec}
use Rattle.street_base.specs.Prelude.{last_clock, most_workers}
use Rattle.street_tile.specs.Tiles.{TileView, IsTileOf, IsPrepared, Each}
use Rattle.street_tile.specs.Phases.{LanePhase, MotionPhase, ReleasePhase, EnterPhase, MeterPhase, Then}

-- that a tile of the network may run this phase: for motion (1) nobody arrived in it and a clock before the last, for
-- releases (2) no hand-overs and two marks a link in `shown`, for entries (3) room, for detectors (4 on) that clock
abbrev pub MayRun : NetSpec → ℕ → List Bool → TileView → Type 0
MayRun net zero shown x = IsTileOf net x
MayRun net (suc zero) shown x = IsTileOf net x × (x.arrived ≡ []) × (x.clock < last_clock)
MayRun net (suc (suc zero)) shown x = IsTileOf net x × (x.handed ≡ []) × (length shown ≡ 2 * length net.links)
MayRun net (suc (suc (suc zero))) shown x = IsTileOf net x × IsPrepared x
MayRun net phase shown x = IsTileOf net x × (x.clock < last_clock)

-- that the phase of this number was run on tile x and made y: 0 lane changes, 1 motion, 2 releases by the mouths
-- `shown`, 3 entries and departures, any other the detectors' notes
abbrev pub Runs : NetSpec → ℕ → List Bool → TileView → TileView → Type 0
Runs net zero shown x y = LanePhase net x y
Runs net (suc zero) shown x y = MotionPhase net x y
Runs net (suc (suc zero)) shown x y = ReleasePhase net shown x y
Runs net (suc (suc (suc zero))) shown x y = EnterPhase net x y
Runs net phase shown x y = MeterPhase net x y

-- that a tile may be given this part of a step: part 5, lane changes and motion, needs no arrivals left and a clock
-- before the last; part 6, entries to detectors, room and that clock; any other, what its phase needs
abbrev pub MayWork : NetSpec → ℕ → List Bool → TileView → Type 0
MayWork net (suc (suc (suc (suc (suc zero))))) shown x = IsTileOf net x × (x.arrived ≡ []) × (x.clock < last_clock)
MayWork net (suc (suc (suc (suc (suc (suc zero)))))) shown x = IsTileOf net x × IsPrepared x × (x.clock < last_clock)
MayWork net phase shown x = MayRun net phase shown x

-- that this part of a step was made on tile x and left y: part 5 is lane changes, then motion, part 6 entries and
-- departures, then detectors, any other the phase of that number, releases by the mouths `shown`
abbrev pub DoesWork : NetSpec → ℕ → List Bool → TileView → TileView → Type 0
DoesWork net (suc (suc (suc (suc (suc zero))))) shown x y = Then (LanePhase net) (MotionPhase net) x y
DoesWork net (suc (suc (suc (suc (suc (suc zero)))))) shown x y = Then (EnterPhase net) (MeterPhase net) x y
DoesWork net phase shown x y = Runs net phase shown x y

-- that the closure g may be called on at most `most_workers` tiles, each of which may be given the part (`MayWork`),
-- and leaves as many tiles, each with that part made of it (`DoesWork`)
pub record MakesParts {F : Type 0}
    (g : Shared F (Bor NetSpec × (ℕ × (Bor (List Bool) × (MutBor (List TileView) × Unit {0})))) (Unit {0} × (MutBor (List TileView) × Unit {0})))
    (f : F) : Type 0 where
  pub may : (net : Bor NetSpec) (part : ℕ) (shown : Bor (List Bool)) (tiles : MutBor (List TileView)) → length tiles.now ≤ most_workers
      → All (MayWork net.now part shown.now) tiles.now
      → g.pre f (net, (part, (shown, (tiles, tt))))
  pub does : (net : Bor NetSpec) (part : ℕ) (shown : Bor (List Bool)) (tiles left : MutBor (List TileView))
      → g.post f (net, (part, (shown, (tiles, tt)))) (tt, (left, tt))
      → (length left.now ≡ length tiles.now) × Each (DoesWork net.now part shown.now) tiles.now left.now
