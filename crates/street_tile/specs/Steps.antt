-- One step of all tiles: what it needs, and what it does.
use Rattle.std.specs.Prelude.{◌≡◌, ◌<◌, ◌≤◌, List, [], length, filter_map, All}
use Rattle.street_base.specs.declared.net.NetSpec.{NetSpec}
use Rattle.street_base.specs.Prelude.{last_clock, most_workers, Traffic, changed, step, arrival, leaver_of}
use Rattle.street_record.specs.Rows.{arrival_at}
use Rattle.street_tile.specs.Tiles.{TileView, IsIdle, IsPrepared, Each, AreTiles, AllStand, nobody}
use Rattle.street_tile.specs.TileDetectors.{AllMetersStand}

-- that these tiles may make a step: all tiles of the network, at most `most_workers`, nobody on the way, no arrivals
-- left, room for a vehicle more on each lane; and they stand for some traffic before the last clock
pub record MayStep (net : NetSpec) (xs : List TileView) : Type 0 where
  pub tiles : AreTiles net xs
  pub few : length xs ≤ most_workers
  pub idle : All IsIdle xs
  pub prepared : All IsPrepared xs
  pub stand : (m : Traffic) × AllStand net xs m × (m.clock < last_clock)

-- that the tiles ys are the tiles xs after one step, whatever traffic these stood for: they stand for the next state,
-- meters too if they did, and hold numbers and rows of who arrived; they are all tiles of the network, and nobody is on
-- the way
pub record Steps (net : NetSpec) (xs ys : List TileView) : Type 0 where
  pub machine : (m : Traffic) → AllStand net xs m → AllStand net ys (step m)
  pub arrived : (m : Traffic) → AllStand net xs m → Each (λ x y. y.arrived ≡ filter_map (λ p. arrival (leaver_of (changed m) p)) x.own.places) xs ys
  pub left : (m : Traffic) → AllStand net xs m → All (λ y. y.left ≡ filter_map (arrival_at (changed m)) y.own.places) ys
  pub meters : (m : Traffic) → AllStand net xs m → AllMetersStand xs m → AllMetersStand ys (step m)
  pub tiles : AreTiles net ys
  pub handed : All (λ x. (x.handed ≡ []) × (x.coming ≡ nobody x)) ys
