use Rattle.std.proofs.Common.{◌≡◌, ℕ, ◌<◌, Some, slice_get}
use Rattle.street_base.specs.declared.names.Place.{Place}
use Rattle.street_base.specs.Prelude.{Traffic, lane_at, in_lane}
use Rattle.street_lanes.specs.Prelude.{IsOn}
use Rattle.street_tile.specs.Prelude.{TileStandsFor, HaveAtMostOne}
use Rattle.street_tile.proofs.tile.Tile.find.Given as goal

abbrev pub invariant-loop-n : goal.invariant-loop-n
invariant-loop-n l = (m : Traffic) → IsOn l.net m → TileStandsFor l.self m → HaveAtMostOne l.self.own.places m l.number → (k : ℕ) (p : Place) → k < l.n → slice_get l.self.own.places k ≡ Some p → in_lane l.number (lane_at m p) ≡ 0
