use Rattle.std.proofs.Common.{◌≡◌, ◌*◌, ◌≤◌, take, sum_by}
use Rattle.street_base.specs.Prelude.{Traffic}
use Rattle.street_tile.specs.Prelude.{HaveStepped, all_places}
use Rattle.street_tile.specs.Record.{arrived_at}
use Rattle.street_tile.proofs.tiles.Tiles.arrivals.Given as goal

abbrev pub invariant-loop-i : goal.invariant-loop-i
invariant-loop-i l = record {
  few : l.all ≤ 8192 * l.i;
  count : (m : Traffic) → HaveStepped l.self m → l.all ≡ sum_by (arrived_at m) (all_places (take l.i l.self.tiles));
}
