use Rattle.std.proofs.Common.{◌≡◌, length}
use Rattle.street_base.specs.Prelude.{with_arrivals}
use Rattle.street_tile.specs.Prelude.{Each, all_arrived, SameButArrived}
use Rattle.street_engine.specs.Prelude.{AreComing}
use Rattle.street_engine.proofs.ends.note_arrivals.Given as goal

abbrev pub invariant-loop-number : goal.invariant-loop-number
invariant-loop-number l = record {
  network : l.tiles.network ≡ l.fn.tiles.network;
  long : length l.tiles.tiles ≡ length l.fn.tiles.tiles;
  same : Each SameButArrived l.fn.tiles.tiles l.tiles.tiles;
  coming : AreComing (all_arrived l.tiles.tiles) l.ends.ends;
  ends : with_arrivals l.clock (all_arrived l.tiles.tiles) l.ends.ends ≡ with_arrivals l.clock (all_arrived l.fn.tiles.tiles) l.fn.ends.ends;
}

abbrev pub decreases-loop-number : goal.decreases-loop-number
decreases-loop-number l = length (all_arrived l.tiles.tiles)
