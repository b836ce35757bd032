use Rattle.std.proofs.Common.{◌≡◌}
use Rattle.street_yard.specs.Prelude.{IsOnList}
use Rattle.street_lanes.specs.Prelude.{Packs}
use Rattle.street_lanes.proofs.packing.pack_list.Given as goal

abbrev pub invariant-loop-car : goal.invariant-loop-car
invariant-loop-car l = record {
  packs : Packs l.fn.yard l.yard;
  on : IsOnList l.yard l.fn.list.0 l.cursor;
  dice : l.dice ≡ l.fn.dice;
}
