use Rattle.std.proofs.Common.{◌≡◌, ◌+◌, ◌-◌, ◌≤◌, map, length, Option}
use Rattle.street_base.specs.declared.names.Place.{Place}
use Rattle.street_base.specs.Prelude.{Vehicle, Traffic}
use Rattle.street_lanes.specs.Prelude.{Same, LanesStand, AllFree}
use Rattle.street_tile.specs.Prelude.{placed_lane, vehicle_in}
use Rattle.street_tile.proofs.SameLanes.{LanesDone}
use Rattle.street_tile.proofs.Slots.{TakenTo}
use Rattle.street_tile.proofs.entries.place_comers.Given as goal

abbrev pub invariant-loop-n : goal.invariant-loop-n
invariant-loop-n l = record {
  within : l.n ≤ length l.fn.own.places;
  same : Same l.fn.own l.own;
  room : length l.fn.own.places ≤ l.own.room + l.n;
  done : (m : Traffic) (entry : Place → Option Vehicle) → LanesStand l.fn.own.places l.fn.own.lanes m → map vehicle_in l.fn.coming ≡ map entry l.fn.own.places → AllFree l.fn.own.places m entry → LanesDone (placed_lane entry) m l.fn.own l.n l.own;
  taken : TakenTo l.fn.coming l.n l.coming;
}

abbrev pub decreases-loop-n : goal.decreases-loop-n
decreases-loop-n l = length l.fn.own.places - l.n
