use Rattle.std.proofs.Common.{◌≡◌, ℕ, ◌<◌, length, get_or, Vec, filter}
use Rattle.std.specs.declared.alloc.Global.{Global}
use Rattle.street_base.specs.declared.names.Place.{Place}
use Rattle.street_net.specs.Prelude.{ends_at}
use Rattle.street_net.proofs.InLanes.{places_below}
use Rattle.street_net.proofs.lanes.lanes_by_end.Given as goal

abbrev pub invariant-loop-at : goal.invariant-loop-at
invariant-loop-at l = record {
  one_each : length l.lists.items ≡ length l.spec.nodes;
  lists : (node : ℕ) (d : Vec Place Global) → node < length l.spec.nodes → (get_or l.lists.items node d).items ≡ filter (ends_at l.spec node) (places_below l.spec l.at);
}
