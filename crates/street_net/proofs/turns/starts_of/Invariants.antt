use Rattle.std.proofs.Common.{◌≡◌, length}
use Rattle.street_net.specs.Prelude.{AreStarts}
use Rattle.street_net.proofs.turns.starts_of.Given as goal

abbrev pub invariant-loop-list : goal.invariant-loop-list
invariant-loop-list l = record {
  one_each : length l.starts.items ≡ l.list;
  cut : AreStarts l.starts.items l.turns;
}
