use Rattle.std.proofs.Common.{◌≡◌, length}
use Rattle.street_net.specs.Prelude.{AreKept}
use Rattle.street_net.proofs.network.Network.nexts_of_links.Given as goal

abbrev pub invariant-loop-position : goal.invariant-loop-position
invariant-loop-position l = record {
  one_each : length l.pairs.items ≡ l.position;
  kept : AreKept l.self l.pairs.items;
}
