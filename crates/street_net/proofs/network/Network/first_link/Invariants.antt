use Rattle.std.proofs.Common.{◌≡◌, ◌-◌, ◌<◌, Some, length, get_or}
use Rattle.street_base.specs.Prelude.{link_of, is_bad_entry}
use Rattle.street_net.proofs.FirstBad.{NoneBad}
use Rattle.street_net.proofs.network.Network.first_link.Given as goal

abbrev pub invariant-loop-at : goal.invariant-loop-at
invariant-loop-at l = record {
  later : 0 < l.at;
  before : link_of l.self (get_or l.plan (l.at - 1) 0) ≡ Some l.before;
  is_link : l.before < length l.self.links;
  none_bad : NoneBad (is_bad_entry l.self l.plan) l.plan l.at;
}
