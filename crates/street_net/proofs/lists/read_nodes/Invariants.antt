use Rattle.std.proofs.Common.{◌≡◌, take}
use Rattle.street_base.specs.Prelude.{is_bad_node}
use Rattle.street_net.specs.Prelude.{ids_of_nodes}
use Rattle.street_net.proofs.FirstBad.{NoneBad}
use Rattle.street_net.proofs.lists.read_nodes.Given as goal

abbrev pub invariant-loop-at : goal.invariant-loop-at
invariant-loop-at l = record { keys : l.ids.keys ≡ ids_of_nodes (take l.at l.spec.nodes); none_bad : NoneBad (is_bad_node l.spec) l.spec.nodes l.at }
