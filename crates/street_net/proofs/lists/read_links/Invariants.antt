use Rattle.std.proofs.Common.{◌≡◌, take}
use Rattle.street_base.specs.Prelude.{is_bad_link}
use Rattle.street_net.specs.Prelude.{ids_of_links}
use Rattle.street_net.proofs.FirstBad.{NoneBad}
use Rattle.street_net.proofs.lists.read_links.Given as goal

abbrev pub invariant-loop-at : goal.invariant-loop-at
invariant-loop-at l = record { keys : l.ids.keys ≡ ids_of_links (take l.at l.spec.links); none_bad : NoneBad (is_bad_link l.spec) l.spec.links l.at }
