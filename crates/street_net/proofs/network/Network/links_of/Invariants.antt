use Rattle.std.proofs.Common.{◌≡◌, take, filter_map}
use Rattle.street_base.specs.Prelude.{link_of}
use Rattle.street_net.proofs.network.Network.links_of.Given as goal

abbrev pub invariant-loop-id : goal.invariant-loop-id
invariant-loop-id l = l.links.items ≡ filter_map (link_of l.self) (take l.id-index l.plan)
