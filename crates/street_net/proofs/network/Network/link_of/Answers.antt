use Rattle.std.proofs.Common.{arith}
use Rattle.street_base.proofs.FaultLemmas.{link_of_below}
use Rattle.street_net.proofs.network.Network.link_of.Goals as goal

pub overflow_cast-position : goal.overflow_cast-position
overflow_cast-position c = omega (arith, link_of_below c.self.inside.spec c.self.invariant.faultless c.args.id c.in_ok-position.position c.in_ok-position.ensures)
