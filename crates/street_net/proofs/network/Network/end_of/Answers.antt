use Rattle.std.proofs.Common.{◌∙◌, ap, slice_get, ◌==◌, option_and_then}
use Rattle.street_base.specs.declared.net.NodeSpec.{NodeSpec}
use Rattle.street_base.specs.Prelude.{link_at}
use Rattle.street_net.proofs.KeyLemmas.{find-position}
use Rattle.street_net.proofs.BriefLemmas.{told-at}
use Rattle.street_net.proofs.network.Network.end_of.Goals as goal

pub returns-clause-node : goal.returns-clause-node
returns-clause-node c =
    let net = c.args.self.now in
    let told = told-at c.self.inside.spec net c.self.view_is c.self.inside.briefs.items c.self.invariant.briefs_kept c.args.link c.position.result c.index.result.now c.requires c.position.ensures c.index.ensures in
    find-position (λ (node : NodeSpec). node.id == (link_at net c.args.link).to) net.nodes ∙ ap (option_and_then (slice_get net.nodes)) told.runs_to
