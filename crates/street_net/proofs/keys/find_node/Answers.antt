use Rattle.std.proofs.Common.{◌∙◌, ap, eqb, position}
use Rattle.street_base.specs.declared.net.NodeSpec.{NodeSpec}
use Rattle.street_base.proofs.Counting.{eqb-sym}
use Rattle.street_net.proofs.KeyLemmas.{position-keys}
use Rattle.street_net.proofs.keys.find_node.Goals as goal

pub returns : goal.returns
returns c =
    let nodes = c.args.spec.now.nodes in
    c.get_index_of.ensures.index ∙ ap (position (eqb c.args.id)) c.requires
    ∙ position-keys (λ (node : NodeSpec). node.id) (eqb c.args.id) (λ (node : NodeSpec). eqb node.id c.args.id) (λ node. eqb-sym c.args.id node.id) nodes
