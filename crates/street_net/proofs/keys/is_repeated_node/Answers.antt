use Rattle.std.proofs.Common.{◌∙◌, ap, eqb, take}
use Rattle.std.specs.List.{list_any}
use Rattle.street_base.specs.declared.net.NodeSpec.{NodeSpec}
use Rattle.street_base.proofs.Counting.{eqb-sym}
use Rattle.street_net.proofs.KeyLemmas.{list_any-keys}
use Rattle.street_net.proofs.keys.is_repeated_node.Goals as goal

pub returns : goal.returns
returns c =
    let before = take c.args.at c.args.spec.now.nodes in
    c.contains.ensures ∙ ap (list_any (eqb c.args.id)) c.requires
    ∙ list_any-keys (λ (node : NodeSpec). node.id) (eqb c.args.id) (λ (node : NodeSpec). eqb node.id c.args.id) (λ node. eqb-sym c.args.id node.id) before
