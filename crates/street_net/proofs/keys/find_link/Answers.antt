use Rattle.std.proofs.Common.{◌∙◌, ap, eqb, position}
use Rattle.street_base.specs.declared.net.LinkSpec.{LinkSpec}
use Rattle.street_base.proofs.Counting.{eqb-sym}
use Rattle.street_net.proofs.KeyLemmas.{position-keys}
use Rattle.street_net.proofs.keys.find_link.Goals as goal

pub returns : goal.returns
returns c =
    let links = c.args.spec.now.links in
    c.get_index_of.ensures.index ∙ ap (position (eqb c.args.id)) c.requires
    ∙ position-keys (λ (link : LinkSpec). link.id) (eqb c.args.id) (λ (link : LinkSpec). eqb link.id c.args.id) (λ link. eqb-sym c.args.id link.id) links
