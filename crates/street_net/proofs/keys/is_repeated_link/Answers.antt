use Rattle.std.proofs.Common.{◌∙◌, ap, eqb, take}
use Rattle.std.specs.List.{list_any}
use Rattle.street_base.specs.declared.net.LinkSpec.{LinkSpec}
use Rattle.street_base.proofs.Counting.{eqb-sym}
use Rattle.street_net.proofs.KeyLemmas.{list_any-keys}
use Rattle.street_net.proofs.keys.is_repeated_link.Goals as goal

pub returns : goal.returns
returns c =
    let before = take c.args.at c.args.spec.now.links in
    c.contains.ensures ∙ ap (list_any (eqb c.args.id)) c.requires
    ∙ list_any-keys (λ (link : LinkSpec). link.id) (eqb c.args.id) (λ (link : LinkSpec). eqb link.id c.args.id) (λ link. eqb-sym c.args.id link.id) before
