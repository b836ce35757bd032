use Rattle.std.proofs.Common.{◌≡◌, ◌∙◌, sym, ap, eqb, slice_get, option_copied, option_and_then}
use Rattle.street_base.specs.declared.net.LinkSpec.{LinkSpec}
use Rattle.street_net.proofs.KeyLemmas.{find-position, copied-at}
use Rattle.street_net.proofs.keys.link_with.Goals as goal

pub returns-in_err-position : goal.returns-in_err-position
returns-in_err-position c =
    let links = c.args.spec.now.links in
    ap option_copied c.from_residual.ensures
    ∙ sym (find-position (λ (link : LinkSpec). eqb link.id c.args.id) links ∙ ap (option_and_then (slice_get links)) (sym c.in_err-position.ensures))

pub returns : goal.returns
returns c =
    let links = c.args.spec.now.links in
    let got : option_copied c.get.result ≡ slice_get c.as_slice.result.now c.in_ok-position.position = copied-at c.as_slice.result.now c.in_ok-position.position c.get.result c.get.ensures.lookup.0 c.get.ensures.lookup.1 in
    got ∙ ap (λ ls. slice_get ls c.in_ok-position.position) c.as_slice.ensures
    ∙ sym (find-position (λ (link : LinkSpec). eqb link.id c.args.id) links ∙ ap (option_and_then (slice_get links)) (sym c.in_ok-position.ensures))
