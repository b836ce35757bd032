use Rattle.std.proofs.Common.{◌≡◌, ◌<◌, ◌≤◌, length, get_or, ap, sym, ◌∙◌, arith}
use Rattle.std.proofs.lemmas.Bool.{ltb-true}
use Rattle.std.proofs.lemmas.List.{get_or_default}
use Rattle.street_base.specs.declared.net.NetSpec.{NetSpec}
use Rattle.street_base.specs.declared.net.LinkSpec.{LinkSpec}
use Rattle.street_base.specs.Prelude.{most_lanes, no_link}
use Rattle.street_net.proofs.GoodLinks.{good-link}
use Rattle.street_tile.proofs.tiles.Tiles.lanes_of.Goals as goal

pub overflow_cast-result : goal.overflow_cast-result
overflow_cast-result c =
    let links : c.as_slice.result.now ≡ c.deref.result.now.links = c.as_slice.ensures ∙ ap (λ (n : NetSpec). n.links) c.spec.ensures.value in
    let long = ap length links in
    let at = c.position.ensures in
    let here : c.position.result < length c.as_slice.result.now = ltb-true _ _ (sym c.in-Some.ensures.lookup.0) in
    let few = (good-link c.deref.result.now c.spec.ensures.faultless c.args.link (omega arith)).few_lanes in
    let at_most : (get_or c.as_slice.result.now c.position.result no_link).lanes ≤ most_lanes = rw (links, c.position.ensures) few in
    let lanes = ap (λ (l : LinkSpec). l.lanes) (c.in-Some.ensures.lookup.1 ∙ get_or_default c.as_slice.result.now c.position.result _ no_link here) in
    omega (arith, at_most, lanes)
