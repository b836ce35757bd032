use Rattle.std.proofs.Common.{◌≡◌, ◌≤◌, length, ap, ◌∙◌, arith}
use Rattle.street_base.specs.declared.net.NetSpec.{NetSpec}
use Rattle.street_base.proofs.FaultLemmas.{few_links}
use Rattle.street_tile.proofs.tiles.Tiles.links.Goals as goal

pub overflow_cast-result : goal.overflow_cast-result
overflow_cast-result c =
    let links : c.as_slice.result.now ≡ c.deref.result.now.links = c.as_slice.ensures ∙ ap (λ (n : NetSpec). n.links) c.spec.ensures.value in
    let few : length c.deref.result.now.links ≤ 4096 = few_links c.deref.result.now c.spec.ensures.faultless in
    omega (arith, few, ap length links)
