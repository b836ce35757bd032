use Rattle.std.proofs.Common.{◌≡◌, ◌≤◌, length, get_or, ap, ◌∙◌, arith}
use Rattle.street_base.specs.declared.net.NetSpec.{NetSpec}
use Rattle.street_base.specs.Prelude.{most_cells, no_link}
use Rattle.street_base.proofs.FaultLemmas.{link_below, link_keeps_limits}
use Rattle.street_lanes.proofs.Fresh.{own-link}
use Rattle.street_tile.proofs.cut.detectors_of.Goals as goal

pub offset_bounds-links-position : goal.offset_bounds-links-position
offset_bounds-links-position c =
    let there = own-link c.args.net.now c.args.own.now c.loop-at.at-index c.at-item.result c.requires c.loop-at-test.true c.at-item.is in
    let few = link_below c.args.net.now c.spec.ensures.faultless c.at-item.result.link there in
    omega (arith, few, c.position.ensures)

pub bounds-links-position : goal.bounds-links-position
bounds-links-position c =
    let there = own-link c.args.net.now c.args.own.now c.loop-at.at-index c.at-item.result c.requires c.loop-at-test.true c.at-item.is in
    let same : length c.as_slice-links.result.now ≡ length c.args.net.now.links = ap length (c.as_slice-links.ensures ∙ ap (λ (n : NetSpec). n.links) c.spec.ensures.value) in
    omega (arith, there, same, c.position.ensures)

pub overflow_cast-length : goal.overflow_cast-length
overflow_cast-length c =
    let there = own-link c.args.net.now c.args.own.now c.loop-at.at-index c.at-item.result c.requires c.loop-at-test.true c.at-item.is in
    let few = (link_keeps_limits c.args.net.now c.spec.ensures.faultless c.at-item.result.link there).few_cells in
    let here : (get_or c.as_slice-links.result.now c.position.result no_link).length ≤ most_cells = rw (c.as_slice-links.ensures, c.spec.ensures.value, c.position.ensures) few in
    omega (arith, here)
