use Rattle.std.proofs.Common.{◌<◌, ◌≤◌, ◌∷◌, [], length, length-append, get_or, ◌∙◌, sym, ap, subst, arith, is_some, List, Some}
use Rattle.street_base.specs.declared.net.LinkSpec.{LinkSpec}
use Rattle.street_base.specs.Prelude.{most_cells, most_lanes, most_limit, node_of, no_link}
use Rattle.street_base.proofs.FaultLemmas.{node_of_below, link_keeps_limits}
use Rattle.street_net.specs.declared.briefs.Brief.{Brief}
use Rattle.street_net.specs.Prelude.{IsBrief}
use Rattle.street_net.proofs.GoodLinks.{good-link}
use Rattle.street_net.proofs.BriefLemmas.{told-more}
use Rattle.street_net.proofs.briefs.briefs_of_links.Goals as goal

pub unwrap-end-requires : goal.unwrap-end-requires
unwrap-end-requires c =
    let within : c.loop-link.link-index < length c.args.spec.now.links = rw (← c.as_slice-links.ensures) c.loop-link-test.true in
    ap is_some (c.find_node.ensures ∙ ap (λ links. node_of c.args.spec.now (get_or links c.loop-link.link-index no_link).to) c.as_slice-links.ensures)
    ∙ (good-link c.args.spec.now c.requires.faultless c.loop-link.link-index within).ends

pub overflow_cast-end : goal.overflow_cast-end
overflow_cast-end c = omega (arith, node_of_below c.args.spec.now c.requires.faultless _ c.unwrap-end.result (sym c.unwrap-end.ensures ∙ c.find_node.ensures))

pub overflow_cast-link : goal.overflow_cast-link
overflow_cast-link c =
    let within : c.loop-link.link-index < length c.args.spec.now.links = rw (← c.as_slice-links.ensures) c.loop-link-test.true in
    let few = (link_keeps_limits c.args.spec.now c.requires.faultless c.loop-link.link-index within).few_cells in
    let here : (get_or c.as_slice-links.result.now c.loop-link.link-index no_link).length ≤ most_cells = rw c.as_slice-links.ensures few in
    omega (arith, here)

pub overflow_cast-link-in-loop-link : goal.overflow_cast-link-in-loop-link
overflow_cast-link-in-loop-link c =
    let within : c.loop-link.link-index < length c.args.spec.now.links = rw (← c.as_slice-links.ensures) c.loop-link-test.true in
    let few = (link_keeps_limits c.args.spec.now c.requires.faultless c.loop-link.link-index within).few_lanes in
    let here : (get_or c.as_slice-links.result.now c.loop-link.link-index no_link).lanes ≤ most_lanes = rw c.as_slice-links.ensures few in
    omega (arith, here)

pub overflow_cast-link-in-loop-link-2 : goal.overflow_cast-link-in-loop-link-2
overflow_cast-link-in-loop-link-2 c =
    let within : c.loop-link.link-index < length c.args.spec.now.links = rw (← c.as_slice-links.ensures) c.loop-link-test.true in
    let slow = (link_keeps_limits c.args.spec.now c.requires.faultless c.loop-link.link-index within).slow in
    let here : (get_or c.as_slice-links.result.now c.loop-link.link-index no_link).limit ≤ most_limit = rw c.as_slice-links.ensures slow in
    omega (arith, here)

pub loop-link-preserved : goal.loop-link-preserved
loop-link-preserved c =
    let net = c.args.spec.now in
    let i = c.loop-link.link-index in
    let link : LinkSpec = get_or c.as_slice-links.result.now i no_link in
    let brief : Brief = record { length = link.length; end = c.new.result; lanes = link.lanes; limit = link.limit } in
    let told : IsBrief net i brief = record {
      runs_to = ap (λ ls. node_of net (get_or ls i no_link).to) (sym c.as_slice-links.ensures) ∙ sym c.find_node.ensures ∙ c.unwrap-end.ensures ∙ ap Some (sym c.new.ensures);
      same_length = ap (λ (ls : List LinkSpec). (get_or ls i no_link).length) c.as_slice-links.ensures;
      same_lanes = ap (λ (ls : List LinkSpec). (get_or ls i no_link).lanes) c.as_slice-links.ensures;
      same_limit = ap (λ (ls : List LinkSpec). (get_or ls i no_link).limit) c.as_slice-links.ensures;
    } in
    record {
      one_each = omega (arith, ap length c.in_ok-push.ensures.items, length-append c.loop-link.briefs.items (brief ∷ []), c.loop-link.invariant.one_each);
      told = λ k d low. subst (λ bs. IsBrief net k (get_or bs k d)) (sym c.in_ok-push.ensures.items) (told-more net c.loop-link.briefs.items i brief c.loop-link.invariant.one_each c.loop-link.invariant.told told k d low);
    }
