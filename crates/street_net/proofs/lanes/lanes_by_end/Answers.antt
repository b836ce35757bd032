use Rattle.std.proofs.Common.{◌≡◌, ◌+◌, ◌<◌, length, get_or, set, Vec, refl, sym, ◌∙◌, ap, arith, inl, inr, Some, filter}
use Rattle.std.specs.declared.alloc.Global.{Global}
use Rattle.std.proofs.lemmas.Bool.{cases_eq}
use Rattle.std.proofs.lemmas.List.{length-set, get_or-set_same, get_or-set_other}
use Rattle.street_base.specs.Prelude.{link_at, node_of}
use Rattle.street_base.proofs.FaultLemmas.{link_below}
use Rattle.street_base.specs.declared.names.Place.{Place}
use Rattle.street_net.specs.Prelude.{ends_at}
use Rattle.street_net.proofs.GoodLinks.{node_of_within}
use Rattle.street_net.proofs.InLanes.{places_below, landed, landed-elsewhere}
use Rattle.street_net.proofs.BriefLemmas.{told-at}
use Rattle.street_net.proofs.lanes.lanes_by_end.Goals as goal

pub overflow_cast-at : goal.overflow_cast-at
overflow_cast-at c =
    let within : c.loop-at.at < length c.args.spec.now.links = omega (arith, c.loop-at-test.true, c.requires.briefs.one_each) in
    omega (arith, link_below c.args.spec.now c.requires.faultless c.loop-at.at within)

pub loop-at-preserved : goal.loop-at-preserved
loop-at-preserved c =
    let net = c.args.spec.now in
    let i = c.loop-at.at in
    let brief = c.index-briefs-at.result in
    let within : i < length net.links = omega (arith, c.loop-at-test.true, c.requires.briefs.one_each) in
    let told = told-at net net refl c.args.briefs.now c.requires.briefs i i brief within refl c.index-briefs-at.is in
    let end = c.position-end.result in
    let ends_there : node_of net (link_at net i).to ≡ Some end = told.runs_to ∙ ap Some (sym c.position-end.ensures) in
    let there : end < length c.loop-at.lists.items = omega (arith, node_of_within net (link_at net i).to end ends_there, c.loop-at.invariant.one_each) in
    let is : c.index_mut.result.now ≡ get_or c.loop-at.lists.items end c.index_mut.result.now = c.index_mut.ensures.value in
    let was : c.index_mut.result.now.items ≡ filter (ends_at net end) (places_below net i) =
    ap (λ (v : Vec Place Global). v.items) is ∙ c.loop-at.invariant.lists end c.index_mut.result.now (omega (arith, c.loop-at.invariant.one_each)) in
    record {
      one_each = length-set c.loop-at.lists.items end c.add_lanes.new.list ∙ c.loop-at.invariant.one_each;
      lists = λ node d h. elim (cases_eq node end) as (λ _. (get_or (set c.loop-at.lists.items end c.add_lanes.new.list) node d).items ≡ filter (ends_at net node) (places_below net (i + 1))) [
        | inl same ↦ rw same (
            ap (λ (v : Vec Place Global). v.items) (get_or-set_same c.loop-at.lists.items end c.add_lanes.new.list d there)
            ∙ c.in_ok-add_lanes.ensures
            ∙ landed net i end ends_there c.index_mut.result.now.items c.new.result brief.lanes c.new.ensures told.same_lanes was)
        | inr other ↦
            ap (λ (v : Vec Place Global). v.items) (get_or-set_other c.loop-at.lists.items end node c.add_lanes.new.list d other)
            ∙ c.loop-at.invariant.lists node d h
            ∙ sym (landed-elsewhere net i end node ends_there other)
      ];
    }
