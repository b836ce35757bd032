use Rattle.std.proofs.Common.{◌≡◌, ◌≤◌, ◌++◌, List, length, get_or, map, refl, sym, ◌∙◌, ap, subst, arith, Some, filter}
use Rattle.std.specs.List.{range_with_len}
use Rattle.std.proofs.lemmas.Bool.{le-leb, lt-leb, le-ltb}
use Rattle.street_base.specs.Prelude.{most_lanes, link_at, node_of, no_link}
use Rattle.street_base.specs.declared.names.Place.{Place}
use Rattle.street_base.proofs.FaultLemmas.{link_below, link_keeps_limits}
use Rattle.street_net.proofs.InLanes.{places_below}
use Rattle.street_tile.specs.Prelude.{is_own}
use Rattle.street_tile.proofs.EmptyTile.{own-more, own-elsewhere}
use Rattle.street_tile.proofs.cut.own_lanes.Goals as goal
use Rattle.street_tile.proofs.cut.own_lanes.Goals.{then-low-node+then-node-high+in_ok-add_lanes, else-low-node, else-low-node-via-then-low-node+else-node-high, else-low-node-via-else-low-node}

pub overflow_cast-at : goal.overflow_cast-at
overflow_cast-at c =
    let long : length c.as_slice-links.result.now ≡ length c.args.net.now.links = rw (c.as_slice-links.ensures, c.spec.ensures.value) refl in
    let below = link_below c.args.net.now c.spec.ensures.faultless c.loop-at.at (omega arith) in
    omega arith

pub overflow_cast-links : goal.overflow_cast-links
overflow_cast-links c =
    let long : length c.as_slice-links.result.now ≡ length c.args.net.now.links = rw (c.as_slice-links.ensures, c.spec.ensures.value) refl in
    let is : (get_or c.as_slice-links.result.now c.loop-at.at no_link).lanes ≡ (link_at c.args.net.now c.loop-at.at).lanes = rw (c.as_slice-links.ensures, c.spec.ensures.value) refl in
    let few : (link_at c.args.net.now c.loop-at.at).lanes ≤ most_lanes = (link_keeps_limits c.args.net.now c.spec.ensures.faultless c.loop-at.at (omega arith)).few_lanes in
    omega arith

pub loop-at-preserved : goal.loop-at-preserved
loop-at-preserved c =
    let net = c.args.net.now in
    let i = c.loop-at.at in
    let link : c.new-link.result ≡ i = c.new-link.ensures in
    let node : node_of net (link_at net i).to ≡ Some c.position-node.result = subst (λ k. node_of net (link_at net k).to ≡ Some c.position-node.result) link (c.end_of.ensures.position ∙ ap Some (sym c.position-node.ensures)) in
    let is : (get_or c.as_slice-links.result.now i no_link).lanes ≡ (link_at net i).lanes = rw (c.as_slice-links.ensures, c.spec.ensures.value) refl in
    elim c.if-low-node.branch [
      | then-low-node+then-node-high+in_ok-add_lanes w ↦ rw w.own-is (
          w.in_ok-add_lanes.ensures
          ∙ ap (λ (ps : List Place). ps ++ (map (λ k. record { link = c.new-link.result; lane = k }) (range_with_len 0 (get_or c.as_slice-links.result.now i no_link).lanes))) c.loop-at.invariant
          ∙ ap (λ (ps : List Place). filter (is_own net c.args.low c.args.high) (places_below net i) ++ ps) (rw (link, is) refl)
          ∙ sym (own-more net c.args.low c.args.high i c.position-node.result node w.if-low-node.true w.if-node-high.true))
      | else-low-node w ↦ rw w.own-is (c.loop-at.invariant ∙ sym (own-elsewhere net c.args.low c.args.high i c.position-node.result node (elim w.else-low-node.branch [
        | else-low-node-via-then-low-node+else-node-high w' ↦ rw (le-leb c.args.low c.position-node.result w'.if-low-node.true, le-ltb c.position-node.result c.args.high w'.if-node-high.false) refl
        | else-low-node-via-else-low-node w' ↦ rw (lt-leb c.args.low c.position-node.result w'.if-low-node.false) refl
      ])))
    ]

pub returns : goal.returns
returns c =
    let long : length c.as_slice-links.result.now ≡ length c.args.net.now.links = rw (c.as_slice-links.ensures, c.spec.ensures.value) refl in
    let all : c.loop-at.at ≡ length c.args.net.now.links = omega arith in
    c.loop-at.invariant ∙ ap (λ n. filter (is_own c.args.net.now c.args.low c.args.high) (places_below c.args.net.now n)) all
