use Rattle.std.proofs.Common.{◌≡◌, ◌+◌, ◌≤◌, ◌++◌, ◌∷◌, [], ℕ, List, Bool, length, map, get_or, sym, ap, subst, ◌∙◌, arith, inl, inr, Some, None, false, slice_get}
use Rattle.std.proofs.lemmas.Bool.{cases_Bool}
use Rattle.std.proofs.lemmas.List.{append-nil, append_assoc, length-map, length-set, take_all}
use Rattle.street_base.specs.Prelude.{link_at}
use Rattle.street_net.specs.Prelude.{in_places, slot_of, mouth}
use Rattle.street_node.specs.Prelude.{queue_of, lane_to, way_out, IsFront, SendsOn, Sends}
use Rattle.street_node.specs.declared.release.Released.{Released}
use Rattle.street_base.specs.declared.names.Place.{Place}
use Rattle.street_yard.proofs.YardLemmas.{head-on}
use Rattle.street_node.proofs.Steps.{AreDone, done-start, done-none, done-shut, done-sent, front-joins, front-short, lane-at, list-at, few-lists, goes-all}
use Rattle.street_node.proofs.release.release_lanes.Goals as goal
use Rattle.street_node.proofs.release.release_lanes.Goals.{in-Some, in_default}

pub loop-k-init : goal.loop-k-init
loop-k-init c = record {
  done = λ faultless apart one_each wide. ([], sym (append-nil c.args.released.now.items), done-start c.args.network.now faultless c.args.node c.args.step (map (λ n. n.0) c.args.lists.now) apart one_each c.args.yard.now c.args.mouths.now wide c.whole.ensures);
  wide = c.requires.mouths;
  room = omega (arith, c.requires.room);
  kept = omega arith;
}

pub front_to_go-requires : goal.front_to_go-requires
front_to_go-requires c =
    let h = few-lists c.args.network.now c.args.node c.args.lists.now c.in_lanes-lanes.result.now c.loop-k.k c.in_lanes-lanes.ensures c.requires.one_each (omega arith) in
    let d = c.loop-k.invariant.done c.spec-faultless.ensures.faultless c.requires.lists.apart (length-map c.args.lists.now (λ n. n.0) ∙ c.requires.one_each) c.requires.mouths in
    let within = c.requires.lists.within c.loop-k.k 0 (omega (arith, h, length-map c.args.lists.now (λ n. n.0))) in
    let same = list-at c.args.lists.now c.loop-k.k (record { 0 = 0 }) h in
    let count = d.2.walked.sends.count in
    omega arith

pub release_front-requires-clause-list : goal.release_front-requires-clause-list
release_front-requires-clause-list c =
    let d = c.loop-k.invariant.done c.spec-faultless.ensures.faultless c.requires.lists.apart (length-map c.args.lists.now (λ n. n.0) ∙ c.requires.one_each) c.requires.mouths in
    head-on c.loop-k.yard (get_or c.args.lists.now c.loop-k.k (record { 0 = 0 })).0 c.in-Some.front.key d.2.walked.whole c.in-Some.ensures.front.first

pub release_front-requires-clause-next : goal.release_front-requires-clause-next
release_front-requires-clause-next c =
    let one : length (map (λ n. n.0) c.args.lists.now) ≡ length (in_places c.args.network.now c.args.node) = length-map c.args.lists.now (λ n. n.0) ∙ c.requires.one_each in
    let d = c.loop-k.invariant.done c.spec-faultless.ensures.faultless c.requires.lists.apart one c.requires.mouths in
    front-short c.args.network.now c.spec-faultless.ensures.faultless c.args.node c.args.step (map (λ n. n.0) c.args.lists.now) c.requires.lists.apart one c.args.yard.now c.args.mouths.now c.requires.mouths c.loop-k.k c.loop-k.yard c.loop-k.mouths d.0 _ _ c.in-Some.front d.2 c.requires.plans c.in-Some.ensures.front

pub release_front-requires-clause-link : goal.release_front-requires-clause-link
release_front-requires-clause-link c =
    let one : length (map (λ n. n.0) c.args.lists.now) ≡ length (in_places c.args.network.now c.args.node) = length-map c.args.lists.now (λ n. n.0) ∙ c.requires.one_each in
    (front-joins c.args.network.now c.spec-faultless.ensures.faultless c.args.node c.args.step (map (λ n. n.0) c.args.lists.now) c.requires.lists.apart one c.args.yard.now c.args.mouths.now c.requires.mouths _ c.loop-k.yard _ c.in-Some.front c.in-Some.ensures.way).link

pub release_front-requires-clause-lane : goal.release_front-requires-clause-lane
release_front-requires-clause-lane c =
    let one : length (map (λ n. n.0) c.args.lists.now) ≡ length (in_places c.args.network.now c.args.node) = length-map c.args.lists.now (λ n. n.0) ∙ c.requires.one_each in
    (front-joins c.args.network.now c.spec-faultless.ensures.faultless c.args.node c.args.step (map (λ n. n.0) c.args.lists.now) c.requires.lists.apart one c.args.yard.now c.args.mouths.now c.requires.mouths _ c.loop-k.yard _ c.in-Some.front c.in-Some.ensures.way).few

pub loop-k-preserved : goal.loop-k-preserved
loop-k-preserved c =
    let h = few-lists c.args.network.now c.args.node c.args.lists.now c.in_lanes-lanes.result.now c.loop-k.k c.in_lanes-lanes.ensures c.requires.one_each (omega arith) in
    let at : slice_get (in_places c.args.network.now c.args.node) c.loop-k.k ≡ Some c.index-lanes-k.result = lane-at c.args.network.now c.args.node c.in_lanes-lanes.result.now c.loop-k.k c.index-lanes-k.result c.in_lanes-lanes.ensures (omega arith) ∙ ap (λ (l : Place). Some l) (sym c.index-lanes-k.is) in
    let named = list-at c.args.lists.now c.loop-k.k (record { 0 = 0 }) h in
    elim c.match-front_to_go.branch [
      | in-Some w ↦ (
          let e = w.release_front.ensures in
          let r : Released = w.in-Some.front in
          rw (w.yard-is, w.mouths-is, w.released-is) (record {
            done = λ faultless apart one_each wide.
                let d = c.loop-k.invariant.done faultless apart one_each wide in
                let way = subst (λ n. Some (lane_to r) ≡ way_out c.args.network.now c.args.step c.index-lanes-k.result (slice_get (queue_of c.loop-k.yard n) 0)) named w.in-Some.ensures.way in
                elim (cases_Bool (mouth c.loop-k.mouths (lane_to r))) [
                  | inl is_open ↦ (
                    d.0 ++ r ∷ [],
                    e.front.told is_open ∙ ap (λ (xs : List Released). xs ++ r ∷ []) d.1 ∙ append_assoc c.args.released.now.items d.0 (r ∷ []),
                    subst (λ (ms : List Bool). AreDone c.args.network.now faultless c.args.node c.args.step (map (λ n. n.0) c.args.lists.now) apart one_each c.args.yard.now c.args.mouths.now wide (c.loop-k.k + 1) w.release_front.new.yard ms (d.0 ++ r ∷ [])) (sym (e.front.closes is_open))
                        (done-sent c.args.network.now faultless c.args.node c.args.step (map (λ n. n.0) c.args.lists.now) apart one_each c.args.yard.now c.args.mouths.now wide c.loop-k.k c.loop-k.yard w.release_front.new.yard c.loop-k.mouths d.0 _ r d.2 at way is_open c.loop-k.invariant.wide
                        (subst (λ n. IsFront c.args.network.now c.loop-k.yard c.index-lanes-k.result n r) named w.in-Some.ensures.front)
                        (subst (λ n. SendsOn c.loop-k.yard w.release_front.new.yard n r.key (link_at c.args.network.now r.turn.next).limit) named (e.front.goes is_open))),
                  )
                  | inr is_shut ↦ (let kept = e.front.shut is_shut in (
                    d.0,
                    kept.2 ∙ d.1,
                    rw (kept.0, kept.1) (done-shut c.args.network.now faultless c.args.node c.args.step (map (λ n. n.0) c.args.lists.now) apart one_each c.args.yard.now c.args.mouths.now wide c.loop-k.k c.loop-k.yard c.loop-k.mouths d.0 _ r d.2 at way is_shut),
                  ))
                ];
            wide = elim (cases_Bool (mouth c.loop-k.mouths (lane_to r))) [
              | inl is_open ↦ ap length (e.front.closes is_open) ∙ length-set c.loop-k.mouths (slot_of (lane_to r)) false ∙ c.loop-k.invariant.wide
              | inr is_shut ↦ ap length (e.front.shut is_shut).1 ∙ c.loop-k.invariant.wide
            ];
            room = omega (arith, h, c.loop-k.invariant.room, e.grown, e.capacity);
            kept = omega (arith, c.loop-k.invariant.kept, e.capacity);
          }))
      | in_default w ↦ rw (w.yard-is, w.mouths-is, w.released-is) (record {
        done = λ faultless apart one_each wide.
            let d = c.loop-k.invariant.done faultless apart one_each wide in (
              d.0,
              d.1,
              done-none c.args.network.now faultless c.args.node c.args.step (map (λ n. n.0) c.args.lists.now) apart one_each c.args.yard.now c.args.mouths.now wide c.loop-k.k c.loop-k.yard c.loop-k.mouths d.0 _ d.2 at
                  (subst (λ n. None ≡ way_out c.args.network.now c.args.step c.index-lanes-k.result (slice_get (queue_of c.loop-k.yard n) 0)) named w.in_default.ensures.way),
            );
        wide = c.loop-k.invariant.wide;
        room = omega (arith, h, c.loop-k.invariant.room);
        kept = c.loop-k.invariant.kept;
      })
    ]

pub returns-clause-releases : goal.returns-clause-releases
returns-clause-releases c =
    let ns : List ℕ = map (λ n. n.0) c.args.lists.now in
    let one : length ns ≡ length (in_places c.args.network.now c.args.node) = length-map c.args.lists.now (λ n. n.0) ∙ c.requires.one_each in
    let d = c.loop-k.invariant.done c.spec-faultless.ensures.faultless c.requires.lists.apart one c.requires.mouths in
    let lanes : length c.in_lanes-lanes.result.now ≡ length (in_places c.args.network.now c.args.node) = ap length c.in_lanes-lanes.ensures in
    let all : length (in_places c.args.network.now c.args.node) ≤ c.loop-k.k = omega arith in
    record {
      more = d.0;
      told = d.1;
      sends = subst (λ (xs : List ℕ). Sends c.args.network.now xs c.args.yard.now c.loop-k.yard d.0) (take_all c.loop-k.k ns (omega arith)) d.2.walked.sends;
      goes = λ m shows. goes-all c.args.network.now c.args.node ns m c.loop-k.k c.loop-k.yard c.loop-k.mouths d.0 all (d.2.goes m shows);
    }
