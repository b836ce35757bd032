-- One buffer of the walk after another.
use Rattle.std.proofs.Common.{◌≡◌, ℕ, ◌+◌, ◌*◌, ◌<◌, ◌≤◌, Bool, true, false, List, [], ◌∷◌, ◌++◌, length, map, get_or, take, Option, Some, None, sym, ap, subst, ◌∙◌, arith, slice_get, slice_set, drop, filter_map, not, ◌&&◌, IsSomeAnd, option_map}
use Rattle.std.specs.List.{list_any}
use Rattle.std.proofs.lemmas.List.{length-drop, take_all, get_or-map}
use Rattle.std.proofs.lemmas.Option.{slice_get_within, slice_get-get_or}
use Rattle.street_base.specs.declared.net.NetSpec.{NetSpec}
use Rattle.street_base.specs.declared.car.Car.{Car}
use Rattle.street_base.specs.Prelude.{network_fault, link_at, is_free, Traffic, lane_at, may_give}
use Rattle.street_base.specs.declared.names.Place.{Place}
use Rattle.street_net.specs.Prelude.{mouth, slot_of, in_places}
use Rattle.street_yard.specs.declared.names.ListId.{ListId}
use Rattle.street_yard.specs.Prelude.{YardEntry, Yard, car_of, list_on, IsApart, IsWhole}
use Rattle.street_node.specs.Prelude.{queue_of, HaveShortPlans, lane_to, way_out, IsFront, SendsOn, Shows, ReleasesFirst, crossing}
use Rattle.street_node.specs.declared.release.Released.{Released}
use Rattle.street_node.proofs.Joins.{Joins, way-joins}
use Rattle.street_yard.proofs.YardLemmas.{head-on}
use Rattle.street_node.proofs.Sends.{Walked, walk-start, walk-stays, walk-sends, untouched}
use Rattle.street_node.proofs.ReleaseLemmas.{goes-start, goes-none, goes-shut, goes-sent}

module _ (net : NetSpec) (faultless : network_fault net ≡ None) (node clock : ℕ) (ns : List ℕ) (apart : IsApart ns) (one_each : length ns ≡ length (in_places net node))
    (old : Yard) (mouths : List Bool) (wide : length mouths ≡ 2 * length net.links) where
  -- the first k buffers are done
  pub record AreDone (k : ℕ) (now : Yard) (open_now : List Bool) (more : List Released) : Type 0 where
    pub walked : Walked net ns old k now more
    pub goes : (m : Traffic) → Shows net node clock ns old mouths m → ReleasesFirst net node ns m k now open_now more

  pub done-start : IsWhole old → AreDone 0 old mouths []
  done-start whole = record { walked = walk-start net ns apart old whole; goes = λ m shows. goes-start net faultless node clock ns apart one_each old mouths wide m shows }

  pub done-none : (k : ℕ) (now : Yard) (open_now : List Bool) (more : List Released) (from : Place) → AreDone k now open_now more → slice_get (in_places net node) k ≡ Some from
      → None ≡ way_out net clock from (slice_get (queue_of now (get_or ns k 0)) 0) → AreDone (k + 1) now open_now more
  done-none k now open_now more from d at way = record {
    walked = walk-stays net ns apart old k now more d.walked (let h = slice_get_within (in_places net node) k from at in omega arith);
    goes = λ m shows. goes-none net faultless node clock ns apart one_each old mouths wide m shows k now open_now more from d.walked (d.goes m shows) at way;
  }

  pub done-shut : (k : ℕ) (now : Yard) (open_now : List Bool) (more : List Released) (from : Place) (r : Released) → AreDone k now open_now more → slice_get (in_places net node) k ≡ Some from
      → Some (lane_to r) ≡ way_out net clock from (slice_get (queue_of now (get_or ns k 0)) 0) → mouth open_now (lane_to r) ≡ false → AreDone (k + 1) now open_now more
  done-shut k now open_now more from r d at way shut = record {
    walked = walk-stays net ns apart old k now more d.walked (let h = slice_get_within (in_places net node) k from at in omega arith);
    goes = λ m shows. goes-shut net faultless node clock ns apart one_each old mouths wide m shows k now open_now more from (lane_to r) d.walked (d.goes m shows) at way shut;
  }

  pub done-sent : (k : ℕ) (now after : Yard) (open_now : List Bool) (more : List Released) (from : Place) (r : Released) → AreDone k now open_now more → slice_get (in_places net node) k ≡ Some from
      → Some (lane_to r) ≡ way_out net clock from (slice_get (queue_of now (get_or ns k 0)) 0) → mouth open_now (lane_to r) ≡ true → length open_now ≡ 2 * length net.links
      → IsFront net now from (get_or ns k 0) r → SendsOn now after (get_or ns k 0) r.key (link_at net r.turn.next).limit
      → AreDone (k + 1) after (slice_set open_now (slot_of (lane_to r)) false) (more ++ r ∷ [])
  done-sent k now after open_now more from r d at way is_open wide_now f s = record {
    walked = walk-sends net ns apart old k now after more r d.walked (let h = slice_get_within (in_places net node) k from at in omega arith) (head-on now (get_or ns k 0) r.key d.walked.whole f.first) s;
    goes = λ m shows. goes-sent net faultless node clock ns apart one_each old mouths wide m shows k now after open_now more from r d.walked (d.goes m shows) at way is_open wide_now f s;
  }

  -- where a front goes is a lane of the network
  pub front-joins : (from : Place) (now : Yard) (n : ℕ) (r : Released) → Some (lane_to r) ≡ way_out net clock from (slice_get (queue_of now n) 0) → Joins net from (lane_to r)
  front-joins from now n r way = way-joins net faultless clock from (lane_to r) (slice_get (queue_of now n) 0) (sym way)

  -- a front has a next link, so its plan goes on
  pub front-short : (k : ℕ) (now : Yard) (open_now : List Bool) (more : List Released) (from : Place) (n : ℕ) (r : Released) → AreDone k now open_now more → HaveShortPlans old → IsFront net now from n r → IsSomeAnd (car_of now r.key) (λ c. c.at < 65535)
  front-short k now open_now more from n r d plans f =
      let on : list_on now r.key ≡ Some n = head-on now n r.key d.walked.whole f.first in
      let same = untouched net ns apart old k now more d.walked r.key n on in
      let was : car_of old r.key ≡ Some f.car = ap (option_map (λ (e : YardEntry). e.car)) (sym same) ∙ f.held in
      let short : length f.car.plan.value ≤ 1024 = plans r.key f.car was in
      let there = slice_get_within (drop f.car.at f.car.plan.value) 1 r.turn.next f.next in
      let fits : f.car.at < 65535 = omega (arith, length-drop f.car.at f.car.plan.value) in
      subst (λ (o : Option Car). IsSomeAnd o (λ c. c.at < 65535)) (sym f.held) fits

-- ---- the places of a walk

pub lane-at : (net : NetSpec) (node : ℕ) (lanes : List Place) (k : ℕ) (d : Place) → lanes ≡ in_places net node → k < length lanes → slice_get (in_places net node) k ≡ Some (get_or lanes k d)
lane-at net node lanes k d e h = ap (λ (ps : List Place). slice_get ps k) (sym e) ∙ slice_get-get_or lanes k d h

pub list-at : (lists : List ListId) (k : ℕ) (d : ListId) → k < length lists → (get_or lists k d).0 ≡ get_or (map (λ n. n.0) lists) k 0
list-at lists k d h = sym (get_or-map (λ n. n.0) lists k d 0 h)

pub few-lists : (net : NetSpec) (node : ℕ) (lists : List ListId) (lanes : List Place) (k : ℕ) → lanes ≡ in_places net node → length lists ≡ length (in_places net node) → k < length lanes → k < length lists
few-lists net node lists lanes k e one h = (let b : length lanes ≡ length (in_places net node) = ap length e in omega arith)

-- past the last buffer all are done
pub goes-all : (net : NetSpec) (node : ℕ) (ns : List ℕ) (m : Traffic) (k : ℕ) (now : Yard) (mouths : List Bool) (more : List Released) → length (in_places net node) ≤ k → ReleasesFirst net node ns m k now mouths more → ReleasesFirst net node ns m (length (in_places net node)) now mouths more
goes-all net node ns m k now mouths more all d =
    let same : take k (in_places net node) ≡ take (length (in_places net node)) (in_places net node) = take_all k (in_places net node) all ∙ sym (take_all (length (in_places net node)) (in_places net node) (omega arith)) in
    record {
      queues = λ j p low at. d.queues j p (omega arith) at;
      shut = λ p there. d.shut p there ∙ ap (λ (ps : List Place). is_free (lane_at m p).track 0 && not (list_any (may_give m p) ps)) same;
      crossings = d.crossings ∙ ap (λ (ps : List Place). map (λ c. Some c) (filter_map (crossing m) ps)) same;
    }
