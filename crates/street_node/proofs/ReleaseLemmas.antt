-- The walk over buffers against the release phase, whatever traffic the lists and mouths stand for.
use Rattle.std.proofs.Common.{◌≡◌, ℕ, suc, ◌+◌, ◌*◌, ◌<◌, Bool, true, false, List, [], ◌∷◌, ◌++◌, length, map, get_or, take, drop, refl, sym, ◌∙◌, ap, arith, inl, inr, Option, Some, None, option_map, slice_get, slice_set, filter_map, ◌==◌, All}
use Rattle.std.specs.List.{cons_option}
use Rattle.std.proofs.lemmas.Bool.{cases_eq}
use Rattle.std.proofs.lemmas.List.{append-nil, map-append}
use Rattle.std.proofs.lemmas.Option.{slice_get_within, same_Some}
use Rattle.street_base.specs.declared.net.NetSpec.{NetSpec}
use Rattle.street_base.specs.declared.net.TurnSpec.{TurnSpec}
use Rattle.street_base.specs.declared.net.Turn.{Turn}
use Rattle.street_base.specs.Prelude.{network_fault, link_at, turn, places, Vehicle, vehicle_of, Traffic, Queued, lane_at, front, target, gives, on_next_link}
use Rattle.street_base.specs.declared.names.Place.{Place}
use Rattle.street_net.specs.Prelude.{slot_of, mouth, ends_at, in_places, turn_by_position}
use Rattle.street_yard.specs.Prelude.{YardEntry, Yard, entry_at, list_on, IsApart, vehicle_with}
use Rattle.street_node.specs.Prelude.{queued_of, queue_of, IsWalk, AreShut, Crossing, crossing, crossing_in, queue_after, IsAhead, IsFront, Shows, SendsOn, ReleasesFirst, lane_to, lane_from, way_out}
use Rattle.street_node.specs.declared.release.Released.{Released}
use Rattle.street_node.proofs.Joins.{Joins, turn-joins, way-joins, joins-ahead, ahead-few}
use Rattle.street_yard.proofs.YardLemmas.{head-on}
use Rattle.street_node.proofs.Queues.{queue-first, queue-sent, queue-other, sent-vehicle, apart-at}
use Rattle.street_node.proofs.BufferWalk.{stays}
use Rattle.street_node.proofs.LaneWalk.{filter-holds, lanes-walk}
use Rattle.street_node.proofs.Mouths.{shut-start, shut-none, shut-before, shut-behind, gives-by}
use Rattle.street_node.proofs.Crossings.{leads-of, crossing-goes, crossing-stays, crossings-more}
use Rattle.street_node.proofs.Sends.{Walked, queue-here, others-stay}

-- ---- a walk and its next buffer

same-crossings : (now after : Yard) (more : List Released) → All (λ r. entry_at after r.key ≡ entry_at now r.key) more → map (crossing_in after) more ≡ map (crossing_in now) more
same-crossings now after [] a = refl
same-crossings now after (r ∷ more) a =
    let first : crossing_in after r ≡ crossing_in now r = ap (λ (o : Option YardEntry). option_map (λ (v : Vehicle). record { from = lane_from r; to = lane_to r; vehicle = v }) (option_map vehicle_of (option_map (λ (e : YardEntry). e.car) o))) (a 0 r (omega arith)) in
    rw (first, same-crossings now after more (λ j d h. a (suc j) d (omega arith))) refl

-- the turn of a front leaves the front's lane
pub from-is : (net : NetSpec) (y : Yard) (from : Place) (n : ℕ) (r : Released) → IsFront net y from n r → lane_from r ≡ from
from-is net y from n r f = by_turn (turn net from r.turn.next) f.turn
  where
    by_turn : (o : Option TurnSpec) → option_map (turn_by_position from r.turn.next) o ≡ Some r.turn → lane_from r ≡ from
    by_turn None e = cc
    by_turn (Some t) e =
        let same = same_Some _ _ e in
        ap (λ (u : Turn). record { link = u.link; lane = u.lane }) (sym same)

module _ (net : NetSpec) (faultless : network_fault net ≡ None) (node clock : ℕ) (ns : List ℕ) (apart : IsApart ns) (one_each : length ns ≡ length (in_places net node))
    (old : Yard) (mouths : List Bool) (wide : length mouths ≡ 2 * length net.links) (m : Traffic) (shows : Shows net node clock ns old mouths m) where
  abbrev ps : List Place
  ps = in_places net node

  abbrev Done : ℕ → Yard → List Bool → List Released → Type 0
  Done = ReleasesFirst net node ns m

  abbrev Walks : ℕ → Yard → List Released → Type 0
  Walks = Walked net ns old

  pub goes-start : Done 0 old mouths []
  goes-start = record {
    queues = λ j p low at. absurd (omega arith);
    shut = shut-start m (IsAhead net node) ps mouths shows.shown;
    crossings = refl;
  }

  inside : (k : ℕ) (from : Place) → slice_get ps k ≡ Some from → k < length ns
  inside k from at = (let h = slice_get_within ps k from at in omega arith)

  -- the buffer in hand is as the machine has it
  here : (k : ℕ) (now : Yard) (more : List Released) (from : Place) → Walks k now more → slice_get ps k ≡ Some from → queue_of now (get_or ns k 0) ≡ (lane_at m from).queue
  here k now more from w at = queue-here net ns apart old k now more w (inside k from at) ∙ shows.queues k from at

  target-is : (k : ℕ) (now : Yard) (more : List Released) (from : Place) → Walks k now more → slice_get ps k ≡ Some from → way_out net clock from (slice_get (queue_of now (get_or ns k 0)) 0) ≡ target m from
  target-is k now more from w at =
      ap (λ (qs : List Queued). way_out net clock from (slice_get qs 0)) (here k now more from w at)
      ∙ ap (λ (c : ℕ). way_out net c from (front m from)) (sym shows.in_time)
      ∙ ap (λ (n : NetSpec). way_out n m.clock from (front m from)) (sym shows.network)

  joins-of : (from to : Place) → target m from ≡ Some to → Joins net from to
  joins-of from to is = way-joins net faultless m.clock from to (front m from) (ap (λ (n : NetSpec). way_out n m.clock from (front m from)) (sym shows.network) ∙ is)

  ahead-of : (k : ℕ) (from to : Place) → slice_get ps k ≡ Some from → target m from ≡ Some to → IsAhead net node to
  ahead-of k from to at is = joins-ahead net faultless node from to (filter-holds (ends_at net node) (places net) k from at) (joins-of from to is)

  -- nobody goes from the buffer at k
  stays-on : (k : ℕ) (now : Yard) (open_now : List Bool) (more : List Released) (from : Place) → Walks k now more → Done k now open_now more → slice_get ps k ≡ Some from → gives m from ≡ false
      → AreShut m (IsAhead net node) ps (k + 1) open_now → Done (k + 1) now open_now more
  stays-on k now open_now more from w d at not_so shut = record {
    queues = λ j p low there. elim (cases_eq j k) as (λ _. queue_of now (get_or ns j 0) ≡ queue_after m p) [
      | inl same ↦ (
          let is_p : Some from ≡ Some p = sym at ∙ ap (slice_get ps) (sym same) ∙ there in
          let e : from ≡ p = same_Some from p is_p in
          let at_k : queue_of now (get_or ns k 0) ≡ queue_after m from = here k now more from w at ∙ sym (rw not_so refl) in
          ap (λ i. queue_of now (get_or ns i 0)) same ∙ at_k ∙ ap (queue_after m) e)
      | inr other ↦ d.queues j p (omega arith) there
    ];
    shut = shut;
    crossings = d.crossings ∙ sym (ap (map (λ c. Some c)) (crossings-more (crossing m) ps k from at ∙ rw (crossing-stays m from not_so) (append-nil (filter_map (crossing m) (take k ps)))));
  }

  -- a buffer whose front is not ready, or has no turn
  pub goes-none : (k : ℕ) (now : Yard) (open_now : List Bool) (more : List Released) (from : Place) → Walks k now more → Done k now open_now more → slice_get ps k ≡ Some from
      → None ≡ way_out net clock from (slice_get (queue_of now (get_or ns k 0)) 0) → Done (k + 1) now open_now more
  goes-none k now open_now more from w d at way =
      let none : target m from ≡ None = sym (way ∙ target-is k now more from w at) in
      stays-on k now open_now more from w d at (stays m from none) (shut-none m (IsAhead net node) ps k from at open_now d.shut none)

  by-mouth : (k : ℕ) (now : Yard) (open_now : List Bool) (more : List Released) (from to : Place) → Done k now open_now more → slice_get ps k ≡ Some from → target m from ≡ Some to → gives m from ≡ mouth open_now to
  by-mouth k now open_now more from to d at is =
      let walk : IsWalk m ps = lanes-walk net (λ a next t e. (turn-joins net faultless a next t e).meet) m shows.network (λ end. end == node) in
      gives-by m (IsAhead net node) ps k from at open_now d.shut to is walk (ahead-of k from to at is)

  -- a buffer whose front finds the mouth shut
  pub goes-shut : (k : ℕ) (now : Yard) (open_now : List Bool) (more : List Released) (from to : Place) → Walks k now more → Done k now open_now more → slice_get ps k ≡ Some from
      → Some to ≡ way_out net clock from (slice_get (queue_of now (get_or ns k 0)) 0) → mouth open_now to ≡ false → Done (k + 1) now open_now more
  goes-shut k now open_now more from to w d at way shut =
      let is : target m from ≡ Some to = sym (way ∙ target-is k now more from w at) in
      stays-on k now open_now more from w d at (by-mouth k now open_now more from to d at is ∙ shut) (shut-before m (IsAhead net node) ps k from at open_now d.shut to is shut)

  -- a buffer whose front goes
  pub goes-sent : (k : ℕ) (now after : Yard) (open_now : List Bool) (more : List Released) (from : Place) (r : Released) → Walks k now more → Done k now open_now more → slice_get ps k ≡ Some from
      → Some (lane_to r) ≡ way_out net clock from (slice_get (queue_of now (get_or ns k 0)) 0) → mouth open_now (lane_to r) ≡ true → length open_now ≡ 2 * length net.links
      → IsFront net now from (get_or ns k 0) r → SendsOn now after (get_or ns k 0) r.key (link_at net r.turn.next).limit
      → Done (k + 1) after (slice_set open_now (slot_of (lane_to r)) false) (more ++ r ∷ [])
  goes-sent k now after open_now more from r w d at way is_open wide_now f s =
      let to = lane_to r in
      let n = get_or ns k 0 in
      let is : target m from ≡ Some to = sym (way ∙ target-is k now more from w at) in
      let going : gives m from ≡ true = by-mouth k now open_now more from to d at is ∙ is_open in
      let ahead = ahead-of k from to at is in
      let lead = leads-of m from to is in
      let front_is : front m from ≡ Some (queued_of f.car) = ap (λ (qs : List Queued). slice_get qs 0) (sym (here k now more from w at)) ∙ queue-first now n r.key f.car f.first f.held in
      let queued : lead.0 ≡ queued_of f.car = same_Some _ _ (sym lead.1.front ∙ front_is) in
      let on : list_on now r.key ≡ Some n = head-on now n r.key w.whole f.first in
      record {
        queues = λ j p low there. elim (cases_eq j k) as (λ _. queue_of after (get_or ns j 0) ≡ queue_after m p) [
          | inl same ↦ (
              let is_p : Some from ≡ Some p = sym at ∙ ap (slice_get ps) (sym same) ∙ there in
              let e : from ≡ p = same_Some from p is_p in
              let at_k : queue_of after n ≡ queue_after m from = queue-sent now after n r.key (link_at net r.turn.next).limit w.whole f.first s ∙ ap (drop 1) (here k now more from w at) ∙ sym (rw going refl) in
              ap (λ i. queue_of after (get_or ns i 0)) same ∙ at_k ∙ ap (queue_after m) e)
          | inr other ↦ queue-other now after n r.key (link_at net r.turn.next).limit w.whole f.first s (get_or ns j 0) (apart-at ns j k apart (omega arith) (inside k from at)) ∙ d.queues j p (omega arith) there
        ];
        shut =
            let few = ahead-few net faultless node to ahead in
            let within = ahead.link in
            shut-behind m (IsAhead net node) ps k from at open_now d.shut to is (ahead-few net faultless node) ahead (omega arith);
        crossings =
            let limit = (link_at net r.turn.next).limit in
            let vehicle : vehicle_with after r.key ≡ Some (on_next_link limit (vehicle_of f.car)) = ap (λ (o : Option YardEntry). option_map vehicle_of (option_map (λ (e : YardEntry). e.car) o)) s.sent ∙ sent-vehicle limit (entry_at now r.key) f.car f.held in
            let last : crossing_in after r ≡ Some (record { from = from; to = to; vehicle = on_next_link limit (vehicle_of f.car) }) = ap (option_map (λ (v : Vehicle). record { from = lane_from r; to = to; vehicle = v })) vehicle ∙ ap (λ (p : Place). Some (record { from = p; to = to; vehicle = on_next_link limit (vehicle_of f.car) })) (from-is net now from n r f) in
            let crosses : crossing m from ≡ Some (record { from = from; to = to; vehicle = on_next_link limit (vehicle_of f.car) }) =
            crossing-goes m from to lead.0 lead.1 going
            ∙ ap (λ (n : NetSpec). Some (record { from = from; to = to; vehicle = on_next_link (link_at n to.link).limit lead.0.vehicle })) shows.network
            ∙ ap (λ (q : Queued). Some (record { from = from; to = to; vehicle = on_next_link limit q.vehicle })) queued in
            map-append (crossing_in after) more (r ∷ [])
            ∙ ap (λ (xs : List (Option Crossing)). xs ++ crossing_in after r ∷ []) (same-crossings now after more (others-stay net ns apart old k now after more r.key n limit w on s) ∙ d.crossings)
            ∙ ap (λ (x : Option Crossing). map (λ c. Some c) (filter_map (crossing m) (take k ps)) ++ x ∷ []) (last ∙ sym crosses)
            ∙ sym (ap (map (λ c. Some c)) (crossings-more (crossing m) ps k from at)
            ∙ map-append (λ c. Some c) (filter_map (crossing m) (take k ps)) (cons_option (crossing m from) [])
            ∙ rw crosses refl);
      }
