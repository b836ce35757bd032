-- A command to one lane or one node of a tile does so to the whole.
use Rattle.std.proofs.Common.{◌≡◌, ℕ, ◌+◌, ◌-◌, ◌<◌, ◌≤◌, Bool, true, List, length, map, set, get_or, refl, sym, ◌∙◌, ap, subst, arith, inl, inr, Some, None, slice_get, if◌then◌else◌}
use Rattle.std.proofs.lemmas.Bool.{cases_eq, cond-true, cond-false}
use Rattle.std.proofs.lemmas.List.{get_or-map, get_or-set_same, get_or-set_other}
use Rattle.std.proofs.lemmas.Option.{slice_get_within, slice_get-get_or, get_or_from_slice_get, same_Some}
use Rattle.street_base.specs.declared.net.NetSpec.{NetSpec}
use Rattle.street_base.specs.declared.names.Place.{Place}
use Rattle.street_base.specs.Prelude.{is_place, link_at, SignalPlan, is_green, Traffic, LaneState, no_lane, lane_at, with_marks, closed_cells, closed_after, shown_lane}
use Rattle.street_base.specs.declared.reply.Reply.{Reply}
use Rattle.street_base.proofs.ReleaseLemmas.{is_place-refl}
use Rattle.street_node.specs.Prelude.{ShowsAs, AtMostOnce}
use Rattle.street_lanes.specs.Prelude.{LaneView, LaneStands, Lanes, IsLane, Same, GoesIf, GoesAt, lane_of, size_of, size_on, IsOn}
use Rattle.street_lanes.specs.Lanes.{IsOf}
use Rattle.street_net.specs.Prelude.{slot_of}
use Rattle.street_tile.specs.Prelude.{TileView, IsTileOf, TileStandsFor, AreNumbers, is_own, at_place, planned, DoesIf, Does}
use Rattle.street_tile.proofs.SameLanes.{same-none, same-long, even-of}
use Rattle.street_tile.proofs.SameTile.{tile-seen, place-seen, at-view}
use Rattle.street_tile.proofs.Each.{lane_at-each}
use Rattle.street_tile.proofs.OwnLanes.{own-once}
use Rattle.street_tile.proofs.Numbers.{number-found, apart-at}

-- ---- lanes

-- an own lane's number, where the table is of the fields of a tile
pub number-seen : (net : NetSpec) {x v : TileView} → x ≡ v → (p : Place) (numbers : List ℕ) (slot at d : ℕ) → IsTileOf net v → AreNumbers x.links x.own.places numbers → IsLane net p → is_own net v.low v.high p ≡ true → slot ≡ slot_of p → at ≡ get_or numbers slot d → slice_get v.own.places at ≡ Some p
number-seen net {x} {v} is p numbers slot at d tile numbered there own = number-found net v p numbers slot at d tile (subst (λ (t : TileView). AreNumbers t.links t.own.places numbers) is numbered) there own

-- a lane is as long as its link
pub lane-sized : (net : NetSpec) (x : Lanes) → IsOf net x → (n : ℕ) (p : Place) → slice_get x.places n ≡ Some p → length (lane_of x n).track.cells ≡ (link_at net p.link).length
lane-sized net x of n p at =
    let within = slice_get_within x.places n p at in
    let even = even-of net x of in
    let seen : get_or (map size_of x.lanes) n (0, 0) ≡ size_of (lane_of x n) = get_or-map size_of x.lanes n no_lane (0, 0) (omega arith) in
    let wanted : get_or (map (size_on net) x.places) n (0, 0) ≡ size_on net p = get_or-map (size_on net) x.places n p (0, 0) within ∙ ap (size_on net) (get_or_from_slice_get x.places n p p at) in
    ap (λ (s : ℕ × ℕ). s.0) (sym seen ∙ ap (λ (ss : List (ℕ × ℕ)). get_or ss n (0, 0)) of.sized ∙ wanted)

-- what is done to a lane does not hang on the room that was made before
pub goes-with-room : (n : ℕ) (P : LaneState → Type 0) (rule : LaneState → LaneState) (x roomy y : Lanes) (room : ℕ) → roomy ≡ record x { room = room } → GoesIf n P rule roomy y → GoesIf n P rule x y
goes-with-room n P rule x roomy y room is goes =
    let g = subst (λ (l : Lanes). GoesIf n P rule l y) is goes in
    record { same = record { places = g.same.places; sizes = g.same.sizes; loose = g.same.loose; odds = g.same.odds }; goes = g.goes; others = g.others }

-- what is done whatever the lane was
pub goes-always : (n : ℕ) (rule : LaneState → LaneState) (x y : Lanes) → GoesAt n rule x y → GoesIf n (λ s. Unit {0}) rule x y
goes-always n rule x y g = record { same = g.same; goes = λ s stands any. g.goes s stands; others = g.others }

-- a lane after a command to one
pub lane_at-place : (net : NetSpec) (p : Place) (rule : LaneState → LaneState) (m : Traffic) → IsOn net m → (q : Place) → IsLane net q → lane_at (at_place p rule m) q ≡ (if is_place q p then rule (lane_at m q) else lane_at m q)
unfolding at_place
lane_at-place net p rule m on q there = lane_at-each net m on q there (λ r lane. if is_place r p then rule lane else lane)

module _ (net : NetSpec) (x : TileView) (tile : IsTileOf net x) where
  -- no lane is a tile's twice
  pub once-in : AtMostOnce x.own.places
  once-in = subst AtMostOnce (sym tile.places) (own-once net x.low x.high)

  -- an own lane stands for the machine's
  pub stands-in : (m : Traffic) → TileStandsFor x m → (n : ℕ) (p : Place) → slice_get x.own.places n ≡ Some p → LaneStands (lane_of x.own n) (lane_at m p)
  stands-in m s n p at =
      let within = slice_get_within x.own.places n p at in
      let even = even-of net x.own tile.own in
      s.lanes n p (lane_of x.own n) at (slice_get-get_or x.own.lanes n no_lane (omega arith))

  module _ (n : ℕ) (p : Place) (at : slice_get x.own.places n ≡ Some p) (rule : LaneState → LaneState) (own : Lanes) where
    -- what is done to own lane n is done to the lane at its place
    pub does-if : (P : LaneState → Type 0) → GoesIf n P rule x.own own → DoesIf net (λ m. P (lane_at m p)) (at_place p rule) x (record x { own = own })
    unfolding at_place
    does-if P goes = record {
      same = record { low = refl; high = refl; links = refl; own = goes.same; sized = refl };
      handed = refl;
      coming = refl;
      arrived = refl;
      detectors = refl;
      stands = λ m on holds s. record {
        clock = s.clock;
        none_loose = goes.same.loose ∙ s.none_loose;
        signals = s.signals;
        lanes = λ k q l at_now is.
            let at_k : slice_get x.own.places k ≡ Some q = rw goes.same.places at at_now in
            let there : IsLane net q = tile.own.own k q at_k in
            let lane_is : lane_of own k ≡ l = get_or_from_slice_get own.lanes k l no_lane is in
            elim (cases_eq k n) as (λ _. LaneStands l (lane_at (at_place p rule m) q)) [
              | inl here ↦ (
                  let same = same_Some p q (sym at ∙ ap (slice_get x.own.places) (sym here) ∙ at_k) in
                  let test : is_place q p ≡ true = ap (is_place q) same ∙ is_place-refl q in
                  let went : LaneStands (lane_of own n) (rule (lane_at m p)) = goes.goes (lane_at m p) (stands-in m s n p at) holds in
                  let at_q : LaneStands l (rule (lane_at m q)) = subst (λ (r : Place). LaneStands l (rule (lane_at m r))) same (subst (λ (v : LaneView). LaneStands v (rule (lane_at m p))) (ap (lane_of own) (sym here) ∙ lane_is) went) in
                  subst (LaneStands l) (sym (lane_at-place net p rule m on q there ∙ cond-true _ _ _ test)) at_q)
              | inr other ↦ (
                  let away = apart-at x.own.places once-in k n q p at_k at other in
                  let kept : LaneStands (lane_of x.own k) (lane_at m q) = stands-in m s k q at_k in
                  subst (LaneStands l) (sym (lane_at-place net p rule m on q there ∙ cond-false _ _ _ away)) (subst (λ (v : LaneView). LaneStands v (lane_at m q)) (sym (goes.others k other) ∙ lane_is) kept))
            ];
      };
    }

    pub does-at : GoesAt n rule x.own own → Does net (at_place p rule) x (record x { own = own })
    does-at goes = does-if (λ s. Unit {0}) (goes-always n rule x.own own goes)

-- ---- signals

-- a plan that shows what another shows, set at an own node
pub does-plan : (net : NetSpec) (x : TileView) (node : ℕ) (plan other : SignalPlan) → x.low ≤ node → node - x.low < length x.signals → ShowsAs plan other → DoesIf net (λ m. node < length m.signals) (planned node other) x (record x { signals = set x.signals (node - x.low) (Some plan) })
unfolding planned
does-plan net x node plan other low within shows = record {
  same = record { low = refl; high = refl; links = refl; own = same-none x.own; sized = refl };
  handed = refl;
  coming = refl;
  arrived = refl;
  detectors = refl;
  stands = λ m on there s. record {
    clock = s.clock;
    lanes = s.lanes;
    none_loose = s.none_loose;
    signals = λ at above below. elim (cases_eq at node) as (λ _. (place : Place) (next step : ℕ) → is_green (get_or (set x.signals (node - x.low) (Some plan)) (at - x.low) None) place next step ≡ is_green (get_or (set m.signals node (Some other)) at None) place next step) [
      | inl here ↦ (λ place next step.
          let mine : get_or (set x.signals (node - x.low) (Some plan)) (at - x.low) None ≡ Some plan = rw here (get_or-set_same x.signals (node - x.low) (Some plan) None within) in
          let its : get_or (set m.signals node (Some other)) at None ≡ Some other = rw here (get_or-set_same m.signals node (Some other) None there) in
          rw (mine, its) (shows.green_is place next step))
      | inr away ↦ (λ place next step.
          let mine : get_or (set x.signals (node - x.low) (Some plan)) (at - x.low) None ≡ get_or x.signals (at - x.low) None = get_or-set_other x.signals (node - x.low) (at - x.low) (Some plan) None (λ e. away (omega arith)) in
          let its : get_or (set m.signals node (Some other)) at None ≡ get_or m.signals at None = get_or-set_other m.signals node at (Some other) None away in
          rw (mine, its) (s.signals at above below place next step))
    ];
  };
}

-- ---- of what the fields of a tile show

module _ (net : NetSpec) {x v : TileView} (is : x ≡ v) (tile : IsTileOf net v) (n : ℕ) (p : Place) (at : slice_get v.own.places n ≡ Some p) where
  pub seen-length : length (lane_of x.own n).track.cells ≡ (link_at net p.link).length
  seen-length = lane-sized net x.own (tile-seen is tile).own n p (place-seen n p is at)

  pub seen-within : (own : Lanes) → Same x.own own → n < length own.lanes
  seen-within own same =
      let within = slice_get_within x.own.places n p (place-seen n p is at) in
      let even = even-of net x.own (tile-seen is tile).own in
      let long = same-long x.own own same in
      omega arith

  pub seen-if : (P : LaneState → Type 0) (rule : LaneState → LaneState) (roomy own : Lanes) (room : ℕ) → roomy ≡ record x.own { room = room } → GoesIf n P rule roomy own → DoesIf net (λ m. P (lane_at m p)) (at_place p rule) v (record x { own = own })
  seen-if P rule roomy own room e goes = at-view (DoesIf net (λ m. P (lane_at m p)) (at_place p rule)) is (does-if net x (tile-seen is tile) n p (place-seen n p is at) rule own P (goes-with-room n P rule x.own roomy own room e goes))

  pub seen-at : (rule : LaneState → LaneState) (own : Lanes) → GoesAt n rule x.own own → Does net (at_place p rule) v (record x { own = own })
  seen-at rule own goes = at-view (Does net (at_place p rule)) is (does-at net x (tile-seen is tile) n p (place-seen n p is at) rule own goes)

  pub seen-count : (closed : Bool) (first last : ℕ) (own : Lanes) (count : ℕ) → GoesAt n (with_marks closed first last) x.own own → ((s : LaneState) → LaneStands (lane_of own n) s → count ≡ closed_cells s.track.closed) → (m : Traffic) → TileStandsFor v m → count ≡ closed_after closed first last (lane_at m p)
  seen-count closed first last own count goes counts m s = counts (with_marks closed first last (lane_at m p)) (goes.goes (lane_at m p) (stands-in net x (tile-seen is tile) m (subst (λ (t : TileView). TileStandsFor t m) (sym is) s) n p (place-seen n p is at)))

  -- what is true of whatever the lane stands for is true of the machine's lane
  pub seen-any : (P : LaneState → Type 0) → ((s : LaneState) → LaneStands (lane_of x.own n) s → P s) → (m : Traffic) → TileStandsFor v m → P (lane_at m p)
  seen-any P holds m s = holds (lane_at m p) (stands-in net x (tile-seen is tile) m (subst (λ (t : TileView). TileStandsFor t m) (sym is) s) n p (place-seen n p is at))

  pub seen-shown : (reply : Reply) → ((s : LaneState) → LaneStands (lane_of x.own n) s → reply ≡ shown_lane s) → (m : Traffic) → TileStandsFor v m → reply ≡ shown_lane (lane_at m p)
  seen-shown reply shows m s = shows (lane_at m p) (stands-in net x (tile-seen is tile) m (subst (λ (t : TileView). TileStandsFor t m) (sym is) s) n p (place-seen n p is at))

pub seen-plan : (net : NetSpec) {x v : TileView} → x ≡ v → (node k : ℕ) (plan other : SignalPlan) → v.low ≤ node → node < v.high → x.low + length x.signals ≡ x.high → k ≡ node → ShowsAs plan other → DoesIf net (λ m. node < length m.signals) (planned node other) v (record x { signals = set x.signals (k - x.low) (Some plan) })
seen-plan net {x} {v} is node k plan other low high nodes same shows =
    let low_x : x.low ≤ node = subst (λ (t : TileView). t.low ≤ node) (sym is) low in
    let high_x : node < x.high = subst (λ (t : TileView). node < t.high) (sym is) high in
    at-view (DoesIf net (λ m. node < length m.signals) (planned node other)) is (rw same (does-plan net x node plan other low_x (omega arith) shows))
