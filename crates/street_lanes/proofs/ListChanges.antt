-- Lane changes: what the lists of two lanes stand for afterwards.
use Rattle.std.proofs.Common.{◌≡◌, ℕ, ◌+◌, ◌<◌, List, [], ◌∷◌, length, map, Option, Some, None, refl, sym, ap, subst, ◌∙◌, arith, Bool, true, not, is_some}
use Rattle.std.proofs.lemmas.Bool.{true≢false}
use Rattle.std.proofs.lemmas.List.Elements.{All-cons}
use Rattle.street_base.specs.declared.net.NetSpec.{NetSpec}
use Rattle.street_base.specs.Prelude.{Cells, Track, link_at, Traffic, LaneState, changing_on}
use Rattle.street_rule.specs.Prelude.{Road, no_lane, lists_of, IsRoadLane, IsRoad, Changes, KeepsRest}
use Rattle.street_gap.specs.declared.closures.Stretch.{Stretch}
use Rattle.street_gap.specs.Prelude.{IsWithin}
use Rattle.street_yard.specs.declared.names.Key.{Key}
use Rattle.street_yard.specs.Prelude.{Yard, list_at, first_or, Away, IsWhole, IsLane}
use Rattle.street_yard.proofs.YardLemmas.{no_head}
use Rattle.street_lanes.specs.Prelude.{queued_of, IsDeserted, IsLaneOf, cells_list, buffer_list, waiting_list, lane_seen, SameList, Touches, changed_lane, ChangesLanes}
use Rattle.street_lanes.proofs.Cars.{cars-kept}
use Rattle.street_lanes.proofs.Parts.{lane-parts, touch-same}
use Rattle.street_lanes.proofs.Loose.{loose-changed}
use Rattle.street_lanes.proofs.Nobody.{changed_cells-deserted}
use Rattle.street_lanes.proofs.Front.{nobody-listed}

-- a list without a front has no key
pub empty-by : (y : Yard) (list same : ℕ) (front : Option Key) (none : Bool) → list ≡ same → front ≡ first_or (list_at y list) None → is_some front ≡ not none → none ≡ true → list_at y same ≡ []
empty-by y list same None none is at told e = no_head (list_at y same) None refl (subst (λ (l : ℕ). ◌≡◌ {A = Option ℕ} None (first_or (list_at y l) None)) is at)
empty-by y list same (Some k) none is at told e = absurd (true≢false (told ∙ ap not e))

pair-of-tracks : (a b c d : Track) → a ∷ b ∷ [] ≡ c ∷ d ∷ [] → (a ≡ c) × (b ≡ d)
pair-of-tracks a b c d e = (cc, cc)

module _ (net : NetSpec) (clock link : ℕ) (own other : List Stretch) (n : ℕ) where
  abbrev count : ℕ
  count = (link_at net link).length

  abbrev road : ℕ → ℕ → Road
  road a b = record { network = net; link = link; lanes = record { list = a; closed = own } ∷ record { list = b; closed = other } ∷ [] }

  -- the lists of two lanes stand for the link
  pub road-stands : (y : Yard) (a b : ℕ) (r : Road) → a ≡ cells_list n → b ≡ cells_list (n + 1) → r ≡ road a b → cells_list (n + 1) < length y.lists → IsLane y (cells_list n) count → IsLane y (cells_list (n + 1)) count → IsWithin own count → IsWithin other count → IsRoad y r
  road-stands y a b r a_is b_is r_is listed first second own_within other_within =
      rw (r_is, a_is, b_is) (record {
        lanes = All-cons (IsRoadLane y count) _ (record { list = cells_list (n + 1); closed = other } ∷ []) (record { listed = omega arith; stands = first; within = own_within }) (All-cons (IsRoadLane y count) _ [] (record { listed = listed; stands = second; within = other_within }) (λ k d h. absurd (omega arith)));
        apart = (((λ e. omega arith), tt), (tt, tt));
      })

  abbrev here : Road
  here = road (cells_list n) (cells_list (n + 1))

  -- the lists lie apart
  buffer-away : Away (buffer_list n) (lists_of here) × Away (buffer_list (n + 1)) (lists_of here)
  buffer-away = ((λ e. omega arith, (λ e. omega arith, tt)), (λ e. omega arith, (λ e. omega arith, tt)))

  waiting-away : Away (waiting_list n) (lists_of here) × Away (waiting_list (n + 1)) (lists_of here)
  waiting-away = ((λ e. omega arith, (λ e. omega arith, tt)), (λ e. omega arith, (λ e. omega arith, tt)))

  -- ---- after the pass

  module _ (old new : Yard) (changes : Changes old new here clock) (stands : IsRoad new here) (rest : KeepsRest old new (lists_of here)) where
    same : (list : ℕ) → Away list (lists_of here) → SameList old new list
    same list away = record { keys = rest.others list away; cars = λ k h. rest.cars k }

    touches : Touches (cells_list n ∷ cells_list (n + 1) ∷ []) old new
    touches = record { count = rest.count; others = same; short = λ short k car is. short k car (sym (rest.cars k) ∙ is) }

    module _ (m : Traffic) (a b : LaneState) (network : m.network ≡ net) (at : m.clock ≡ clock) (stood : IsLaneOf (lane_seen old own count n) a) (stood_beside : IsLaneOf (lane_seen old other count (n + 1)) b) where
      both : ((lane_seen new own count n).track ≡ (changed_lane (changing_on m link) 0 a b).track) × ((lane_seen new other count (n + 1)).track ≡ (changed_lane (changing_on m link) 1 b a).track)
      both = pair-of-tracks _ _ _ _ (changes m (a ∷ b ∷ []) network at (ap (λ (t : Track). t ∷ (lane_seen old other count (n + 1)).track ∷ []) stood.track ∙ ap (λ (t : Track). a.track ∷ t ∷ []) stood_beside.track))

      first-changed : IsLaneOf (lane_seen new own count n) (changed_lane (changing_on m link) 0 a b)
      first-changed = lane-parts old new own count n a (changed_lane (changing_on m link) 0 a b).track a.queue stood both.0 (ap (map queued_of) (cars-kept old new (buffer_list n) (same (buffer_list n) buffer-away.0)) ∙ stood.queue) (same (waiting_list n) waiting-away.0)

      second-changed : IsLaneOf (lane_seen new other count (n + 1)) (changed_lane (changing_on m link) 1 b a)
      second-changed = lane-parts old new other count (n + 1) b (changed_lane (changing_on m link) 1 b a).track b.queue stood_beside both.1 (ap (map queued_of) (cars-kept old new (buffer_list (n + 1)) (same (buffer_list (n + 1)) buffer-away.1)) ∙ stood_beside.queue) (same (waiting_list (n + 1)) waiting-away.1)

    changes-lanes : ChangesLanes net clock link own other n old new
    changes-lanes = record {
      touches = touches;
      room = rest.room;
      none_loose = loose-changed old new (lists_of here) rest;
      first_lane = (stands.lanes 0 no_lane (omega arith)).stands;
      second_lane = (stands.lanes 1 no_lane (omega arith)).stands;
      first = first-changed;
      second = second-changed;
    }

  -- by the road that the code has
  pub ChangesLanes-changed : (old new : Yard) (way : Road) (a b : ℕ) → a ≡ cells_list n → b ≡ cells_list (n + 1) → way ≡ road a b → Changes old new way clock → IsRoad new way → KeepsRest old new (lists_of way) → ChangesLanes net clock link own other n old new
  ChangesLanes-changed old new way a b a_is b_is way_is changes stands rest =
      let is : way ≡ here = way_is ∙ ap (λ (l : ℕ). road l b) a_is ∙ ap (road (cells_list n)) b_is in
      changes-lanes old new
      (subst (λ (r : Road). Changes old new r clock) is changes)
      (subst (IsRoad new) is stands)
      (subst (λ (r : Road). KeepsRest old new (lists_of r)) is rest)

  -- ---- nobody is on either lane

  nobody-changed : (m : Traffic) (lane : ℕ) (x y : LaneState) → IsDeserted x.track.cells → IsDeserted y.track.cells → x ≡ changed_lane (changing_on m link) lane x y
  nobody-changed m lane x y empty empty_beside = ap (λ (cs : Cells). record x { track = record x.track { cells = cs } }) (sym (changed_cells-deserted (changing_on m link) lane x.track y.track empty empty_beside))

  pub ChangesLanes-nobody : (y : Yard) → IsWhole y → IsLane y (cells_list n) count → IsLane y (cells_list (n + 1)) count → list_at y (cells_list n) ≡ [] → list_at y (cells_list (n + 1)) ≡ [] → ChangesLanes net clock link own other n y y
  ChangesLanes-nobody y whole first second none none_beside =
      let empty : (l : LaneState) → IsLaneOf (lane_seen y own count n) l → IsDeserted l.track.cells = λ l stood. subst (λ (t : Track). IsDeserted t.cells) stood.track (nobody-listed y (cells_list n) count whole none) in
      let empty_beside : (l : LaneState) → IsLaneOf (lane_seen y other count (n + 1)) l → IsDeserted l.track.cells = λ l stood. subst (λ (t : Track). IsDeserted t.cells) stood.track (nobody-listed y (cells_list (n + 1)) count whole none_beside) in
      record {
        touches = touch-same (cells_list n ∷ cells_list (n + 1) ∷ []) y;
        room = refl;
        none_loose = λ none. none;
        first_lane = first;
        second_lane = second;
        first = λ m a b network at stood beside. subst (IsLaneOf (lane_seen y own count n)) (nobody-changed m 0 a b (empty a stood) (empty_beside b beside)) stood;
        second = λ m a b network at stood beside. subst (IsLaneOf (lane_seen y other count (n + 1))) (nobody-changed m 1 b a (empty_beside b beside) (empty a stood)) beside;
      }
