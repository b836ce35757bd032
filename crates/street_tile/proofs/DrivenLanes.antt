-- Motion goes from one lane with somebody in its cells to the next: on the lanes between nobody moves, and nobody arrives.
use Rattle.std.proofs.Common.{◌≡◌, ℕ, ◌<◌, ◌≤◌, List, ◌++◌, length, map, take, sym, ap, subst, ◌∙◌, arith, Option, None, filter_map}
use Rattle.std.proofs.lemmas.List.{append-nil}
use Rattle.street_base.specs.declared.names.Place.{Place}
use Rattle.street_base.specs.Prelude.{Cells, Track, Vehicle, Queued, Traffic, LaneState, lane_at, driven_lane, drive_on, joining, leaver, leaver_of}
use Rattle.street_lanes.specs.Prelude.{LaneView, LaneStands, Lanes, lane_of, place_at, LanesStand, IsDeserted, HasNobodyInCells, Detectors, watch_of}
use Rattle.street_lanes.proofs.Nobody.{motion-deserted, leaver-deserted}
use Rattle.street_tile.specs.Prelude.{AreBare, detectors_at}
use Rattle.street_tile.proofs.SameLanes.{LanesDone, lanes-kept, stands-at, place-is}
use Rattle.street_tile.proofs.TileMotion.{arrivals-more}
use Rattle.street_tile.proofs.Gaps.{over-gap}

driven-deserted : (m : Traffic) (p : Place) (s : LaneState) → IsDeserted s.track.cells → driven_lane m p s ≡ s
driven-deserted m p s nobody =
    ap (λ (cs : Cells). record s { track = record s.track { cells = cs }; queue = s.queue ++ joining m p (leaver (drive_on m p) s.track.cells s.track.closed) }) (motion-deserted (drive_on m p) s.track.cells s.track.closed nobody)
    ∙ ap (λ (o : Option Vehicle). record s { queue = s.queue ++ joining m p o }) (leaver-deserted (drive_on m p) s.track.cells s.track.closed nobody)
    ∙ ap (λ (qs : List Queued). record s { queue = qs }) (append-nil s.queue)

pub watched-bare : (ds : List Detectors) → AreBare ds → (m : Traffic) (p : Place) (k : ℕ) → k < length ds → (detectors_at ds k).watches ≡ map (watch_of m p) (detectors_at ds k).meters
watched-bare ds bare m p k h = let none = bare k _ h in none.1 ∙ sym (ap (map (watch_of m p)) none.0)

module _ (m : Traffic) (old now : Lanes) (stand : LanesStand old.places old.lanes m) (even : length old.lanes ≡ length old.places) (k j : ℕ) (le : k ≤ j) (within : j ≤ length old.lanes) (d : LanesDone (driven_lane m) m old k now) (nobody : (i : ℕ) → k ≤ i → i < j → HasNobodyInCells (lane_of now i)) where
  stood : (i : ℕ) → k ≤ i → i < j → LaneStands (lane_of now i) (lane_at m (place_at old i))
  stood i above below = subst (λ (x : LaneView). LaneStands x (lane_at m (place_at old i))) (sym (d.rest i above)) (stands-at m old stand i (omega arith) (omega arith))

  deserted : (i : ℕ) → k ≤ i → i < j → IsDeserted (lane_at m (place_at old i)).track.cells
  unfolding LaneStands
  deserted i above below = subst (λ (t : Track). IsDeserted t.cells) (stood i above below).track (nobody i above below)

  pub driven-over : LanesDone (driven_lane m) m old j now
  driven-over = over-gap (λ i. LanesDone (driven_lane m) m old i now) k j le (λ i above below before. lanes-kept (driven_lane m) m old i now before (subst (LaneStands (lane_of now i)) (sym (driven-deserted m (place_at old i) (lane_at m (place_at old i)) (deserted i above below))) (stood i above below))) d

  -- nothing is told of a lane that nobody leaves
  module _ {A : Type 0} (tell : Place → Option Vehicle → Option A) (nothing : (p : Place) → tell p None ≡ None) where
    told-deserted : (p : Place) → IsDeserted (lane_at m p).track.cells → tell p (leaver_of m p) ≡ None
    told-deserted p none = ap (tell p) (leaver-deserted (drive_on m p) (lane_at m p).track.cells (lane_at m p).track.closed none) ∙ nothing p

    pub arrived-over : (before after : List A) → after ≡ before ++ filter_map (λ p. tell p (leaver_of m p)) (take k old.places) → after ≡ before ++ filter_map (λ p. tell p (leaver_of m p)) (take j old.places)
    arrived-over before after so_far =
        over-gap (λ i. after ≡ before ++ filter_map (λ p. tell p (leaver_of m p)) (take i old.places)) k j le
        (λ i above below e. arrivals-more (λ p. tell p (leaver_of m p)) old.places i (place_at old i) (place-is old i (omega arith)) before after after None e (sym (told-deserted (place_at old i) (deserted i above below))) (sym (append-nil after))) so_far
