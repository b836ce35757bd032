-- How many are on the lists of a lane, and of all lanes.
use Rattle.std.proofs.Common.{◌≡◌, ℕ, ◌+◌, ◌*◌, ◌<◌, List, [], length, map, get_or, sym, ap, ◌∙◌, arith, is_some, count_by, sum_by}
use Rattle.std.proofs.lemmas.List.{length-map, get_or-map}
use Rattle.std.proofs.lemmas.Option.{slice_get-get_or}
use Rattle.street_base.specs.Prelude.{Track, Traffic, LaneState, lane_at, no_lane}
use Rattle.street_yard.specs.Prelude.{list_at, IsWhole, every_third, totals_of}
use Rattle.street_yard.proofs.Thirds.{third-sum}
use Rattle.street_lanes.specs.declared.lanes.Lanes.TheInside.{Inside}
use Rattle.street_lanes.specs.declared.lanes.Extent.{Extent}
use Rattle.street_lanes.specs.Prelude.{LaneStands, waiting_of, queued_of, Lanes, lane_of, place_at, no_place, cells_list, buffer_list, waiting_list, cars_on, LanesStand}
use Rattle.street_lanes.specs.Inside.{length_at, seen, AreLaidOut}
use Rattle.street_lanes.proofs.Access.{lanes-are, in-extents, stands-in}
use Rattle.street_lanes.proofs.Cars.{cars-length}
use Rattle.street_lanes.proofs.CellCount.{cells-number}
use Rattle.street_lanes.proofs.WaitingOrder.{in_order-length}

module _ (x : Inside) (v : Lanes) (is : seen x ≡ v) (sound : AreLaidOut x) (whole : IsWhole x.yard) where
  -- ---- one lane

  module _ (n : ℕ) (h : n < length v.lanes) (s : LaneState) (stands : LaneStands (lane_of v n) s) where
    pub cells-counted : length (list_at x.yard (cells_list n)) ≡ count_by is_some s.track.cells
    cells-counted =
        sym (cells-number x.yard (cells_list n) (length_at x.extents.items n) whole (sound.falls n (in-extents x v is n h)))
        ∙ ap (λ (t : Track). count_by is_some t.cells) (stands-in x v is n h s stands).track

    pub buffer-counted : length (list_at x.yard (buffer_list n)) ≡ length s.queue
    buffer-counted =
        sym (cars-length x.yard (buffer_list n) whole)
        ∙ sym (length-map (cars_on x.yard (buffer_list n)) queued_of)
        ∙ ap length (stands-in x v is n h s stands).queue

    pub waiting-counted : length (list_at x.yard (waiting_list n)) ≡ length s.waiting
    waiting-counted =
        sym (cars-length x.yard (waiting_list n) whole)
        ∙ sym (length-map (cars_on x.yard (waiting_list n)) waiting_of)
        ∙ ap length (stands-in x v is n h s stands).waiting
        ∙ in_order-length s.waiting

  -- ---- all lanes

  places-long : length v.places ≡ length x.extents.items
  places-long = sym (ap (λ (w : Lanes). length w.places) is) ∙ length-map x.extents.items (λ (e : Extent). e.at)

  abbrev lengths : List ℕ
  lengths = map (λ (ks : List ℕ). length ks) x.yard.lists

  module _ (m : Traffic) (stand : LanesStand v.places v.lanes m) where
    -- what each lane has on its list k, summed
    summed : (f : LaneState → ℕ) (k : ℕ) → k < 3 → ((n : ℕ) → n < length v.lanes → (s : LaneState) → LaneStands (lane_of v n) s → length (list_at x.yard (3 * n + k)) ≡ f s) → every_third k lengths ≡ sum_by (λ p. f (lane_at m p)) v.places
    summed f k low each =
        sym (third-sum (λ p. f (lane_at m p)) no_place v.places lengths k low long (λ n h.
        let in_lanes : n < length v.lanes = let a = lanes-are x v is in let b = places-long in omega arith in
        let in_lists : 3 * n + k < length x.yard.lists = let a = sound.three_each in let b = places-long in omega arith in
        sym (get_or-map (λ (ks : List ℕ). length ks) x.yard.lists (3 * n + k) [] 0 in_lists
        ∙ each n in_lanes (lane_at m (place_at v n)) (stand n (place_at v n) (lane_of v n) (slice_get-get_or v.places n no_place h) (slice_get-get_or v.lanes n no_lane in_lanes)))))
      where
        long : length lengths ≡ 3 * length v.places
        long = length-map x.yard.lists (λ (ks : List ℕ). length ks) ∙ sound.three_each ∙ ap (λ k. 3 * k) (sym places-long)

    pub cells-summed : (totals : List ℕ) → totals ≡ totals_of x.yard → get_or totals 0 0 ≡ sum_by (λ p. count_by is_some (lane_at m p).track.cells) v.places
    cells-summed totals are = ap (λ l. get_or l 0 0) are ∙ summed (λ s. count_by is_some s.track.cells) 0 (omega arith) (λ n h s st. ap (λ k. length (list_at x.yard k)) (let none : 3 * n + 0 ≡ cells_list n = omega arith in none) ∙ cells-counted n h s st)

    pub buffers-summed : (totals : List ℕ) → totals ≡ totals_of x.yard → get_or totals 1 0 ≡ sum_by (λ p. length (lane_at m p).queue) v.places
    buffers-summed totals are = ap (λ l. get_or l 1 0) are ∙ summed (λ s. length s.queue) 1 (omega arith) buffer-counted

    pub waiting-summed : (totals : List ℕ) → totals ≡ totals_of x.yard → get_or totals 2 0 ≡ sum_by (λ p. length (lane_at m p).waiting) v.places
    waiting-summed totals are = ap (λ l. get_or l 2 0) are ∙ summed (λ s. length s.waiting) 2 (omega arith) waiting-counted
