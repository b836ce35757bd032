-- The detectors of a tile, lane after lane and phase after phase.
use Rattle.std.proofs.Common.{◌≡◌, ℕ, zero, suc, ◌+◌, ◌<◌, ◌≤◌, Bool, true, false, List, [], ◌∷◌, ◌++◌, length, map, set, get_or, refl, sym, ◌∙◌, ap, subst, arith, inl, inr, Some, slice_get, if◌then◌else◌, All}
use Rattle.std.proofs.lemmas.Bool.{cases_eq}
use Rattle.std.proofs.lemmas.List.{ext_get_or, get_or_default, get_or-map, get_or-set_same, get_or-set_other, length-map, length-set, nil_from_length}
use Rattle.std.proofs.lemmas.Option.{slice_get-get_or, same_Some}
use Rattle.street_base.specs.declared.net.NetSpec.{NetSpec}
use Rattle.street_base.specs.Prelude.{triple, Cells, Track, last_clock, loaded, Drive, is_place, Traffic, LaneState, Triple, Detector, lane_at, drive_on, noted}
use Rattle.street_base.specs.declared.names.Place.{Place}
use Rattle.street_base.proofs.ReleaseLemmas.{is_place-same}
use Rattle.street_lanes.specs.Prelude.{LaneStands, Lanes, lane_of, place_at, no_place, size_of, size_on, cells_on, Detectors, cleared, watch_of, triple_of, GoesOn, Notes, AllGoOn, AllNote, MeterStands, MetersStandFor}
use Rattle.street_lanes.specs.Lanes.{IsOf}
use Rattle.street_meter.specs.Meter.{Meter, Stands, detector_of, next_step}
use Rattle.street_rule.specs.declared.watch.Watch.{Watch}
use Rattle.street_tile.specs.Prelude.{TileView, IsBare, AreBare, AreDue, sizes_of, no_detectors, detectors_at, bare, KeepMeters, HaveNoted, detectors_on, MetersStand}
use Rattle.street_tile.proofs.SameLanes.{even-of}
use Rattle.street_node.proofs.LaneWalk.{filter-holds}

-- ---- how many cells the lanes have

-- lists of as many, each of the same size
pub same-sizes : (olds news : List Detectors) → length news ≡ length olds → ((k : ℕ) → (detectors_at news k).size ≡ (detectors_at olds k).size) → sizes_of news ≡ sizes_of olds
same-sizes olds news even each = ext_get_or 0 (sizes_of news) (sizes_of olds) (length-map news (λ g. g.size) ∙ even ∙ sym (length-map olds (λ g. g.size))) (λ i h.
    let long = length-map news (λ (g : Detectors). g.size) in
    get_or-map (λ (g : Detectors). g.size) news i no_detectors 0 (omega arith) ∙ each i ∙ sym (get_or-map (λ (g : Detectors). g.size) olds i no_detectors 0 (omega arith)))

pub keep-sizes : (olds news : List Detectors) → KeepMeters olds news → sizes_of news ≡ sizes_of olds
keep-sizes olds news keep = same-sizes olds news keep.even (λ k. ap (λ (g : Detectors). g.size) (keep.each k))

pub noted-sizes : (own : Lanes) (olds news : List Detectors) → HaveNoted own olds news → sizes_of news ≡ sizes_of olds
noted-sizes own olds news noted = same-sizes olds news noted.even (λ k. ap (λ (g : Detectors). g.size) (noted.each k))

module _ (net : NetSpec) (own : Lanes) (of : IsOf net own) (detectors : List Detectors) (sized : sizes_of detectors ≡ map (cells_on net) own.places) where
  -- there are detectors for each lane
  pub detectors-even : length detectors ≡ length own.places
  detectors-even = sym (length-map detectors (λ g. g.size)) ∙ ap length sized ∙ length-map own.places (cells_on net)

  pub size-at : (n : ℕ) → n < length own.places → (d : Detectors) → (get_or detectors n d).size ≡ length (lane_of own n).track.cells
  size-at n h d =
      let even = detectors-even in
      let long = even-of net own of in
      let first : (get_or detectors n d).size ≡ cells_on net (place_at own n) = sym (get_or-map (λ (g : Detectors). g.size) detectors n d 0 (omega arith)) ∙ ap (λ xs. get_or xs n 0) sized ∙ get_or-map (cells_on net) own.places n no_place 0 h in
      let second : size_of (lane_of own n) ≡ size_on net (place_at own n) = sym (get_or-map size_of own.lanes n _ (0, 0) (omega arith)) ∙ ap (λ xs. get_or xs n (0, 0)) of.sized ∙ get_or-map (size_on net) own.places n no_place (0, 0) h in
      first ∙ sym (ap (λ (s : ℕ × ℕ). s.0) second)

-- ---- no detectors

pub bare-sizes : (net : NetSpec) (own : List Place) → sizes_of (map (bare net) own) ≡ map (cells_on net) own
bare-sizes net [] = refl
bare-sizes net (at ∷ own) = ap (λ (ns : List ℕ). cells_on net at ∷ ns) (bare-sizes net own)

bare-none : (net : NetSpec) (own : List Place) (k : ℕ) → IsBare (detectors_at (map (bare net) own) k)
bare-none net [] k = (refl, refl)
bare-none net (at ∷ own) zero = (refl, refl)
bare-none net (at ∷ own) (suc k) = bare-none net own k

pub bare-due : (net : NetSpec) (own : List Place) (clock : ℕ) → AreDue clock (map (bare net) own)
bare-due net own clock k d h =
    let none : (get_or (map (bare net) own) k d).meters ≡ [] = ap (λ (g : Detectors). g.meters) (get_or_default (map (bare net) own) k d no_detectors h) ∙ (bare-none net own k).0 in
    subst (All (λ x. next_step x ≡ clock)) (sym none) (λ j x l. absurd (omega arith))

pub bare-stand : (net : NetSpec) (ps : List Place) (own : List Place) (detectors : List Detectors) → detectors ≡ map (bare net) own → (k : ℕ) (p : Place) → slice_get ps k ≡ Some p → MetersStandFor (detectors_at detectors k).meters (detectors_on p (loaded net).detectors)
unfolding loaded
bare-stand net ps own detectors is k p at = subst (λ (ms : List Meter). MetersStandFor ms []) (sym (ap (λ gs. (detectors_at gs k).meters) is ∙ (bare-none net own k).0)) (record { even = refl; each = λ j y d h. absurd (omega arith) })

-- none of the lanes has a detector
pub bare-all : (net : NetSpec) (own : List Place) → AreBare (map (bare net) own)
bare-all net own k d h = subst IsBare (sym (get_or_default (map (bare net) own) k d no_detectors h)) (bare-none net own k)

-- so there is nothing to note
pub bare-noted : (own : Lanes) (detectors : List Detectors) → AreBare detectors → HaveNoted own detectors detectors
bare-noted own detectors bare = record {
  even = refl;
  each = λ k. refl;
  go = λ k h. record { even = refl; each = λ j x l. absurd (let none = ap length (bare k no_detectors h).0 in omega arith) };
  note = λ k s h stands j x w l. absurd (let none = ap length (bare k no_detectors h).0 in omega arith);
}

-- noting a step places no detector
pub noted-bare : (own : Lanes) (olds news : List Detectors) → HaveNoted own olds news → AreBare olds → AreBare news
noted-bare own olds news noted bare k d h =
    let even = noted.even in
    let go = (noted.go k (omega arith)).even in
    let was = bare k no_detectors (omega arith) in
    let none = ap length was.0 in
    let is = get_or_default news k d no_detectors h in
    (ap (λ (g : Detectors). g.meters) is ∙ nil_from_length (detectors_at news k).meters (omega arith), ap (λ (g : Detectors). g.watches) (is ∙ noted.each k) ∙ was.1)

-- ---- motion, lane after lane

module _ (olds now : List Detectors) (keep : KeepMeters olds now) (n : ℕ) (h : n < length olds) (after d : Detectors) (is : after ≡ record (get_or now n d) { watches = after.watches }) where
  within : n < length now
  within = let e = keep.even in omega arith

  was : get_or now n d ≡ detectors_at now n
  was = get_or_default now n d no_detectors within

  here : detectors_at (set now n after) n ≡ after
  here = get_or-set_same now n after no_detectors within

  kept : after ≡ record (detectors_at olds n) { watches = after.watches }
  kept = is ∙ ap (λ (g : Detectors). record g { watches = after.watches }) (was ∙ keep.each n)

  pub keep-next : KeepMeters olds (set now n after)
  keep-next = record {
    even = length-set now n after ∙ keep.even;
    each = λ k. elim (cases_eq k n) as (λ _. detectors_at (set now n after) k ≡ record (detectors_at olds k) { watches = (detectors_at (set now n after) k).watches }) [
      | inl e ↦ rw (e, here) kept
      | inr ne ↦ rw (get_or-set_other now n k after no_detectors ne) (keep.each k)
    ];
  }

  -- the watches of one lane more have seen its motion
  pub watched-next : (m : Traffic) (ps : List Place) → ((k : ℕ) (p : Place) → k < n → slice_get ps k ≡ Some p → (detectors_at now k).watches ≡ map (watch_of m p) (detectors_at now k).meters)
      → (q : Place) → slice_get ps n ≡ Some q → after.watches ≡ map (watch_of m q) (get_or now n d).meters
      → (k : ℕ) (p : Place) → k < n + 1 → slice_get ps k ≡ Some p → (detectors_at (set now n after) k).watches ≡ map (watch_of m p) (detectors_at (set now n after) k).meters
  watched-next m ps before q at_q seen k p below at_p = elim (cases_eq k n) as (λ _. (detectors_at (set now n after) k).watches ≡ map (watch_of m p) (detectors_at (set now n after) k).meters) [
    | inl e ↦ (
        let same = same_Some q p (sym at_q ∙ ap (slice_get ps) (sym e) ∙ at_p) in
        rw (e, here) (seen ∙ ap (λ (r : Place). map (watch_of m r) (get_or now n d).meters) same ∙ ap (λ (g : Detectors). map (watch_of m p) g.meters) (sym is)))
    | inr ne ↦ rw (get_or-set_other now n k after no_detectors ne) (before k p (omega arith) at_p)
  ]

-- who was due at a step still is
pub keep-due : (clock : ℕ) (olds news : List Detectors) → KeepMeters olds news → AreDue clock olds → AreDue clock news
keep-due clock olds news keep due k d h =
    let even = keep.even in
    let same : (get_or news k d).meters ≡ (detectors_at olds k).meters = ap (λ (g : Detectors). g.meters) (get_or_default news k d no_detectors h ∙ keep.each k) in
    subst (All (λ x. next_step x ≡ clock)) (sym same) (due k no_detectors (omega arith))

-- ---- the step is noted, lane after lane

module _ (own : Lanes) (olds : List Detectors) where
  -- the meters of the lanes before n have noted it
  pub record AreNoted (n : ℕ) (now : List Detectors) : Type 0 where
    pub even : length now ≡ length olds
    pub each : (k : ℕ) → detectors_at now k ≡ record (detectors_at olds k) { meters = (detectors_at now k).meters }
    pub go : (k : ℕ) → k < n → k < length olds → AllGoOn (detectors_at olds k).meters (detectors_at now k).meters
    pub note : (k : ℕ) (s : LaneState) → k < n → k < length olds → LaneStands (lane_of own k) s → AllNote s.track.cells (detectors_at olds k).watches (detectors_at olds k).meters (detectors_at now k).meters
    pub rest : (k : ℕ) (d : Detectors) → n ≤ k → get_or now k d ≡ get_or olds k d

  pub noted-start : AreNoted 0 olds
  noted-start = record { even = refl; each = λ k. refl; go = λ k h. absurd (omega arith); note = λ k s h. absurd (omega arith); rest = λ k d h. refl }

  module _ (n : ℕ) (now : List Detectors) (a : AreNoted n now) (h : n < length olds) (d after : Detectors) (is : after ≡ record (get_or now n d) { meters = after.meters }) where
    there : n < length now
    there = let e = a.even in omega arith

    before : get_or now n d ≡ detectors_at olds n
    before = get_or_default now n d no_detectors there ∙ a.rest n no_detectors (omega arith)

    put : detectors_at (set now n after) n ≡ after
    put = get_or-set_same now n after no_detectors there

    pub noted-next : AllGoOn (get_or now n d).meters after.meters → ((s : LaneState) → LaneStands (lane_of own n) s → AllNote s.track.cells (get_or now n d).watches (get_or now n d).meters after.meters) → AreNoted (n + 1) (set now n after)
    noted-next go note = record {
      even = length-set now n after ∙ a.even;
      each = λ k. elim (cases_eq k n) as (λ _. detectors_at (set now n after) k ≡ record (detectors_at olds k) { meters = (detectors_at (set now n after) k).meters }) [
        | inl e ↦ rw (e, put) (is ∙ ap (λ (g : Detectors). record g { meters = after.meters }) before)
        | inr ne ↦ rw (get_or-set_other now n k after no_detectors ne) (a.each k)
      ];
      go = λ k l in_olds. elim (cases_eq k n) as (λ _. AllGoOn (detectors_at olds k).meters (detectors_at (set now n after) k).meters) [
        | inl e ↦ rw (e, put) (subst (λ (g : Detectors). AllGoOn g.meters after.meters) before go)
        | inr ne ↦ rw (get_or-set_other now n k after no_detectors ne) (a.go k (omega arith) in_olds)
      ];
      note = λ k s l in_olds stands. elim (cases_eq k n) as (λ _. AllNote s.track.cells (detectors_at olds k).watches (detectors_at olds k).meters (detectors_at (set now n after) k).meters) [
        | inl e ↦ rw (e, put) (subst (λ (g : Detectors). AllNote s.track.cells g.watches g.meters after.meters) before (note s (subst (λ j. LaneStands (lane_of own j) s) e stands)))
        | inr ne ↦ rw (get_or-set_other now n k after no_detectors ne) (a.note k s (omega arith) in_olds stands)
      ];
      rest = λ k e above. get_or-set_other now n k after e (λ f. absurd (omega arith)) ∙ a.rest k e (omega arith);
    }

  pub noted-all : (n : ℕ) (now : List Detectors) → AreNoted n now → length olds ≤ n → HaveNoted own olds now
  noted-all n now a all = record { even = a.even; each = a.each; go = λ k h. a.go k (omega arith) h; note = λ k s h. a.note k s (omega arith) h }

  -- who was due at a step is due at the next one
  pub noted-due : (clock : ℕ) (now : List Detectors) → HaveNoted own olds now → AreDue clock olds → AreDue (clock + 1) now
  noted-due clock now noted due k d h j x l =
      let even = noted.even in
      let same : get_or now k d ≡ detectors_at now k = get_or_default now k d no_detectors h in
      let go = noted.go k (omega arith) in
      let long : length (get_or now k d).meters ≡ length (detectors_at olds k).meters = ap (λ (g : Detectors). length g.meters) same ∙ go.even in
      let one = (go.each j x (omega arith)).next in
      let was = due k no_detectors (omega arith) j x (omega arith) in
      rw same (omega (arith, one, was))

-- who is due before the last step has a step to note
pub due-early : (clock : ℕ) → clock < last_clock → (own : Lanes) (olds : List Detectors) (n : ℕ) (now : List Detectors) → AreNoted own olds n now → (d : Detectors) → n < length olds → AreDue clock olds → All (λ x. next_step x < last_clock) (get_or now n d).meters
due-early clock early own olds n now a d h due j x l =
    let same = a.rest n d (omega arith) in
    let long : length (get_or now n d).meters ≡ length (get_or olds n d).meters = ap (λ (g : Detectors). length g.meters) same in
    let is = due n d h j x (omega arith) in
    subst (λ (g : Detectors). next_step (get_or g.meters j x) < last_clock) (sym same) (omega arith)

-- ---- one lane's detectors note the step

-- a detector stays on its lane
on-noted : (p : Place) (before m : Traffic) (ds : List Detector) → detectors_on p (map (noted before m) ds) ≡ map (noted before m) (detectors_on p ds)
on-noted p before m [] = refl
on-noted p before m (d ∷ ds) = by (is_place p d.place) (on-noted p before m ds)
  where
    by : (b : Bool) → detectors_on p (map (noted before m) ds) ≡ map (noted before m) (detectors_on p ds) → (if b then noted before m d ∷ detectors_on p (map (noted before m) ds) else detectors_on p (map (noted before m) ds)) ≡ map (noted before m) (if b then d ∷ detectors_on p ds else detectors_on p ds)
    by true rest = ap (λ (es : List Detector). noted before m d ∷ es) rest
    by false rest = rest

same-triple : (a b passes speeds occupied : ℕ) → a ≡ passes → b ≡ speeds → ◌≡◌ {A = Triple} (record { passes = 0 + a; speeds = 0 + b; occupied = occupied }) (record { passes = passes; speeds = speeds; occupied = occupied })
same-triple a b passes speeds occupied e f = let g : 0 + a ≡ passes = omega arith in let h : 0 + b ≡ speeds = omega arith in rw (g, h) refl

-- what a watch saw of the motion, and who stands where at the end, make the triple
triple-is : (drive : Drive) (track : Track) (after : Cells) (cell : ℕ) → ◌≡◌ {A = Triple} (record { passes = 0 + (triple drive track.cells track.closed [] cell).passes; speeds = 0 + (triple drive track.cells track.closed [] cell).speeds; occupied = (triple drive track.cells track.closed after cell).occupied }) (triple drive track.cells track.closed after cell)
unfolding triple
triple-is drive track after cell = same-triple _ _ _ _ _ refl refl

module _ (before m : Traffic) (p : Place) (old new : Meter) (d : Detector) (on : p ≡ d.place) (s : MeterStands old d) (goes : GoesOn old new) (note : Notes (lane_at m p).track.cells (watch_of before p old) old new) where
  now : detector_of new (noted before m d).triples ≡ detector_of old (noted before m d).triples
  now = rw (goes.placed.place, goes.placed.cell, goes.placed.period, goes.placed.start) refl

  cell : d.cell ≡ old.cell
  cell = ap (λ (e : Detector). e.cell) s.placed

  tripled : triple_of (lane_at m p).track.cells (watch_of before p old) old.cell ≡ triple (drive_on before d.place) (lane_at before d.place).track.cells (lane_at before d.place).track.closed (lane_at m d.place).track.cells d.cell
  unfolding triple
  tripled = rw (← on, cell) (triple-is (drive_on before p) (lane_at before p).track (lane_at m p).track.cells old.cell)

  pub meter-noted : MeterStands new (noted before m d)
  meter-noted = record {
    placed = ap (λ (e : Detector). record e { triples = (noted before m d).triples }) s.placed ∙ sym now;
    stands = subst (λ (t : Triple). Stands new (d.triples ++ t ∷ [])) tripled (note d.triples s.stands);
  }

-- all detectors of a lane
pub lane-noted : (before m : Traffic) (p : Place) (olds news : List Meter) (ws : List Watch) → AllGoOn olds news → AllNote (lane_at m p).track.cells ws olds news → ws ≡ map (watch_of before p) olds
    → MetersStandFor olds (detectors_on p m.detectors) → MetersStandFor news (detectors_on p (map (noted before m) m.detectors))
lane-noted before m p olds news ws go note saw stand =
    let ds = detectors_on p m.detectors in
    subst (MetersStandFor news) (sym (on-noted p before m m.detectors)) (record {
      even = length-map ds (noted before m) ∙ stand.even ∙ sym go.even;
      each = λ k x d h.
          let even = go.even in
          let long = stand.even in
          let there : k < length olds = omega arith in
          let e : Detector = get_or ds k d in
          let holds = filter-holds (λ (f : Detector). is_place p f.place) m.detectors k e (slice_get-get_or ds k d (omega arith)) in
          let w = cleared x in
          let watch : get_or ws k w ≡ watch_of before p (get_or olds k x) = ap (λ us. get_or us k w) saw ∙ get_or-map (watch_of before p) olds k x w there in
          let noted_so = subst (λ (u : Watch). Notes (lane_at m p).track.cells u (get_or olds k x) (get_or news k x)) watch (note k x w there) in
          subst (MeterStands (get_or news k x)) (sym (get_or-map (noted before m) ds k d d (omega arith)))
          (meter-noted before m p (get_or olds k x) (get_or news k x) e (is_place-same p e.place holds) (stand.each k x d there) (go.each k x there) noted_so);
    })

-- ---- through the phases

-- what does not change the meters nor the detectors
pub meters-through : (x y : TileView) (m after : Traffic) → y.own.places ≡ x.own.places → ((k : ℕ) → (detectors_at y.detectors k).meters ≡ (detectors_at x.detectors k).meters) → after.detectors ≡ m.detectors → MetersStand x m → MetersStand y after
meters-through x y m after places meters detectors stand k p at =
    subst (λ (ds : List Detector). MetersStandFor (detectors_at y.detectors k).meters (detectors_on p ds)) (sym detectors)
    (subst (λ (xs : List Meter). MetersStandFor xs (detectors_on p m.detectors)) (sym (meters k)) (stand k p (sym (ap (λ (ps : List Place). slice_get ps k) places) ∙ at)))
