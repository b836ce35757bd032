-- A detector more on a tile.
use Rattle.std.proofs.Common.{◌≡◌, ℕ, ◌+◌, ◌<◌, true, false, List, [], ◌∷◌, ◌++◌, length, set, get_or, refl, sym, ◌∙◌, ap, subst, arith, inl, inr, Some, Result, Ok, Err, OnOk, OnErr, slice_get}
use Rattle.std.proofs.lemmas.Bool.{cases_eq, false_from_ne_true}
use Rattle.std.proofs.lemmas.List.{append-nil, length-append, get_or_append_left, get_or_push, get_or_default, get_or-set_same, get_or-set_other, set-get_or, length-set}
use Rattle.std.proofs.lemmas.List.Elements.{filter-append}
use Rattle.std.proofs.lemmas.Option.{slice_get_within, same_Some}
use Rattle.street_base.specs.declared.net.NetSpec.{NetSpec}
use Rattle.street_base.specs.Prelude.{metered, is_place, link_at, Traffic, Detector}
use Rattle.street_base.specs.declared.names.Place.{Place}
use Rattle.street_base.proofs.ReleaseLemmas.{is_place-same, is_place-refl}
use Rattle.street_meter.specs.Meter.{Meter, next_step}
use Rattle.street_lanes.specs.Prelude.{Detectors, MeterStands, MetersStandFor, Placed}
use Rattle.street_tile.specs.Prelude.{TileView, IsTileOf, TileStandsFor, AreDue, sizes_of, detectors_at, no_detectors, detectors_on, MetersStand, PlacesMeter}
use Rattle.street_tile.proofs.SameLanes.{same-none}
use Rattle.street_tile.proofs.SameTile.{tile-seen, place-seen, at-view}
use Rattle.street_tile.proofs.Numbers.{apart-at}
use Rattle.street_tile.proofs.DoesIf.{once-in, lane-sized}
use Rattle.street_tile.proofs.MetersStand.{same-sizes, detectors-even, size-at}

-- the detectors of a lane with one more, which is on it or not
more-there : (p : Place) (ds : List Detector) (d : Detector) → is_place p d.place ≡ true → detectors_on p (ds ++ d ∷ []) ≡ detectors_on p ds ++ d ∷ []
more-there p ds d there = filter-append (λ (e : Detector). is_place p e.place) ds (d ∷ []) ∙ rw there refl

more-away : (p : Place) (ds : List Detector) (d : Detector) → is_place p d.place ≡ false → detectors_on p (ds ++ d ∷ []) ≡ detectors_on p ds
more-away p ds d away = filter-append (λ (e : Detector). is_place p e.place) ds (d ∷ []) ∙ rw away (append-nil (detectors_on p ds))

-- a meter more for a detector more
stand-more : (xs : List Meter) (ds : List Detector) (x : Meter) (d : Detector) → MetersStandFor xs ds → MeterStands x d → MetersStandFor (xs ++ x ∷ []) (ds ++ d ∷ [])
stand-more xs ds x d stand one =
    let even = stand.even in
    let long = length-append xs (x ∷ []) in
    record {
      even = length-append ds (d ∷ []) ∙ ap (λ n. n + 1) even ∙ sym long;
      each = λ k y e h. elim (cases_eq k (length xs)) as (λ _. MeterStands (get_or (xs ++ x ∷ []) k y) (get_or (ds ++ d ∷ []) k e)) [
        | inl last ↦ subst (MeterStands (get_or (xs ++ x ∷ []) k y)) (sym (get_or_push ds d e k (even ∙ sym last))) (subst (λ (z : Meter). MeterStands z d) (sym (get_or_push xs x y k (sym last))) one)
        | inr other ↦ (
            let within : k < length xs = omega arith in
            subst (MeterStands (get_or (xs ++ x ∷ []) k y)) (sym (get_or_append_left ds (d ∷ []) e k (omega arith))) (subst (λ (z : Meter). MeterStands z (get_or ds k e)) (sym (get_or_append_left xs (x ∷ []) y k within)) (stand.each k y e within)))
      ];
    }

-- a detector elsewhere
pub meters-elsewhere : (x : TileView) (p : Place) (cell period : ℕ) → ((k : ℕ) → slice_get x.own.places k ≡ Some p → ⊥) → (m : Traffic) → MetersStand x m → MetersStand x (metered m p cell period)
unfolding metered
meters-elsewhere x p cell period away m stand k q at =
    let other : is_place q p ≡ false = false_from_ne_true (is_place q p) (λ here. absurd (away k (at ∙ ap (λ (r : Place). Some r) (is_place-same q p here)))) in
    subst (MetersStandFor (detectors_at x.detectors k).meters) (sym (more-away q m.detectors _ other)) (stand k q at)

-- a detector is no part of what a tile shows of lanes and signals
pub stands-metered : (x : TileView) (p : Place) (cell period : ℕ) (m : Traffic) → TileStandsFor x m → TileStandsFor x (metered m p cell period)
unfolding metered
stands-metered x p cell period m s = record { clock = s.clock; lanes = s.lanes; none_loose = s.none_loose; signals = s.signals }

-- the sums that begin now are due now
pub placed-due : (clock : ℕ) (olds : List Detectors) (n : ℕ) (p : Place) (cell period : ℕ) (d after : Detectors) → n < length olds → Placed p cell period clock (get_or olds n d) after → AreDue clock olds → AreDue clock (set olds n after)
placed-due clock olds n p cell period d after h placed due k e l j x below = elim (cases_eq k n) as (λ _. next_step (get_or (get_or (set olds n after) k e).meters j x) ≡ clock) [
  | inl here ↦ (
      let is : get_or (set olds n after) k e ≡ after = ap (λ i. get_or (set olds n after) i e) here ∙ get_or-set_same olds n after e h in
      let meters : (get_or (set olds n after) k e).meters ≡ (get_or olds n d).meters ++ placed.meter ∷ [] = ap (λ (g : Detectors). g.meters) is ∙ placed.meters in
      let xs = (get_or olds n d).meters in
      let long : length (get_or (set olds n after) k e).meters ≡ length xs + 1 = ap length meters ∙ length-append xs (placed.meter ∷ []) in
      ap (λ ys. next_step (get_or ys j x)) meters ∙ elim (cases_eq j (length xs)) as (λ _. next_step (get_or (xs ++ placed.meter ∷ []) j x) ≡ clock) [
        | inl last ↦ ap (λ (y : Meter). next_step y) (get_or_push xs placed.meter x j (sym last)) ∙ placed.new_one.next
        | inr other ↦ ap (λ (y : Meter). next_step y) (get_or_append_left xs (placed.meter ∷ []) x j (omega arith)) ∙ due n d h j x (omega arith)
      ])
  | inr other ↦ (
      let is : get_or (set olds n after) k e ≡ get_or olds k e = get_or-set_other olds n k after e other in
      let size = length-set olds n after in
      let long : length (get_or (set olds n after) k e).meters ≡ length (get_or olds k e).meters = ap (λ (g : Detectors). length g.meters) is in
      ap (λ (g : Detectors). next_step (get_or g.meters j x)) is ∙ due k e (omega arith) j x (omega arith))
]

-- sums that begin now, or nothing
pub placed-or-not : {A B : Type 0} (clock : ℕ) (olds : List Detectors) (n : ℕ) (p : Place) (cell period : ℕ) (d after : Detectors) → n < length olds → (r : Result A B) → OnOk r (Placed p cell period clock (get_or olds n d) after) → OnErr r (after ≡ get_or olds n d) → AreDue clock olds → AreDue clock (set olds n after)
placed-or-not clock olds n p cell period d after h (Ok a) ok err due = placed-due clock olds n p cell period d after h ok due
placed-or-not clock olds n p cell period d after h (Err b) ok err due = subst (AreDue clock) (sym (ap (set olds n) err ∙ set-get_or olds n d)) due

module _ (net : NetSpec) (x : TileView) (tile : IsTileOf net x) (n : ℕ) (p : Place) (at : slice_get x.own.places n ≡ Some p) where
  pub there : n < length x.detectors
  there = let even = detectors-even net x.own tile.own x.detectors tile.sized in let h = slice_get_within x.own.places n p at in omega arith

  -- its lane's detectors know how many cells it has
  pub detectors-sized : (d : Detectors) → (get_or x.detectors n d).size ≡ (link_at net p.link).length
  detectors-sized d = size-at net x.own tile.own x.detectors tile.sized n (slice_get_within x.own.places n p at) d ∙ lane-sized net x.own tile.own n p at

  module _ (cell period : ℕ) (d after : Detectors) (placed : Placed p cell period x.clock (get_or x.detectors n d) after) where
    is-there : detectors_at (set x.detectors n after) n ≡ after
    is-there = get_or-set_same x.detectors n after no_detectors there

    was : get_or x.detectors n d ≡ detectors_at x.detectors n
    was = get_or_default x.detectors n d no_detectors there

    sizes : sizes_of (set x.detectors n after) ≡ sizes_of x.detectors
    sizes = same-sizes x.detectors (set x.detectors n after) (length-set x.detectors n after) (λ k. elim (cases_eq k n) as (λ _. (detectors_at (set x.detectors n after) k).size ≡ (detectors_at x.detectors k).size) [
      | inl e ↦ rw e (ap (λ (g : Detectors). g.size) is-there ∙ placed.size ∙ ap (λ (g : Detectors). g.size) was)
      | inr ne ↦ ap (λ (g : Detectors). g.size) (get_or-set_other x.detectors n k after no_detectors ne)
    ])

    abbrev one_more : Traffic → Detector
    one_more m = record { place = p; cell = cell; period = period; start = m.clock; triples = [] }

    new_stands : (m : Traffic) → TileStandsFor x m → MeterStands placed.meter (one_more m)
    new_stands m s = record {
      placed = rw (placed.new_one.place, placed.new_one.cell, placed.new_one.period, placed.new_one.start, s.clock) refl;
      stands = placed.new_one.stands;
    }

    pub places-meter : PlacesMeter p cell period x (record x { detectors = set x.detectors n after })
    unfolding metered
    places-meter = record {
      same = record { low = refl; high = refl; links = refl; own = same-none x.own; sized = sizes };
      rest = refl;
      stands = λ m s. record { clock = s.clock; lanes = s.lanes; none_loose = s.none_loose; signals = s.signals };
      meters = λ m s stand k q at_q. elim (cases_eq k n) as (λ _. MetersStandFor (detectors_at (set x.detectors n after) k).meters (detectors_on q (m.detectors ++ one_more m ∷ []))) [
        | inl here ↦ (
            let same = same_Some p q (sym at ∙ ap (slice_get x.own.places) (sym here) ∙ at_q) in
            let test : is_place q p ≡ true = ap (is_place q) same ∙ is_place-refl q in
            let meters : (detectors_at (set x.detectors n after) k).meters ≡ (detectors_at x.detectors k).meters ++ placed.meter ∷ [] = rw here (ap (λ (g : Detectors). g.meters) is-there ∙ placed.meters ∙ ap (λ (g : Detectors). g.meters ++ placed.meter ∷ []) was) in
            subst (λ xs. MetersStandFor xs (detectors_on q (m.detectors ++ one_more m ∷ []))) (sym meters)
            (subst (MetersStandFor ((detectors_at x.detectors k).meters ++ placed.meter ∷ [])) (sym (more-there q m.detectors (one_more m) test))
            (stand-more (detectors_at x.detectors k).meters (detectors_on q m.detectors) placed.meter (one_more m) (stand k q at_q) (new_stands m s))))
        | inr other ↦ (
            let away = apart-at x.own.places (once-in net x tile) k n q p at_q at other in
            let meters : (detectors_at (set x.detectors n after) k).meters ≡ (detectors_at x.detectors k).meters = ap (λ (g : Detectors). g.meters) (get_or-set_other x.detectors n k after no_detectors other) in
            subst (λ xs. MetersStandFor xs (detectors_on q (m.detectors ++ one_more m ∷ []))) (sym meters)
            (subst (MetersStandFor (detectors_at x.detectors k).meters) (sym (more-away q m.detectors (one_more m) away)) (stand k q at_q)))
      ];
    }

-- of what the fields of a tile show
module _ (net : NetSpec) {x v : TileView} (is : x ≡ v) (tile : IsTileOf net v) (n : ℕ) (p : Place) (at : slice_get v.own.places n ≡ Some p) where
  pub seen-there : n < length x.detectors
  seen-there = there net x (tile-seen is tile) n p (place-seen n p is at)

  pub seen-sized : (d : Detectors) → (get_or x.detectors n d).size ≡ (link_at net p.link).length
  seen-sized d = detectors-sized net x (tile-seen is tile) n p (place-seen n p is at) d

  pub seen-meters : (d : Detectors) (m : Traffic) → MetersStand v m → MetersStandFor (get_or x.detectors n d).meters (detectors_on p m.detectors)
  seen-meters d m stand =
      let same : detectors_at v.detectors n ≡ get_or x.detectors n d = ap (λ (t : TileView). detectors_at t.detectors n) (sym is) ∙ sym (get_or_default x.detectors n d no_detectors seen-there) in
      subst (λ (g : Detectors). MetersStandFor g.meters (detectors_on p m.detectors)) same (stand n p at)

  pub seen-placed : (cell period : ℕ) (d after : Detectors) → Placed p cell period x.clock (get_or x.detectors n d) after → PlacesMeter p cell period v (record x { detectors = set x.detectors n after })
  seen-placed cell period d after placed = at-view (PlacesMeter p cell period) is (places-meter net x (tile-seen is tile) n p (place-seen n p is at) cell period d after placed)

  -- nothing was written
  pub seen-same : (d after : Detectors) → after ≡ get_or x.detectors n d → record x { detectors = set x.detectors n after } ≡ v
  seen-same d after same = ap (λ gs. record x { detectors = gs }) (ap (set x.detectors n) same ∙ set-get_or x.detectors n d) ∙ is
