-- What sites and the detectors of a tile stand for, by the detectors of the machine.
use Rattle.std.proofs.Common.{◌≡◌, ℕ, ◌<◌, true, List, [], ◌∷◌, ◌++◌, length, map, get_or, refl, sym, ◌∙◌, ap, subst, arith, inl, inr, Some, None, slice_get, option_map}
use Rattle.std.proofs.Math.ListN.{length-map}
use Rattle.std.proofs.lemmas.Bool.{cases_eq, cases_lt, cases_Bool}
use Rattle.std.proofs.lemmas.List.{get_or_append_left, get_or_push, length-append}
use Rattle.std.proofs.lemmas.List.Elements.{filter-append}
use Rattle.std.proofs.lemmas.Option.{slice_get-map, slice_get-get_or, slice_get_within, slice_get_past, get_or_from_slice_get}
use Rattle.street_base.specs.declared.net.NetSpec.{NetSpec}
use Rattle.street_base.specs.Prelude.{most_detectors, is_place, Detector}
use Rattle.street_base.specs.declared.names.Place.{Place}
use Rattle.street_base.proofs.ReleaseLemmas.{is_place-refl}
use Rattle.street_lanes.specs.Prelude.{IsLane}
use Rattle.street_tile.specs.Prelude.{detectors_on}
use Rattle.street_engine.specs.declared.sites.DetectorSite.{DetectorSite}
use Rattle.street_engine.specs.Prelude.{IsDetectorSite, AreDetectorSites}

-- ---- each detector is another, where it was

module _ (f : Detector → Detector) (stays : (d : Detector) → (f d).place ≡ d.place) where
  on-map : (p : Place) (ds : List Detector) → detectors_on p (map f ds) ≡ map f (detectors_on p ds)
  on-map p [] = refl
  on-map p (d ∷ ds) =
      let same : is_place p (f d).place ≡ is_place p d.place = ap (is_place p) (stays d) in
      elim (cases_Bool (is_place p d.place)) as (λ _. detectors_on p (map f (d ∷ ds)) ≡ map f (detectors_on p (d ∷ ds))) [
        | inl here ↦ rw (same, here) (ap (λ es. f d ∷ es) (on-map p ds))
        | inr away ↦ rw (same, away) (on-map p ds)
      ]

  pub sites-map : (net : NetSpec) (sites : List DetectorSite) (ds : List Detector) → AreDetectorSites net sites ds → AreDetectorSites net sites (map f ds)
  sites-map net sites ds are =
      let long = length-map ds f in
      let even = are.even in
      let few = are.few in
      record {
        even = omega (arith, long, even);
        few = omega (arith, long, few);
        each = λ i d l.
            let s = get_or sites i d in
            let is = are.each i d l in
            record {
              lane = is.lane;
              there = ap (λ es. slice_get es s.number) (on-map s.at ds) ∙ slice_get-map f (detectors_on s.at ds) s.number ∙ ap (option_map f) is.there ∙ sym (slice_get-map f ds i);
            };
      }

-- ---- a detector more

-- an element that was there is there with more behind it
get-before : {A : Type 0} (xs ys : List A) (k : ℕ) (a : A) → slice_get xs k ≡ Some a → slice_get (xs ++ ys) k ≡ Some a
get-before xs ys k a is =
    let within = slice_get_within xs k a is in
    let long = length-append xs ys in
    slice_get-get_or (xs ++ ys) k a (omega arith) ∙ ap (λ (b : _). Some b) (get_or_append_left xs ys a k within ∙ get_or_from_slice_get xs k a a is)

get-last : {A : Type 0} (xs : List A) (x : A) (k : ℕ) → k ≡ length xs → slice_get (xs ++ x ∷ []) k ≡ Some x
get-last xs x k is =
    let long = length-append xs (x ∷ []) in
    slice_get-get_or (xs ++ x ∷ []) k x (omega arith) ∙ ap (λ (b : _). Some b) (get_or_push xs x x k (sym is))

on-append : (p : Place) (ds es : List Detector) → detectors_on p (ds ++ es) ≡ detectors_on p ds ++ detectors_on p es
on-append p ds es = filter-append (λ (e : Detector). is_place p e.place) ds es

pub sites-more : (net : NetSpec) (sites : List DetectorSite) (ds : List Detector) (s : DetectorSite) (d : Detector) → AreDetectorSites net sites ds → length ds < most_detectors → IsLane net s.at → d.place ≡ s.at → s.number ≡ length (detectors_on s.at ds) → AreDetectorSites net (sites ++ s ∷ []) (ds ++ d ∷ [])
sites-more net sites ds s d are room lane at number =
    let long = length-append ds (d ∷ []) in
    let longer = length-append sites (s ∷ []) in
    let even = are.even in
    record {
      even = omega (arith, long, longer, even);
      few = omega (arith, long, room);
      each = λ i e l. elim (cases_eq i (length sites)) as (λ _. IsDetectorSite net (ds ++ d ∷ []) i (get_or (sites ++ s ∷ []) i e)) [
        | inl last ↦ (
            let there : is_place s.at d.place ≡ true = ap (is_place s.at) at ∙ is_place-refl s.at in
            subst (IsDetectorSite net (ds ++ d ∷ []) i) (sym (get_or_push sites s e i (sym last))) (record {
              lane = lane;
              there = ap (λ es. slice_get es s.number) (on-append s.at ds (d ∷ []) ∙ rw there refl) ∙ get-last (detectors_on s.at ds) d s.number number ∙ sym (get-last ds d i (last ∙ even));
            }))
        | inr other ↦ (
            let within : i < length sites = omega (arith, l, longer, other) in
            let inside : i < length ds = omega (arith, within, even) in
            let is = are.each i e within in
            let t = get_or sites i e in
            let known = slice_get-get_or ds i d inside in
            subst (IsDetectorSite net (ds ++ d ∷ []) i) (sym (get_or_append_left sites (s ∷ []) e i within)) (record {
              lane = is.lane;
              there = ap (λ es. slice_get es t.number) (on-append t.at ds (d ∷ [])) ∙ get-before (detectors_on t.at ds) (detectors_on t.at (d ∷ [])) t.number (get_or ds i d) (is.there ∙ known) ∙ sym (get-before ds (d ∷ []) i (get_or ds i d) known);
            }))
      ];
    }

-- ---- what is found by a number

pub site-at : (net : NetSpec) (sites : List DetectorSite) (ds : List Detector) (i : ℕ) (s : DetectorSite) → AreDetectorSites net sites ds → slice_get sites i ≡ Some s → IsDetectorSite net ds i s
site-at net sites ds i s are at = subst (IsDetectorSite net ds i) (get_or_from_slice_get sites i s s at) (are.each i s (slice_get_within sites i s at))

pub no-site : (net : NetSpec) (sites : List DetectorSite) (ds : List Detector) (i : ℕ) → AreDetectorSites net sites ds → slice_get sites i ≡ None → slice_get ds i ≡ None
no-site net sites ds i are none = elim (cases_lt i (length ds)) as (λ _. slice_get ds i ≡ None) [
  | inl within ↦ (let even = are.even in let some = slice_get-get_or sites i (record { at = record { link = 0; lane = 0 }; number = 0 }) (omega arith) in cc)
  | inr past ↦ slice_get_past ds i past
]
