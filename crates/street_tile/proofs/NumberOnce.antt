-- A number that stands on the own lanes at most once: where it is, and the lanes without it.
use Rattle.std.proofs.Common.{◌≡◌, ℕ, zero, suc, ◌+◌, ◌-◌, ◌<◌, ◌≤◌, List, [], ◌∷◌, length, get_or, refl, sym, ◌∙◌, ap, subst, arith, inl, inr, Option, Some, None, slice_get, IfSome, option_to_list, sum_by}
use Rattle.std.proofs.lemmas.Bool.{cases_eq}
use Rattle.std.proofs.lemmas.List.Sums.{sum_by-cons}
use Rattle.std.proofs.lemmas.Option.{get_or_from_slice_get}
use Rattle.street_base.specs.declared.car.Car.{Car}
use Rattle.street_base.specs.declared.net.NetSpec.{NetSpec}
use Rattle.street_base.specs.declared.names.Place.{Place}
use Rattle.street_base.specs.Prelude.{SignalPlan, Traffic, LaneState, Queued, Waiting, lane_at, in_lane, lane_without}
use Rattle.street_lanes.specs.Prelude.{LaneView, LaneStands, Lanes, IsLane, AllLanes, GoesIf, lane_of, place_at, no_place, IsOn, PlanStands}
use Rattle.street_lanes.proofs.Without.{all-stay, cells-stay}
use Rattle.street_tile.specs.Prelude.{TileView, IsTileOf, TileStandsFor, without, DoesIf, HaveAtMostOne}
use Rattle.street_tile.proofs.Each.{lane_at-each}
use Rattle.street_tile.proofs.SameLanes.{place-is, stands-at, stand-all, even-of}
use Rattle.street_tile.proofs.OwnLanes.{own-lanes}

-- ---- a sum over places

pub sum-at : (f : Place → ℕ) (ps : List Place) (k : ℕ) (p : Place) → slice_get ps k ≡ Some p → f p ≤ sum_by f ps
sum-at f [] k p at = cc
sum-at f (r ∷ ps) zero p at = let same : r ≡ p = cc in let e : f r ≡ f p = ap f same in let cons = sum_by-cons f r ps in omega arith
sum-at f (r ∷ ps) (suc k) p at = let le = sum-at f ps k p at in let cons = sum_by-cons f r ps in omega arith

pub sum-both : (f : Place → ℕ) (ps : List Place) (j k : ℕ) (p q : Place) → (j ≡ k → ⊥) → slice_get ps j ≡ Some p → slice_get ps k ≡ Some q → f p + f q ≤ sum_by f ps
sum-both f [] j k p q ne a b = cc
sum-both f (r ∷ ps) zero zero p q ne a b = absurd (ne refl)
sum-both f (r ∷ ps) zero (suc k) p q ne a b = let same : r ≡ p = cc in let e : f r ≡ f p = ap f same in let le = sum-at f ps k q b in let cons = sum_by-cons f r ps in omega arith
sum-both f (r ∷ ps) (suc j) zero p q ne a b = let same : r ≡ q = cc in let e : f r ≡ f q = ap f same in let le = sum-at f ps j p a in let cons = sum_by-cons f r ps in omega arith
sum-both f (r ∷ ps) (suc j) (suc k) p q ne a b = let le = sum-both f ps j k p q (λ e. ne (ap (λ (n : ℕ). suc n) e)) a b in let cons = sum_by-cons f r ps in omega arith

-- ---- a lane of a tile, as its view shows it

pub lane-seen : {net : NetSpec} {x v : TileView} (n : ℕ) → x ≡ v → IsTileOf net v → n < length v.own.places → IsTileOf net x × (n < length x.own.places)
lane-seen {net} n is tile within = subst (λ (u : TileView). IsTileOf net u × (n < length u.own.places)) (sym is) (tile, within)

-- ---- a number that is not there

-- one lane more on which it is not
pub not-more : (number : ℕ) (x : Lanes) (m : Traffic) (n : ℕ) → in_lane number (lane_at m (place_at x n)) ≡ 0 → ((k : ℕ) (p : Place) → k < n → slice_get x.places k ≡ Some p → in_lane number (lane_at m p) ≡ 0) → (k : ℕ) (p : Place) → k < n + 1 → slice_get x.places k ≡ Some p → in_lane number (lane_at m p) ≡ 0
not-more number x m n none before k p below at = elim (cases_eq k n) as (λ _. in_lane number (lane_at m p) ≡ 0) [
  | inl here ↦ subst (λ (q : Place). in_lane number (lane_at m q) ≡ 0) (ap (place_at x) (sym here) ∙ get_or_from_slice_get x.places k p no_place at) none
  | inr other ↦ before k p (omega arith) at
]

-- ---- a number taken out

module _ (number : ℕ) where
  -- a lane where it is not
  pub lane-same : (s : LaneState) → in_lane number s ≡ 0 → lane_without number s ≡ s
  lane-same s none =
      let a = cells-stay number s.track.cells (omega arith) in
      let b = all-stay number (λ (q : Queued). q.vehicle) s.queue (omega arith) in
      let c = all-stay number (λ (w : Waiting). w.vehicle) s.waiting (omega arith) in
      λ i. record { track = record { cells = a i; closed = s.track.closed }; queue = b i; waiting = c i }

  pub lane_at-without : (net : NetSpec) (m : Traffic) → IsOn net m → (q : Place) → IsLane net q → lane_at (without number m) q ≡ lane_without number (lane_at m q)
  unfolding without
  lane_at-without net m on q there = lane_at-each net m on q there (λ r. lane_without number)

  pub clock-without : (m : Traffic) → (without number m).clock ≡ m.clock
  unfolding without
  clock-without m = refl

  pub signals-without : (m : Traffic) → (without number m).signals ≡ m.signals
  unfolding without
  signals-without m = refl

  module _ (net : NetSpec) (x : TileView) (tile : IsTileOf net x) (n : ℕ) (h : n < length x.own.places) where
    there : (k : ℕ) (p : Place) → slice_get x.own.places k ≡ Some p → IsLane net p
    there = subst (AllLanes net) (sym tile.places) (own-lanes net x.low x.high)

    pub stands-here : (m : Traffic) → TileStandsFor x m → LaneStands (lane_of x.own n) (lane_at m (place_at x.own n))
    stands-here m s = stands-at m x.own s.lanes n h (let e = even-of net x.own tile.own in omega arith)

    pub few-here : (m : Traffic) → HaveAtMostOne x.own.places m number → in_lane number (lane_at m (place_at x.own n)) ≤ 1
    few-here m few = let le = sum-at (λ p. in_lane number (lane_at m p)) x.own.places n (place_at x.own n) (place-is x.own n h) in omega arith

    -- how many are taken out of lane n is how many are there
    module _ (gone : ℕ) (found : (s : LaneState) → LaneStands (lane_of x.own n) s → in_lane number s ≤ 1 → gone ≡ in_lane number s) where
      pub gone-is : (m : Traffic) → TileStandsFor x m → HaveAtMostOne x.own.places m number → gone ≡ in_lane number (lane_at m (place_at x.own n))
      gone-is m s few = found (lane_at m (place_at x.own n)) (stands-here m s) (few-here m few)

      -- where one is taken out of lane n, no other own lane had it
      others-none : 0 < gone → (m : Traffic) → TileStandsFor x m → HaveAtMostOne x.own.places m number → (k : ℕ) (p : Place) → (k ≡ n → ⊥) → slice_get x.own.places k ≡ Some p → in_lane number (lane_at m p) ≡ 0
      others-none some m s few k p ne at =
          let both = sum-both (λ q. in_lane number (lane_at m q)) x.own.places k n p (place_at x.own n) ne at (place-is x.own n h) in
          let is = gone-is m s few in
          omega arith

      lane-after : 0 < gone → (y : Lanes) → GoesIf n (λ s. in_lane number s ≤ 1) (lane_without number) x.own y → (m : Traffic) → TileStandsFor x m → HaveAtMostOne x.own.places m number → (k : ℕ) → k < length x.own.places → LaneStands (lane_of y k) (lane_without number (lane_at m (place_at x.own k)))
      lane-after some y goes m s few k hk = elim (cases_eq k n) as (λ _. LaneStands (lane_of y k) (lane_without number (lane_at m (place_at x.own k)))) [
        | inl here ↦ rw here (goes.goes (lane_at m (place_at x.own n)) (stands-here m s) (few-here m few))
        | inr other ↦ (
            let none = others-none some m s few k (place_at x.own k) other (place-is x.own k hk) in
            let long = even-of net x.own tile.own in
            subst (λ (l : LaneView). LaneStands l (lane_without number (lane_at m (place_at x.own k)))) (sym (goes.others k other))
            (subst (LaneStands (lane_of x.own k)) (sym (lane-same (lane_at m (place_at x.own k)) none)) (stands-at m x.own s.lanes k hk (omega arith))))
      ]

      pub taken-does : 0 < gone → (y : Lanes) → GoesIf n (λ s. in_lane number s ≤ 1) (lane_without number) x.own y → DoesIf net (λ m. HaveAtMostOne x.own.places m number) (without number) x (record x { own = y })
      taken-does some y goes = record {
        same = record { low = refl; high = refl; links = refl; own = goes.same; sized = refl };
        handed = refl;
        coming = refl;
        arrived = refl;
        detectors = refl;
        stands = λ m on few s. record {
          clock = s.clock ∙ sym (clock-without m);
          none_loose = goes.same.loose ∙ s.none_loose;
          lanes = λ k p l at is.
              let places = goes.same.places in
              let at_old : slice_get x.own.places k ≡ Some p = rw places at at in
              let after = stand-all (λ q. lane_without number) m y (λ j h. let within : j < length x.own.places = rw places at h in rw places (lane-after some y goes m s few j within)) in
              subst (LaneStands l) (sym (lane_at-without net m on p (there k p at_old))) (after k p l at is);
          signals = λ node a b. subst (λ (sigs : List (Option SignalPlan)). PlanStands (get_or x.signals (node - x.low) None) (get_or sigs node None)) (sym (signals-without m)) (s.signals node a b);
        };
      }

    module _ (r : Option Car) (found : (s : LaneState) → LaneStands (lane_of x.own n) s → in_lane number s ≤ 1 → length (option_to_list r) ≡ in_lane number s) where
      pub some-does : (y : Lanes) → GoesIf n (λ s. in_lane number s ≤ 1) (lane_without number) x.own y → IfSome r (λ car. DoesIf net (λ m. HaveAtMostOne x.own.places m number) (without number) x (record x { own = y }))
      some-does y goes = by_case r found
        where
          by_case : (o : Option Car) → ((s : LaneState) → LaneStands (lane_of x.own n) s → in_lane number s ≤ 1 → length (option_to_list o) ≡ in_lane number s) → IfSome o (λ car. DoesIf net (λ m. HaveAtMostOne x.own.places m number) (without number) x (record x { own = y }))
          by_case None f = tt
          by_case (Some car) f = taken-does 1 f (omega arith) y goes

      pub some-had : IfSome r (λ car. (m : Traffic) → IsOn net m → TileStandsFor x m → HaveAtMostOne x.own.places m number → 0 < in_lane number (lane_at m (place_at x.own n)))
      some-had = by_case r found
        where
          by_case : (o : Option Car) → ((s : LaneState) → LaneStands (lane_of x.own n) s → in_lane number s ≤ 1 → length (option_to_list o) ≡ in_lane number s) → IfSome o (λ car. (m : Traffic) → IsOn net m → TileStandsFor x m → HaveAtMostOne x.own.places m number → 0 < in_lane number (lane_at m (place_at x.own n)))
          by_case None f = tt
          by_case (Some car) f = λ m on s few. let is = gone-is 1 f m s few in omega arith

      pub none-had : r ≡ None → (m : Traffic) → IsOn net m → TileStandsFor x m → HaveAtMostOne x.own.places m number → in_lane number (lane_at m (place_at x.own n)) ≡ 0
      none-had none m on s few = sym (gone-is (length (option_to_list r)) found m s few) ∙ ap (λ (o : Option Car). length (option_to_list o)) none
