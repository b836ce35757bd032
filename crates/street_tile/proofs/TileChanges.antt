-- Lane changes of a tile, link by link.
use Rattle.std.proofs.Common.{◌≡◌, ℕ, suc, ◌+◌, ◌<◌, ◌≤◌, List, [], ◌∷◌, length, get_or, refl, sym, ◌∙◌, ap, subst, arith, inl, inr}
use Rattle.std.proofs.lemmas.Bool.{cases_eq}
use Rattle.street_base.specs.declared.net.NetSpec.{NetSpec}
use Rattle.street_base.specs.declared.names.Place.{Place}
use Rattle.street_base.specs.Prelude.{link_at, Traffic, LaneState, no_lane, lane_at, Changing, changed_cells, changed, changing_on, changed_lanes, with_cells, Cells, Track}
use Rattle.street_lanes.specs.Prelude.{LaneView, LaneStands, Lanes, IsLane, Same, lane_of, place_at, IsOn, LanesStand, IsDeserted, HasNobodyInCells}
use Rattle.street_lanes.specs.Lanes.{IsOf}
use Rattle.street_lanes.proofs.Nobody.{changed_cells-deserted}
use Rattle.street_tile.specs.Prelude.{IsRoads, ArePairs, BeginsLink}
use Rattle.street_tile.proofs.Gaps.{over-gap}
use Rattle.street_tile.proofs.SameLanes.{same-none, same-then, stands-at, stand-all, there-at}
use Rattle.street_tile.proofs.Each.{shape, links-long, enumerated-at}

-- ---- what lane changes do to a lane

-- the lanes of its link
abbrev beside : Traffic → Place → List LaneState
beside m p = get_or m.lanes p.link []

module _ (net : NetSpec) (m : Traffic) (on : IsOn net m) (p : Place) (there : IsLane net p) where
  count : length (beside m p) ≡ (link_at net p.link).lanes
  count = (shape net m on p there).lanes p.link ∙ ap (λ (n : NetSpec). (link_at n p.link).lanes) on.network

  lane_at-changed : lane_at (changed m) p ≡ get_or (changed_lanes (changing_on m p.link) (beside m p)) p.lane no_lane
  unfolding changed
  lane_at-changed = ap (λ (xs : List LaneState). get_or xs p.lane no_lane) (enumerated-at (λ i lanes. changed_lanes (changing_on m i) lanes) 0 m.lanes p.link [] [] (links-long net m on p there) ∙ ap (λ (i : ℕ). changed_lanes (changing_on m i) (beside m p)) from_zero)
    where
      from_zero : 0 + p.link ≡ p.link
      from_zero = omega arith

  -- a link of one lane stays
  pub changed-alone : ((link_at net p.link).lanes ≡ 2 → ⊥) → lane_at (changed m) p ≡ lane_at m p
  changed-alone one = lane_at-changed ∙ ap (λ (xs : List LaneState). get_or xs p.lane no_lane) (stays (changing_on m p.link) (beside m p) (λ e. one (sym count ∙ e)))
    where
      stays : (changing : Changing) (lanes : List LaneState) → (length lanes ≡ 2 → ⊥) → changed_lanes changing lanes ≡ lanes
      stays changing [] h = refl
      stays changing (a ∷ []) h = refl
      stays changing (a ∷ b ∷ []) h = absurd (h refl)
      stays changing (a ∷ b ∷ c ∷ lanes) h = refl

  pub changed-pair : (link_at net p.link).lanes ≡ 2 → changed_lanes (changing_on m p.link) (beside m p) ≡ with_cells (get_or (beside m p) 0 no_lane) (changed_cells (changing_on m p.link) 0 (get_or (beside m p) 0 no_lane).track (get_or (beside m p) 1 no_lane).track) ∷ with_cells (get_or (beside m p) 1 no_lane) (changed_cells (changing_on m p.link) 1 (get_or (beside m p) 1 no_lane).track (get_or (beside m p) 0 no_lane).track) ∷ []
  changed-pair two = both (changing_on m p.link) (beside m p) (count ∙ two)
    where
      both : (changing : Changing) (lanes : List LaneState) → length lanes ≡ 2 → changed_lanes changing lanes ≡ with_cells (get_or lanes 0 no_lane) (changed_cells changing 0 (get_or lanes 0 no_lane).track (get_or lanes 1 no_lane).track) ∷ with_cells (get_or lanes 1 no_lane) (changed_cells changing 1 (get_or lanes 1 no_lane).track (get_or lanes 0 no_lane).track) ∷ []
      both changing [] h = absurd (omega arith)
      both changing (a ∷ []) h = absurd (omega arith)
      both changing (a ∷ b ∷ []) h = refl
      both changing (a ∷ b ∷ c ∷ lanes) h = absurd (omega arith)

-- ---- lanes on which nobody stands

deserted-of : (x : LaneView) (s : LaneState) → LaneStands x s → HasNobodyInCells x → IsDeserted s.track.cells
unfolding LaneStands
deserted-of x s stands nobody = subst (λ (t : Track). IsDeserted t.cells) stands.track nobody

nobody-changed : (changing : Changing) (lane : ℕ) (own other : LaneState) → IsDeserted own.track.cells → IsDeserted other.track.cells → own ≡ with_cells own (changed_cells changing lane own.track other.track)
nobody-changed changing lane own other nobody beside = ap (λ (cs : Cells). with_cells own cs) (sym (changed_cells-deserted changing lane own.track other.track nobody beside))

-- ---- where links begin

module _ (net : NetSpec) (roads : IsRoads net) (old : Lanes) (of : IsOf net old) (pairs : ArePairs net old.places) where
  -- behind a lane that begins no pair no second lane of a link stands
  not-second : (n : ℕ) → ((place_at old n).lane ≡ 0 → (link_at net (place_at old n).link).lanes ≡ 2 → ⊥) → suc n < length old.places → ((place_at old (suc n)).lane ≡ 0 → ⊥) → ⊥
  not-second n no_pair l other =
      let is = pairs.before n l other in
      let inside = (there-at net old of.own (suc n) l).1 in
      let le = roads.two (place_at old (suc n)).link in
      let some : (place_at old (suc n)).lane ≡ 0 → ⊥ = other in
      let link : (place_at old n).link ≡ (place_at old (suc n)).link = ap (λ (p : Place). p.link) is in
      let positive : 0 < (place_at old (suc n)).lane = elim (cases_eq (place_at old (suc n)).lane 0) as (λ _. 0 < (place_at old (suc n)).lane) [ inl e ↦ absurd (other e) | inr ne ↦ omega arith ] in
      let two : (link_at net (place_at old (suc n)).link).lanes ≡ 2 = omega arith in
      no_pair (ap (λ (p : Place). p.lane) is) (ap (λ (i : ℕ). (link_at net i).lanes) link ∙ two)

  pub begins-next : (n : ℕ) → ((place_at old n).lane ≡ 0 → (link_at net (place_at old n).link).lanes ≡ 2 → ⊥) → BeginsLink old (n + 1)
  begins-next n no_pair l = elim (cases_eq (place_at old (n + 1)).lane 0) as (λ _. (place_at old (n + 1)).lane ≡ 0) [
    | inl e ↦ e
    | inr other ↦ absurd (not-second n no_pair (subst (λ (k : ℕ). k < length old.places) next l) (subst (λ (k : ℕ). (place_at old k).lane ≡ 0 → ⊥) next other))
  ]
    where
      next : n + 1 ≡ suc n
      next = omega arith

-- ---- lane after lane

module _ (net : NetSpec) (m : Traffic) (on : IsOn net m) (roads : IsRoads net) (old : Lanes) (of : IsOf net old) (pairs : ArePairs net old.places) (even : length old.lanes ≡ length old.places) (stand : LanesStand old.places old.lanes m) where
  -- it stands for the lane after lane changes
  abbrev IsDone : Lanes → ℕ → Type 0
  IsDone now j = LaneStands (lane_of now j) (lane_at (changed m) (place_at old j))

  -- the lanes before n are done, and lane n too if its link begins before it; the others are as before
  pub record ChangedTo (n : ℕ) (now : Lanes) : Type 0 where
    pub same : Same old now
    pub done : (j : ℕ) → j < n → j < length old.places → IsDone now j
    pub half : n < length old.places → ((place_at old n).lane ≡ 0 → ⊥) → IsDone now n
    pub rest : (j : ℕ) → n ≤ j → (j ≡ n → (place_at old j).lane ≡ 0) → lane_of now j ≡ lane_of old j

  pub changed-start : ChangedTo 0 old
  changed-start = record {
    same = same-none old;
    done = λ j h. absurd (omega arith);
    half = λ h other. absurd (other (pairs.first h));
    rest = λ j h e. refl;
  }

  there : (n : ℕ) → n < length old.places → IsLane net (place_at old n)
  there n h = there-at net old of.own n h

  stood : (now : Lanes) (j : ℕ) → j < length old.places → lane_of now j ≡ lane_of old j → LaneStands (lane_of now j) (lane_at m (place_at old j))
  stood now j h e = subst (λ (x : LaneView). LaneStands x (lane_at m (place_at old j))) (sym e) (stands-at m old stand j h (omega arith))

  -- a lane that begins no pair
  pub changed-kept : (n : ℕ) (now : Lanes) → n < length old.places → ((place_at old n).lane ≡ 0 → (link_at net (place_at old n).link).lanes ≡ 2 → ⊥) → ChangedTo n now → ChangedTo (n + 1) now
  changed-kept n now h no_pair d = record {
    same = d.same;
    done = λ j below l. elim (cases_eq j n) as (λ _. IsDone now j) [
      | inl here ↦ rw here (elim (cases_eq (place_at old n).lane 0) as (λ _. IsDone now n) [
        | inl first ↦ subst (LaneStands (lane_of now n)) (sym (changed-alone net m on (place_at old n) (there n h) (no_pair first))) (stood now n h (d.rest n (omega arith) (λ _. first)))
        | inr other ↦ d.half h other
      ])
      | inr other ↦ d.done j (omega arith) l
    ];
    half = λ l other. absurd (not-second net roads old of pairs n no_pair (subst (λ (k : ℕ). k < length old.places) next l) (subst (λ (k : ℕ). (place_at old k).lane ≡ 0 → ⊥) next other));
    rest = λ j above e. d.rest j (omega arith) (λ same. absurd (omega arith));
  }
    where
      next : n + 1 ≡ suc n
      next = omega arith

  -- lanes that begin no pair
  pub changed-past : (k j : ℕ) (now : Lanes) → k ≤ j → j ≤ length old.places
      → ((i : ℕ) → k ≤ i → i < j → (place_at old i).lane ≡ 0 → (link_at net (place_at old i).link).lanes ≡ 2 → ⊥) → ChangedTo k now → ChangedTo j now
  changed-past k j now le within none d = over-gap (λ i. ChangedTo i now) k j le (λ i above below before. changed-kept i now (omega arith) (none i above below) before) d

  -- a pair
  pub changed-next : (n : ℕ) (now after : Lanes) → n < length old.places → (place_at old n).lane ≡ 0 → (link_at net (place_at old n).link).lanes ≡ 2 → ChangedTo n now → Same now after
      → ((a b : LaneState) → LaneStands (lane_of now n) a → LaneStands (lane_of now (n + 1)) b → LaneStands (lane_of after n) (with_cells a (changed_cells (changing_on m (place_at old n).link) 0 a.track b.track)))
      → ((a b : LaneState) → LaneStands (lane_of now n) a → LaneStands (lane_of now (n + 1)) b → LaneStands (lane_of after (n + 1)) (with_cells b (changed_cells (changing_on m (place_at old n).link) 1 b.track a.track)))
      → ((k : ℕ) → (k ≡ n → ⊥) → (k ≡ n + 1 → ⊥) → lane_of after k ≡ lane_of now k) → ChangedTo (n + 1) after
  changed-next n now after h first two d same goes_first goes_second others = record {
    same = same-then old now after d.same same;
    done = λ j below l. elim (cases_eq j n) as (λ _. IsDone after j) [
      | inl here ↦ rw here done_first
      | inr other ↦ subst (λ (x : LaneView). LaneStands x (lane_at (changed m) (place_at old j))) (sym (others j other (λ e. absurd (omega arith)))) (d.done j (omega arith) l)
    ];
    half = λ l other. done_second;
    rest = λ j above e. elim (cases_eq j (n + 1)) as (λ _. lane_of after j ≡ lane_of old j) [
      | inl here ↦ absurd (let zero_lane = e here in let one : (place_at old (n + 1)).lane ≡ 1 = ap (λ (p : Place). p.lane) second in let f : (place_at old (n + 1)).lane ≡ 0 = subst (λ (k : ℕ). (place_at old k).lane ≡ 0) here zero_lane in omega arith)
      | inr other ↦ others j (λ same_n. absurd (omega arith)) other ∙ d.rest j (omega arith) (λ same_n. absurd (omega arith))
    ];
  }
    where
      next : n + 1 ≡ suc n
      next = omega arith

      pair : (suc n < length old.places) × (place_at old (suc n) ≡ record { link = (place_at old n).link; lane = 1 })
      pair = pairs.next n h first two

      second : place_at old (n + 1) ≡ record { link = (place_at old n).link; lane = 1 }
      second = ap (place_at old) next ∙ pair.1

      within : n + 1 < length old.places
      within = let l = pair.0 in omega arith

      second_not_first : n + 1 ≡ n → (place_at old (n + 1)).lane ≡ 0
      second_not_first e = absurd (omega arith)

      a_stands : LaneStands (lane_of now n) (lane_at m (place_at old n))
      a_stands = stood now n h (d.rest n (omega arith) (λ _. first))

      b_stands : LaneStands (lane_of now (n + 1)) (lane_at m (place_at old (n + 1)))
      b_stands = stood now (n + 1) within (d.rest (n + 1) (omega arith) second_not_first)

      a_is : lane_at m (place_at old n) ≡ get_or (beside m (place_at old n)) 0 no_lane
      a_is = ap (λ (k : ℕ). get_or (beside m (place_at old n)) k no_lane) first

      b_is : lane_at m (place_at old (n + 1)) ≡ get_or (beside m (place_at old n)) 1 no_lane
      b_is = ap (lane_at m) second

      changed_is : changed_lanes (changing_on m (place_at old n).link) (beside m (place_at old n)) ≡ with_cells (get_or (beside m (place_at old n)) 0 no_lane) (changed_cells (changing_on m (place_at old n).link) 0 (get_or (beside m (place_at old n)) 0 no_lane).track (get_or (beside m (place_at old n)) 1 no_lane).track) ∷ with_cells (get_or (beside m (place_at old n)) 1 no_lane) (changed_cells (changing_on m (place_at old n).link) 1 (get_or (beside m (place_at old n)) 1 no_lane).track (get_or (beside m (place_at old n)) 0 no_lane).track) ∷ []
      changed_is = changed-pair net m on (place_at old n) (there n h) two

      done_first : IsDone after n
      done_first =
          let goes = goes_first (get_or (beside m (place_at old n)) 0 no_lane) (get_or (beside m (place_at old n)) 1 no_lane) (subst (LaneStands (lane_of now n)) a_is a_stands) (subst (LaneStands (lane_of now (n + 1))) b_is b_stands) in
          subst (LaneStands (lane_of after n)) (sym (lane_at-changed net m on (place_at old n) (there n h) ∙ ap (λ (xs : List LaneState). get_or xs (place_at old n).lane no_lane) changed_is ∙ ap (λ (k : ℕ). get_or (with_cells (get_or (beside m (place_at old n)) 0 no_lane) (changed_cells (changing_on m (place_at old n).link) 0 (get_or (beside m (place_at old n)) 0 no_lane).track (get_or (beside m (place_at old n)) 1 no_lane).track) ∷ with_cells (get_or (beside m (place_at old n)) 1 no_lane) (changed_cells (changing_on m (place_at old n).link) 1 (get_or (beside m (place_at old n)) 1 no_lane).track (get_or (beside m (place_at old n)) 0 no_lane).track) ∷ []) k no_lane) first)) goes

      at_second : lane_at (changed m) (place_at old (n + 1)) ≡ get_or (changed_lanes (changing_on m (place_at old n).link) (beside m (place_at old n))) 1 no_lane
      at_second =
          lane_at-changed net m on (place_at old (n + 1)) (there (n + 1) within)
          ∙ ap (λ (p : Place). get_or (changed_lanes (changing_on m p.link) (get_or m.lanes p.link [])) p.lane no_lane) second

      done_second : IsDone after (n + 1)
      done_second =
          let goes = goes_second (get_or (beside m (place_at old n)) 0 no_lane) (get_or (beside m (place_at old n)) 1 no_lane) (subst (LaneStands (lane_of now n)) a_is a_stands) (subst (LaneStands (lane_of now (n + 1))) b_is b_stands) in
          subst (LaneStands (lane_of after (n + 1))) (sym (at_second ∙ ap (λ (xs : List LaneState). get_or xs 1 no_lane) changed_is)) goes

  -- a lane in whose cells nobody stands, nor on the lane beside it where it begins a pair
  changed-deserted : (n : ℕ) (now : Lanes) → n < length old.places → HasNobodyInCells (lane_of now n)
      → ((place_at old n).lane ≡ 0 → (link_at net (place_at old n).link).lanes ≡ 2 → HasNobodyInCells (lane_of now (n + 1))) → ChangedTo n now → ChangedTo (n + 1) now
  changed-deserted n now h nobody beside_too d = elim (cases_eq (place_at old n).lane 0) as (λ _. ChangedTo (n + 1) now) [
    | inl first ↦ elim (cases_eq (link_at net (place_at old n).link).lanes 2) as (λ _. ChangedTo (n + 1) now) [
      | inl two ↦ changed-next n now now h first two d (same-none now)
          (λ a b x y. subst (LaneStands (lane_of now n)) (nobody-changed (changing_on m (place_at old n).link) 0 a b (deserted-of (lane_of now n) a x nobody) (deserted-of (lane_of now (n + 1)) b y (beside_too first two))) x)
          (λ a b x y. subst (LaneStands (lane_of now (n + 1))) (nobody-changed (changing_on m (place_at old n).link) 1 b a (deserted-of (lane_of now (n + 1)) b y (beside_too first two)) (deserted-of (lane_of now n) a x nobody)) y)
          (λ k p q. refl)
      | inr one ↦ changed-kept n now h (λ _ two. one two) d
    ]
    | inr other ↦ changed-kept n now h (λ first _. other first) d
  ]

  -- the lanes from k on and before j, at which a link begins, with nobody in their cells
  pub changed-over : (k j : ℕ) (now : Lanes) → k ≤ j → j ≤ length old.places → BeginsLink old j
      → ((i : ℕ) → k ≤ i → i < j → HasNobodyInCells (lane_of now i)) → ChangedTo k now → ChangedTo j now
  changed-over k j now le within begins nobody d =
      over-gap (λ i. ChangedTo i now) k j le (λ i above below before. changed-deserted i now (omega arith) (nobody i above below) (λ first two. nobody (i + 1) (omega arith) (before-end i below first two)) before) d
    where
      before-end : (i : ℕ) → i < j → (place_at old i).lane ≡ 0 → (link_at net (place_at old i).link).lanes ≡ 2 → i + 1 < j
      before-end i below first two = elim (cases_eq (suc i) j) as (λ _. i + 1 < j) [
        | inl e ↦ absurd (
            let next = pairs.next i (omega arith) first two in
            let one : (place_at old (suc i)).lane ≡ 1 = ap (λ (p : Place). p.lane) next.1 in
            let none : (place_at old (suc i)).lane ≡ 0 = subst (λ (k : ℕ). (place_at old k).lane ≡ 0) (sym e) (begins (subst (λ (k : ℕ). k < length old.places) e next.0)) in
            omega arith)
        | inr ne ↦ omega arith
      ]

  pub changed-all : (n : ℕ) (now : Lanes) → ChangedTo n now → length old.places ≤ n → LanesStand now.places now.lanes (changed m)
  changed-all n now d all k p l at is =
      let go = stand-all (λ q _. lane_at (changed m) q) m now (λ j h. let within : j < length old.places = rw d.same.places at h in rw d.same.places (d.done j (omega arith) within)) in
      go k p l at is
