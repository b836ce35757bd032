-- Lanes that are changed one after another.
use Rattle.std.proofs.Common.{◌≡◌, ℕ, ◌+◌, ◌<◌, ◌≤◌, map, length, refl, sym, ◌∙◌, ap, subst, arith, inl, inr, Some, slice_get}
use Rattle.std.proofs.lemmas.Bool.{cases_eq}
use Rattle.std.proofs.lemmas.List.{length-map}
use Rattle.std.proofs.lemmas.Option.{slice_get_within, slice_get-get_or, get_or_from_slice_get}
use Rattle.street_base.specs.declared.net.NetSpec.{NetSpec}
use Rattle.street_base.specs.declared.names.Place.{Place}
use Rattle.street_base.specs.Prelude.{Traffic, LaneState, no_lane, lane_at}
use Rattle.street_lanes.specs.Prelude.{LaneView, LaneStands, Lanes, IsLane, AllLanes, Same, Others, lane_of, place_at, no_place, size_of, size_on, LanesStand, LanesGo}
use Rattle.street_lanes.specs.Lanes.{IsOf}

pub same-none : (x : Lanes) → Same x x
same-none x = record { places = refl; sizes = refl; loose = refl; odds = refl }

pub same-then : (x y z : Lanes) → Same x y → Same y z → Same x z
same-then x y z a b = record { places = b.places ∙ a.places; sizes = b.sizes ∙ a.sizes; loose = b.loose ∙ a.loose; odds = b.odds ∙ a.odds }

pub same-long : (x y : Lanes) → Same x y → length y.lanes ≡ length x.lanes
same-long x y s = sym (length-map y.lanes size_of) ∙ ap length s.sizes ∙ length-map x.lanes size_of

pub of-same : (net : NetSpec) (x y : Lanes) → Same x y → IsOf net x → IsOf net y
of-same net x y s of = record {
  own = subst (AllLanes net) (sym s.places) of.own;
  sized = s.sizes ∙ of.sized ∙ ap (map (size_on net)) (sym s.places);
  odds = s.odds ∙ of.odds;
}

-- there is a lane for each place
pub even-of : (net : NetSpec) (x : Lanes) → IsOf net x → length x.lanes ≡ length x.places
even-of net x of = sym (length-map x.lanes size_of) ∙ ap length of.sized ∙ length-map x.places (size_on net)

pub place-is : (x : Lanes) (k : ℕ) → k < length x.places → slice_get x.places k ≡ Some (place_at x k)
place-is x k h = slice_get-get_or x.places k no_place h

pub there-at : (net : NetSpec) (x : Lanes) → AllLanes net x.places → (k : ℕ) → k < length x.places → IsLane net (place_at x k)
there-at net x all k h = all k (place_at x k) (place-is x k h)

-- one of the lanes stands for the machine's
pub stands-at : (m : Traffic) (x : Lanes) → LanesStand x.places x.lanes m → (k : ℕ) → k < length x.places → k < length x.lanes → LaneStands (lane_of x k) (lane_at m (place_at x k))
stands-at m x stand k h l = stand k (place_at x k) (lane_of x k) (place-is x k h) (slice_get-get_or x.lanes k no_lane l)

-- if each does, all do
pub stand-all : (rule : Place → LaneState → LaneState) (m : Traffic) (x : Lanes) → ((k : ℕ) → k < length x.places → LaneStands (lane_of x k) (rule (place_at x k) (lane_at m (place_at x k)))) → LanesGo rule m x.places x.lanes
stand-all rule m x each k p l at is =
    let h = slice_get_within x.places k p at in
    let same_place : place_at x k ≡ p = get_or_from_slice_get x.places k p no_place at in
    let same_lane : lane_of x k ≡ l = get_or_from_slice_get x.lanes k l no_lane is in
    subst (λ (y : LaneView). LaneStands y (rule p (lane_at m p))) same_lane (subst (λ (q : Place). LaneStands (lane_of x k) (rule q (lane_at m q))) same_place (each k h))

module _ (rule : Place → LaneState → LaneState) (m : Traffic) (old : Lanes) where
  -- the lanes before k stand for the rule of what they stood for, and from k on they are as before
  pub record LanesDone (k : ℕ) (now : Lanes) : Type 0 where
    pub same : Same old now
    pub done : (j : ℕ) → j < k → j < length old.places → LaneStands (lane_of now j) (rule (place_at old j) (lane_at m (place_at old j)))
    pub rest : (j : ℕ) → k ≤ j → lane_of now j ≡ lane_of old j

  pub lanes-start : LanesDone 0 old
  lanes-start = record { same = same-none old; done = λ j h. absurd (omega arith); rest = λ j h. refl }

  -- the lane at k stands as it did
  pub lanes-here : (k : ℕ) (now : Lanes) → LanesDone k now → LanesStand old.places old.lanes m → k < length old.places → k < length old.lanes → LaneStands (lane_of now k) (lane_at m (place_at old k))
  lanes-here k now d stand h l = subst (λ (x : LaneView). LaneStands x (lane_at m (place_at old k))) (sym (d.rest k (omega arith))) (stands-at m old stand k h l)

  -- the lane at k is done
  pub lanes-next : (k : ℕ) (now after : Lanes) → LanesDone k now → Same now after → Others k now after → LaneStands (lane_of after k) (rule (place_at old k) (lane_at m (place_at old k))) → LanesDone (k + 1) after
  lanes-next k now after d same others stands = record {
    same = same-then old now after d.same same;
    done = λ j below h. elim (cases_eq j k) as (λ _. LaneStands (lane_of after j) (rule (place_at old j) (lane_at m (place_at old j)))) [
      | inl e ↦ rw e stands
      | inr other ↦ subst (λ (x : LaneView). LaneStands x (rule (place_at old j) (lane_at m (place_at old j)))) (sym (others j other)) (d.done j (omega arith) h)
    ];
    rest = λ j above. others j (λ e. absurd (omega arith)) ∙ d.rest j (omega arith);
  }

  -- the lane at k stands for the rule without a change
  pub lanes-kept : (k : ℕ) (now : Lanes) → LanesDone k now → LaneStands (lane_of now k) (rule (place_at old k) (lane_at m (place_at old k))) → LanesDone (k + 1) now
  lanes-kept k now d stands = lanes-next k now now d (same-none now) (λ j other. refl) stands

  pub lanes-go : (k : ℕ) (now : Lanes) → LanesDone k now → length old.places ≤ k → LanesGo rule m now.places now.lanes
  lanes-go k now d all =
      let is = d.same.places in
      stand-all rule m now (λ j h.
      let within : j < length old.places = rw is at h in
      rw is (d.done j (omega arith) within))

  pub lanes-all : (k : ℕ) (now : Lanes) → LanesDone k now → length old.places ≤ k → (after : Traffic) → ((j : ℕ) (p : Place) → slice_get old.places j ≡ Some p → lane_at after p ≡ rule p (lane_at m p)) → LanesStand now.places now.lanes after
  lanes-all k now d all after same j p l at is =
      let at_old : slice_get old.places j ≡ Some p = rw d.same.places at at in
      subst (LaneStands l) (sym (same j p at_old)) (lanes-go k now d all j p l at is)
