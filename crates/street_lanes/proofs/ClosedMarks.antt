-- Closures of one lane changed.
use Rattle.std.proofs.Common.{◌≡◌, ◌≢◌, ℕ, ◌<◌, Bool, true, false, cond, List, [], length, get_or, set, refl, sym, ap, subst, ◌∙◌, inl, inr, arith, not, ◌&&◌, ◌||◌, Result, Ok, Err, OnOk}
use Rattle.std.specs.List.{enumerate_from}
use Rattle.std.proofs.lemmas.Bool.{cases_eq, cases_lt}
use Rattle.std.proofs.lemmas.List.{ext_get_or, get_or-map, length-map, length-set, get_or_past, get_or-set_same, get_or-set_other}
use Rattle.std.proofs.lemmas.List.FromFn.{length-enumerate_from, get_or-enumerate_from}
use Rattle.street_base.specs.Prelude.{Track, no_lane, is_within, marked, with_marks}
use Rattle.street_rule.specs.Prelude.{Odds}
use Rattle.street_gap.specs.declared.closures.Stretch.{Stretch}
use Rattle.street_gap.specs.Prelude.{is_between, is_in, IsWithin, closed_marks}
use Rattle.street_gap.proofs.Marks.{closed_marks-length, closed_marks-at}
use Rattle.street_gap.proofs.Uniqueness.{IsWithin-closed, IsWithin-opened}
use Rattle.street_yard.specs.Prelude.{Yard, cells_at}
use Rattle.street_lanes.specs.declared.lanes.Extent.{Extent}
use Rattle.street_lanes.specs.Prelude.{LaneView, IsLaneOf, LaneStands, GoesAt, Marks, cells_list}
use Rattle.street_lanes.specs.Inside.{length_at, closed_at, lane_in, lanes_in, view_of, IsLaidOut}
use Rattle.street_lanes.proofs.Frames.{lane-in, lanes-count, sizes-are}

by_closing : (b c : Bool) → (b || c) ≡ cond c true b
by_closing true true = refl
by_closing true false = refl
by_closing false true = refl
by_closing false false = refl

by_opening : (b c : Bool) → (b && not c) ≡ cond c false b
by_opening true true = refl
by_opening true false = refl
by_opening false true = refl
by_opening false false = refl

pub closing-marks : (first last : ℕ) (old new : List Stretch) → ((x : ℕ) → is_in new x ≡ (is_in old x || is_between first last x)) → Marks true first last old new
closing-marks first last old new h x = h x ∙ by_closing (is_in old x) (is_between first last x)

pub opening-marks : (first last : ℕ) (old new : List Stretch) → ((x : ℕ) → is_in new x ≡ (is_in old x && not (is_between first last x))) → Marks false first last old new
opening-marks first last old new h x = h x ∙ by_opening (is_in old x) (is_between first last x)

pub within-marked : (closed : Bool) (old new : List Stretch) (first last count : ℕ) → Marks closed first last old new → (closed ≡ true → last < count) → IsWithin old count → IsWithin new count
within-marked true old new first last count marks low inside = IsWithin-closed old new first last count (λ x. marks x ∙ sym (by_closing (is_in old x) (is_between first last x))) (low refl) inside
within-marked false old new first last count marks low inside = IsWithin-opened old new first last count (λ x. marks x ∙ sym (by_opening (is_in old x) (is_between first last x))) inside

-- the marks of the cells are those of the definition
pub marks-are : (closed : Bool) (first last count : ℕ) (old new : List Stretch) → Marks closed first last old new → IsWithin old count → IsWithin new count → closed_marks new count ≡ marked closed first last (closed_marks old count)
marks-are closed first last count old new marks inside_old inside_new =
    ext_get_or false (closed_marks new count) (marked closed first last (closed_marks old count))
    (closed_marks-length new count ∙ sym (length-map (enumerate_from 0 (closed_marks old count)) mark ∙ length-enumerate_from 0 (closed_marks old count) ∙ closed_marks-length old count))
    at
  where
    mark : ℕ × Bool → Bool
    mark e = cond (is_within first last e.0) closed e.1

    at : (k : ℕ) → k < length (closed_marks new count) → get_or (closed_marks new count) k false ≡ get_or (marked closed first last (closed_marks old count)) k false
    at k h =
        let long : k < length (closed_marks old count) = omega (arith, h, closed_marks-length new count, closed_marks-length old count) in
        closed_marks-at new count k inside_new ∙ marks k
        ∙ ap (cond (is_between first last k) closed) (sym (closed_marks-at old count k inside_old))
        ∙ sym (get_or-map mark (enumerate_from 0 (closed_marks old count)) k (0, false) false (rw length-enumerate_from long)
        ∙ ap mark (get_or-enumerate_from 0 (closed_marks old count) k (0, false) long)
        ∙ ap (λ j. cond (is_within first last j) closed (get_or (closed_marks old count) k false)) (omega arith))

module _ (y : Yard) (closures : List (List Stretch)) (extents : List Extent) (odds : Odds) (n : ℕ) (new : List Stretch) (sound : IsLaidOut y closures extents) (within : n < length extents) (inside : IsWithin new (length_at extents n)) where
  abbrev after : List (List Stretch)
  after = set closures n new

  n_there : n < length closures
  n_there = omega (arith, sound.one_each, within)

  here : closed_at after n ≡ new
  here = get_or-set_same closures n new [] n_there

  elsewhere : (k : ℕ) → k ≢ n → closed_at after k ≡ closed_at closures k
  elsewhere k ne = get_or-set_other closures n k new [] ne

  pub marked-sound : IsLaidOut y after extents
  marked-sound = record {
    one_each = length-set closures n new ∙ sound.one_each;
    three_each = sound.three_each;
    few = sound.few;
    some = sound.some;
    falls = sound.falls;
    within = λ k h. elim (cases_eq k n) as (λ _. IsWithin (closed_at after k) (length_at extents k)) [
      | inl e ↦ subst (λ j. IsWithin (closed_at after j) (length_at extents j)) (sym e) (subst (λ c. IsWithin c (length_at extents n)) (sym here) inside)
      | inr ne ↦ subst (λ c. IsWithin c (length_at extents k)) (sym (elsewhere k ne)) (sound.within k h)
    ];
    short = sound.short;
    none_loose = sound.none_loose;
  }

  lane-with : (k : ℕ) (closed : List Stretch) → closed_at after k ≡ closed → lane_in y after extents k ≡ record (lane_in y closures extents k) { track = record { cells = cells_at y (cells_list k) (length_at extents k); closed = closed_marks closed (length_at extents k) } }
  lane-with k closed e = ap (λ c. record (lane_in y closures extents k) { track = record { cells = cells_at y (cells_list k) (length_at extents k); closed = closed_marks c (length_at extents k) } }) e

  other-lane : (k : ℕ) → k ≢ n → get_or (lanes_in y after extents) k no_lane ≡ get_or (lanes_in y closures extents) k no_lane
  other-lane k ne = elim (cases_lt k (length extents)) as (λ _. get_or (lanes_in y after extents) k no_lane ≡ get_or (lanes_in y closures extents) k no_lane) [
    | inl lt ↦ lane-in y after extents k lt ∙ lane-with k (closed_at closures k) (elsewhere k ne) ∙ sym (lane-in y closures extents k lt)
    | inr ge ↦ get_or_past (lanes_in y after extents) k no_lane (rw lanes-count ge) ∙ sym (get_or_past (lanes_in y closures extents) k no_lane (rw lanes-count ge))
  ]

  module _ (closed : Bool) (first last : ℕ) (marks : Marks closed first last (closed_at closures n) new) where
    lane-marked : lane_in y after extents n ≡ with_marks closed first last (lane_in y closures extents n)
    lane-marked =
        lane-with n new here
        ∙ ap (λ (ms : List Bool). record (lane_in y closures extents n) { track = record { cells = cells_at y (cells_list n) (length_at extents n); closed = ms } }) (marks-are closed first last (length_at extents n) (closed_at closures n) new marks (sound.within n within) inside)

    pub marked-goes : GoesAt n (with_marks closed first last) (view_of y closures extents odds) (view_of y after extents odds)
    unfolding LaneStands
    marked-goes = record {
      same = record { places = refl; sizes = sizes-are y after extents ∙ sym (sizes-are y closures extents); loose = refl; odds = refl };
      goes = λ s stands.
          let st = subst (λ (l : LaneView). IsLaneOf l s) (lane-in y closures extents n within) stands in
          subst (λ (l : LaneView). IsLaneOf l (with_marks closed first last s)) (sym (lane-in y after extents n within ∙ lane-marked)) (record {
            track = ap (λ (t : Track). record t { closed = marked closed first last t.closed }) st.track;
            queue = st.queue;
            waiting = st.waiting;
            order = st.order;
          });
      others = other-lane;
    }

-- what a call that may want memory does where it succeeds
pub on-ok : {A E : Type 0} (r : Result A E) (X Z : Type 0) → OnOk r X → (X → Z) → OnOk r Z
on-ok (Ok a) X Z h f = f h
on-ok (Err e) X Z h f = tt
