-- The mouths of a tile's lanes: first whether each cell 0 is closed, and then, lane after lane, whether it is free.
use Rattle.std.proofs.Common.{◌≡◌, ℕ, ◌+◌, ◌*◌, ◌<◌, ◌≤◌, Bool, false, not, ◌&&◌, List, length, set, sym, ◌∙◌, ap, subst, arith, inl, inr, Some, None, Option, slice_get}
use Rattle.std.proofs.lemmas.Bool.{cases_eq, cases_lt, false_from_ne_true}
use Rattle.std.proofs.lemmas.Option.{slice_get-get_or, slice_get_within, same_Some}
use Rattle.street_base.specs.declared.net.NetSpec.{NetSpec}
use Rattle.street_base.specs.declared.names.Place.{Place}
use Rattle.street_base.specs.Prelude.{Cells, Track, Vehicle, is_covered, is_closed, is_free, is_place, LaneState, no_lane, lane_at}
use Rattle.street_base.proofs.CoverLemmas.{covered-by}
use Rattle.street_node.specs.Prelude.{AtMostOnce}
use Rattle.street_net.specs.Prelude.{mouth, slot_of}
use Rattle.street_lanes.specs.Prelude.{LaneView, LaneStands, Lanes, AllLanes, Others, lane_of, IsDeserted, HasNobodyInCells}
use Rattle.street_tile.specs.Prelude.{IsRoads, ShowLanes}
use Rattle.street_tile.proofs.HeldMouths.{same-mouth, other-mouth}
use Rattle.street_tile.proofs.Numbers.{apart-at}

-- of each lane, by its number, this is true of its mouth
abbrev pub EachMouth : List Place → (ℕ → Bool → Type 0) → List Bool → Type 0
EachMouth ps IsRight mouths = (j : ℕ) (p : Place) → slice_get ps j ≡ Some p → IsRight j (mouth mouths p)

-- the mouth of a lane before lane k tells whether its cell 0 is not closed
abbrev pub IsUnclosedTo : Lanes → ℕ → ℕ → Bool → Type 0
IsUnclosedTo own k j b = j < k → b ≡ not (is_closed (lane_of own j).track.closed 0)

-- the mouth of a lane before lane k tells whether its cell 0 is free, and that of any other whether it is not closed
pub record IsFreeTo (own : Lanes) (k j : ℕ) (b : Bool) : Type 0 where
  pub free : j < k → (s : LaneState) → LaneStands (lane_of own j) s → b ≡ is_free s.track 0
  pub unclosed : k ≤ j → b ≡ not (is_closed (lane_of own j).track.closed 0)

module _ (net : NetSpec) (roads : IsRoads net) (ps : List Place) (there : AllLanes net ps) (once : AtMostOnce ps) where
  -- the mouth of lane k is written
  pub mouth-written : (Before After : ℕ → Bool → Type 0) (k : ℕ) (p : Place) (mouths : List Bool) (b : Bool) → slice_get ps k ≡ Some p → length mouths ≡ 2 * length net.links
      → EachMouth ps Before mouths → After k b → ((j : ℕ) (c : Bool) → (j ≡ k → ⊥) → Before j c → After j c) → EachMouth ps After (set mouths (slot_of p) b)
  mouth-written Before After k p mouths b at wide before here others j q at_q = elim (cases_eq j k) as (λ _. After j (mouth (set mouths (slot_of p) b) q)) [
    | inl e ↦ (
        let same : p ≡ q = same_Some p q (sym at ∙ ap (slice_get ps) (sym e) ∙ at_q) in
        let is : mouth (set mouths (slot_of p) b) q ≡ b = ap (mouth (set mouths (slot_of p) b)) (sym same) ∙ same-mouth net roads ps there (λ _ _. Unit {0}) mouths mouths p b wide (there k p at) in
        rw (e, is) here)
    | inr ne ↦ (
        let apart : is_place p q ≡ false = apart-at ps once k j p q at at_q (λ e. ne (sym e)) in
        let is : mouth (set mouths (slot_of p) b) q ≡ mouth mouths q = other-mouth net roads ps there (λ _ _. Unit {0}) mouths mouths p q b (there k p at) (there j q at_q) apart in
        rw is (others j (mouth mouths q) ne (before j q at_q)))
  ]

  -- lane k is changed, and then its mouth is written
  pub free-after : (own after : Lanes) (k : ℕ) (p : Place) (mouths : List Bool) (b : Bool) → slice_get ps k ≡ Some p → length mouths ≡ 2 * length net.links
      → EachMouth ps (IsFreeTo own k) mouths → Others k own after → ((s : LaneState) → LaneStands (lane_of after k) s → b ≡ is_free s.track 0) → EachMouth ps (IsFreeTo after (k + 1)) (set mouths (slot_of p) b)
  free-after own after k p mouths b at wide before others right =
      mouth-written (IsFreeTo own k) (IsFreeTo after (k + 1)) k p mouths b at wide before
      (record { free = λ below s stands. right s stands; unclosed = λ above. absurd (omega arith) })
      (λ j c ne d. record {
        free = λ below s stands. d.free (omega arith) s (subst (λ (x : LaneView). LaneStands x s) (others j ne) stands);
        unclosed = λ above. d.unclosed (omega arith) ∙ ap (λ (x : LaneView). not (is_closed x.track.closed 0)) (sym (others j ne));
      })

nobody-covers : (cells : Cells) → IsDeserted cells → is_covered cells 0 ≡ false
nobody-covers cells nobody = false_from_ne_true (is_covered cells 0) (λ e.
    let by = covered-by cells 0 e in
    let bad : ◌≡◌ {A = Option Vehicle} (Some by.1) None = sym by.2 ∙ nobody by.0 in
    absurd (cc))

free-deserted : (x : LaneView) (s : LaneState) → LaneStands x s → HasNobodyInCells x → is_free s.track 0 ≡ not (is_closed x.track.closed 0)
unfolding LaneStands
free-deserted x s stands nobody =
    ap (λ (t : Track). is_free t 0) (sym stands.track)
    ∙ ap (λ (b : Bool). not b && not (is_closed x.track.closed 0)) (nobody-covers x.track.cells nobody)

-- the mouths of lanes with nobody in their cells tell whether their cells 0 are free
pub free-over : (ps : List Place) (own : Lanes) (k j : ℕ) (mouths : List Bool) → ((i : ℕ) → k ≤ i → i < j → HasNobodyInCells (lane_of own i)) → k ≤ j → EachMouth ps (IsFreeTo own k) mouths → EachMouth ps (IsFreeTo own j) mouths
free-over ps own k j mouths nobody le before i p at =
    let d = before i p at in
    record {
      free = λ below s stands. elim (cases_lt i k) as (λ _. mouth mouths p ≡ is_free s.track 0) [
        | inl sooner ↦ d.free sooner s stands
        | inr later ↦ d.unclosed later ∙ sym (free-deserted (lane_of own i) s stands (nobody i later below))
      ];
      unclosed = λ above. d.unclosed (omega arith);
    }

-- all mouths are written
pub free-all : (own : Lanes) (ps : List Place) (k : ℕ) (mouths : List Bool) → own.places ≡ ps → length own.lanes ≡ length own.places → length ps ≤ k → EachMouth ps (IsFreeTo own k) mouths → ShowLanes own mouths
free-all own ps k mouths same even all d m stand j p at =
    let at_p : slice_get ps j ≡ Some p = ap (λ (qs : List Place). slice_get qs j) (sym same) ∙ at in
    let h = slice_get_within own.places j p at in
    let h_p = slice_get_within ps j p at_p in
    (d j p at_p).free (omega arith) (lane_at m p) (stand j p (lane_of own j) at (slice_get-get_or own.lanes j no_lane (omega arith)))
