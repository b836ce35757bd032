-- The passes of a link, put together.
use Rattle.std.proofs.Common.{◌≡◌, ◌≢◌, ℕ, zero, suc, ◌-◌, ◌<◌, ◌≤◌, Bool, false, length, get_or, Option, Some, None, refl, sym, ap, subst, ◌∙◌, arith, option_map, unwrap_or}
use Rattle.std.proofs.lemmas.Bool.{and_right, cond-false, le-ltb}
use Rattle.street_base.specs.Prelude.{Vehicle, Track, vehicle_at, Changing, changes, changed_cells}
use Rattle.street_yard.specs.Prelude.{YardEntry, Yard, list_at, list_on, first_or, IsWhole, IsLane}
use Rattle.street_gap.specs.Prelude.{closed_marks}
use Rattle.street_rule.specs.Prelude.{RoadLane, Road, no_lane, lane_of, length_of, track_of, lists_of, IsRoad, changing_of, Marks, HasNoMarks, Relinks, IsFallen, Changes, KeepsRest}
use Rattle.street_rule.proofs.Roads.{IsRoad-by, two-apart, two-changes, two-keeps}
use Rattle.street_rule.proofs.MarkWalk.{IsMarking, IsMarking-start}
use Rattle.street_rule.proofs.Unmarked.{Relinks-none}
use Rattle.street_rule.proofs.LanePass.{marks-lane, second_falls, first_lane, second_lane, first_changed, second_changed, keeps, changed_cells-is, settled-is}

-- ---- with no odds nobody changes

module _ (changing : Changing) (never : (number : ℕ) → changing.may_change number ≡ false) where
  never-by : (lane : ℕ) (own other : Track) (x : ℕ) (o : Option Vehicle) → vehicle_at own.cells x ≡ o → changes changing lane own other x ≡ false
  unfolding changes
  never-by lane own other x None e = rw e refl
  never-by lane own other x (Some v) e = rw e (and_right _ _ (never v.number))

  changes-never : (lane : ℕ) (own other : Track) (x : ℕ) → changes changing lane own other x ≡ false
  changes-never lane own other x = never-by lane own other x (vehicle_at own.cells x) refl

  never-changed : (lane : ℕ) (own other : Track) → own.cells ≡ changed_cells changing lane own other
  never-changed lane own other = changed_cells-is changing lane own other own.cells refl (λ x.
      sym (settled-is changing lane own other x
      ∙ cond-false (changes changing (1 - lane) other own x) _ _ (changes-never (1 - lane) other own x)
      ∙ cond-false (changes changing lane own other x) None (vehicle_at own.cells x) (changes-never lane own other x)))

pub never-changes : (y : Yard) (road : Road) (step : ℕ) → length road.lanes ≡ 2 → road.network.change ≡ 0 → Changes y y road step
never-changes y road step two none =
    let never : (number : ℕ) → (changing_of road step).may_change number ≡ false = λ number. rw none (le-ltb _ 0 (omega arith)) in
    two-changes y y road step two
    (never-changed (changing_of road step) never 0 (track_of y (length_of road) (lane_of road 0)) (track_of y (length_of road) (lane_of road 1)))
    (never-changed (changing_of road step) never 1 (track_of y (length_of road) (lane_of road 1)) (track_of y (length_of road) (lane_of road 0)))

-- ---- a mark pass

-- before the first vehicle of a lane of the road, or where there is none
pub IsMarking-road : (y : Yard) (road : Road) (lane step : ℕ) (front : Option ℕ) → length road.lanes ≡ 2 → lane ≤ 1 → IsRoad y road → IsWhole y → front ≡ first_or (list_at y (lane_of road lane).list) None
    → IsMarking y y (lane_of road lane).list (lane_of road (1 - lane)).list
    (changes (changing_of road step) lane (track_of y (length_of road) (lane_of road lane)) (track_of y (length_of road) (lane_of road (1 - lane)))) None None front false
IsMarking-road y road lane step front two few ok whole at =
    let here : lane < length road.lanes = omega arith in
    IsMarking-start y (lane_of road lane).list (lane_of road (1 - lane)).list (length_of road) _ front whole (ok.lanes lane no_lane here).stands at

-- it keeps the road

pub marked-road : (old new : Yard) (road : Road) (own : ℕ) (test : ℕ → Bool) → Marks old new own test → IsRoad old road → IsRoad new road
marked-road old new road own test m ok =
    IsRoad-by old new road (λ n h. rw m.lists h)
    (λ k h. marks-lane old new own (get_or road.lanes k no_lane).list (length_of road) test m (ok.lanes k no_lane h).stands)
    ok

-- ---- all four passes

some-same : {m n : ℕ} → ◌≡◌ {A = Option ℕ} (Some m) (Some n) → m ≡ n
some-same e = ap (λ o. unwrap_or o 0) e

module _ (road : Road) (step : ℕ) (old m1 m2 : Yard) (first second : ℕ) (whole : IsWhole old) (ok : IsRoad old road) (two : length road.lanes ≡ 2)
    (first_is : first ≡ (lane_of road 0).list) (second_is : second ≡ (lane_of road 1).list)
    (one : Marks old m1 (lane_of road 0).list (changes (changing_of road step) 0 (track_of old (length_of road) (lane_of road 0)) (track_of old (length_of road) (lane_of road 1))))
    (both : Marks m1 m2 (lane_of road 1).list (changes (changing_of road step) 1 (track_of m1 (length_of road) (lane_of road 1)) (track_of m1 (length_of road) (lane_of road 0)))) where
  abbrev a : RoadLane
  a = lane_of road 0

  abbrev b : RoadLane
  b = lane_of road 1

  abbrev count : ℕ
  count = length_of road

  a_ok : IsLane old a.list count
  a_ok = (ok.lanes 0 no_lane (omega arith)).stands

  b_ok : IsLane old b.list count
  b_ok = (ok.lanes 1 no_lane (omega arith)).stands

  pub first-fallen : IsFallen m2 first
  first-fallen = record { bound = count; falls = (subst (λ n. IsLane m2 n count) (sym first_is) (marks-lane m1 m2 b.list a.list count _ both (marks-lane old m1 a.list a.list count _ one a_ok))).falls }

  -- where nobody goes, the relink passes are needless

  still : HasNoMarks m1 a.list → HasNoMarks m2 a.list
  still none k on =
      let before : list_on m1 k ≡ Some a.list = sym (both.lists_on k) ∙ on in
      let off : list_on m1 k ≢ Some b.list = λ e. two-apart road.lanes two ok.apart (some-same (sym before ∙ e)) in
      ap (λ o. unwrap_or (option_map (λ (e : YardEntry). e.mark) o) false) (both.others k off) ∙ none k before

  pub first-stays : HasNoMarks m1 a.list → Relinks m2 m2 first second
  first-stays none = Relinks-none m2 first second both.whole (subst (HasNoMarks m2) (sym first_is) (still none))

  pub second-stays : HasNoMarks m2 b.list → Relinks m2 m2 second first
  second-stays none = Relinks-none m2 second first both.whole (subst (HasNoMarks m2) (sym second_is) none)

  module _ (r1 : Yard) (carried : Relinks m2 r1 first second) where
    three : Relinks m2 r1 a.list b.list
    three = subst (λ n. Relinks m2 r1 a.list n) second_is (subst (λ n. Relinks m2 r1 n second) first_is carried)

    pub second-fallen : IsFallen r1 second
    second-fallen = subst (IsFallen r1) (sym second_is) (second_falls (changing_of road step) old m1 m2 r1 a.list b.list count (closed_marks a.closed count) (closed_marks b.closed count) whole (two-apart road.lanes two ok.apart) a_ok b_ok one both three)

    module _ (now : Yard) (returned : Relinks r1 now second first) where
      four : Relinks r1 now b.list a.list
      four = subst (λ n. Relinks r1 now b.list n) first_is (subst (λ n. Relinks r1 now n first) second_is returned)

      pub all-change : Changes old now road step
      all-change = two-changes old now road step two
          (first_changed (changing_of road step) old m1 m2 r1 a.list b.list count (closed_marks a.closed count) (closed_marks b.closed count) whole (two-apart road.lanes two ok.apart) a_ok b_ok one both three now four)
          (second_changed (changing_of road step) old m1 m2 r1 a.list b.list count (closed_marks a.closed count) (closed_marks b.closed count) whole (two-apart road.lanes two ok.apart) a_ok b_ok one both three now four)

      rest : KeepsRest old now (lists_of road)
      rest = two-keeps old now road.lanes two (keeps (changing_of road step) old m1 m2 r1 a.list b.list count (closed_marks a.closed count) (closed_marks b.closed count) whole (two-apart road.lanes two ok.apart) a_ok b_ok one both three now four)

      pub all-keep : KeepsRest old now (lists_of road)
      all-keep = rest

      stand : (k : ℕ) → k < length road.lanes → IsLane now (get_or road.lanes k no_lane).list count
      stand zero h = first_lane (changing_of road step) old m1 m2 r1 a.list b.list count (closed_marks a.closed count) (closed_marks b.closed count) whole (two-apart road.lanes two ok.apart) a_ok b_ok one both three now four
      stand (suc zero) h = second_lane (changing_of road step) old m1 m2 r1 a.list b.list count (closed_marks a.closed count) (closed_marks b.closed count) whole (two-apart road.lanes two ok.apart) a_ok b_ok one both three now four
      stand (suc (suc k)) h = absurd (omega arith)

      pub all-road : IsRoad now road
      all-road = IsRoad-by old now road (λ n h. rw rest.count h) stand ok
