-- The lane changes of two lanes among those of a tile.
use Rattle.std.proofs.Common.{◌≡◌, ◌≢◌, ℕ, ◌+◌, ◌<◌, ◌≤◌, List, [], ◌∷◌, length, get_or, refl, sym, ap, subst, ◌∙◌, inl, inr, arith}
use Rattle.std.proofs.lemmas.Bool.{cases_eq, cases_lt}
use Rattle.std.proofs.lemmas.List.{get_or_past, get_or_default}
use Rattle.street_base.specs.declared.net.NetSpec.{NetSpec}
use Rattle.street_base.specs.declared.names.Place.{Place}
use Rattle.street_base.specs.Prelude.{link_at, Traffic, LaneState, no_lane, changing_on}
use Rattle.street_rule.specs.Prelude.{Odds}
use Rattle.street_gap.specs.declared.closures.Stretch.{Stretch}
use Rattle.street_gap.specs.Prelude.{IsWithin}
use Rattle.street_yard.specs.Prelude.{Yard, IsLane as IsLaneOn}
use Rattle.street_yard.proofs.FallingLists.{IsLane-agree}
use Rattle.street_lanes.specs.declared.lanes.Extent.{Extent}
use Rattle.street_lanes.specs.Prelude.{LaneView, LaneStands, IsLaneOf, Lanes, lane_of, place_at, Same, cells_list, buffer_list, waiting_list, lane_seen, NoneLoose, SameList, Touches, changed_lane, ChangesLanes, ChangesAt, cells_on}
use Rattle.street_lanes.specs.Lanes.{IsOf}
use Rattle.street_lanes.specs.Inside.{no_extent, length_at, closed_at, lane_in, lanes_in, view_of, IsLaidOut}
use Rattle.street_lanes.proofs.Frames.{lane-in, lanes-count, sizes-are, lane-same}
use Rattle.street_lanes.proofs.Loose.{nobody-loose}
use Rattle.street_lanes.proofs.Extents.{place-is, place-on, kept-is, falls-on, closed-on, falls-again}

-- ---- a call on the cells of two lanes, as the other lanes see it

module _ (y new : Yard) (closures : List (List Stretch)) (extents : List Extent) (odds : Odds) (n : ℕ) (sound : IsLaidOut y closures extents) (touches : Touches (cells_list n ∷ cells_list (n + 1) ∷ []) y new) (keeps : NoneLoose y → NoneLoose new) where
  -- the lists of a third lane are as they were
  third-list : (k list : ℕ) → k ≢ n → k ≢ n + 1 → cells_list k ≤ list → list ≤ cells_list k + 2 → SameList y new list
  third-list k list ne nf low high = touches.others list ((λ e. ne (omega arith)), ((λ e. nf (omega arith)), tt))

  third-lane : (k : ℕ) → k ≢ n → k ≢ n + 1 → lane_in new closures extents k ≡ lane_in y closures extents k
  third-lane k ne nf =
      lane-same y new (closed_at closures k) (length_at extents k) k
      (third-list k (cells_list k) ne nf (omega arith) (omega arith))
      (third-list k (buffer_list k) ne nf (omega arith) (omega arith))
      (third-list k (waiting_list k) ne nf (omega arith) (omega arith))

  pub others-kept : (k : ℕ) → k ≢ n → k ≢ n + 1 → lane_of (view_of new closures extents odds) k ≡ lane_of (view_of y closures extents odds) k
  others-kept k ne nf = elim (cases_lt k (length extents)) as (λ _. get_or (lanes_in new closures extents) k no_lane ≡ get_or (lanes_in y closures extents) k no_lane) [
    | inl lt ↦ lane-in new closures extents k lt ∙ third-lane k ne nf ∙ sym (lane-in y closures extents k lt)
    | inr ge ↦ get_or_past (lanes_in new closures extents) k no_lane (rw lanes-count ge) ∙ sym (get_or_past (lanes_in y closures extents) k no_lane (rw lanes-count ge))
  ]

  pub same-kept : Same (view_of y closures extents odds) (view_of new closures extents odds)
  same-kept = record { places = refl; sizes = sizes-are new closures extents ∙ sym (sizes-are y closures extents); loose = nobody-loose new (keeps sound.none_loose) ∙ sym (nobody-loose y sound.none_loose); odds = refl }

  pub sound-again : IsLaneOn new (cells_list n) (length_at extents n) → IsLaneOn new (cells_list (n + 1)) (length_at extents (n + 1)) → IsLaidOut new closures extents
  sound-again first second = record {
    one_each = sound.one_each;
    three_each = touches.count ∙ sound.three_each;
    few = sound.few;
    some = sound.some;
    falls = λ k h. elim (cases_eq k n) as (λ _. IsLaneOn new (cells_list k) (length_at extents k)) [
      | inl e ↦ subst (λ (j : ℕ). IsLaneOn new (cells_list j) (length_at extents j)) (sym e) first
      | inr ne ↦ elim (cases_eq k (n + 1)) as (λ _. IsLaneOn new (cells_list k) (length_at extents k)) [
        | inl e ↦ subst (λ (j : ℕ). IsLaneOn new (cells_list j) (length_at extents j)) (sym e) second
        | inr nf ↦ (let s = third-list k (cells_list k) ne nf (omega arith) (omega arith) in IsLane-agree y new (cells_list k) s.keys s.cars (length_at extents k) (sound.falls k h))
      ]
    ];
    within = sound.within;
    short = touches.short sound.short;
    none_loose = keeps sound.none_loose;
  }

-- ---- two lanes of a link

module _ {x : Lanes} {y : Yard} {closures : List (List Stretch)} {extents : List Extent} {extent : Extent} {own other : List Stretch} {net : NetSpec} (odds : Odds) (n : ℕ)
    (view_is : view_of y closures extents odds ≡ x) (sound : IsLaidOut y closures extents) (listed : n + 1 < length x.lanes) (of : IsOf net x) (joined : (place_at x (n + 1)).link ≡ (place_at x n).link)
    (extent_is : extent ≡ get_or extents n extent) (own_is : own ≡ get_or closures n own) (other_is : other ≡ get_or closures (n + 1) other) where
  abbrev link : ℕ
  link = extent.at.link

  abbrev count : ℕ
  count = (link_at net link).length

  abbrev seen : Lanes
  seen = view_of y closures extents odds

  within_both : n + 1 < length extents
  within_both = rw (← lanes-count y closures extents) (subst (λ (v : Lanes). n + 1 < length v.lanes) (sym view_is) listed)

  within : n < length extents
  within = let h : n + 1 < length extents = within_both in omega arith

  abbrev beside : Extent
  beside = get_or extents (n + 1) no_extent

  beside_is : beside ≡ get_or extents (n + 1) beside
  beside_is = get_or_default extents (n + 1) no_extent beside within_both

  of_seen : IsOf net seen
  of_seen = subst (IsOf net) (sym view_is) of

  place-here : place_at seen n ≡ extent.at
  place-here = place-is closures extents odds n within extent own extent_is own_is net y of_seen sound

  -- the second is on the same link, and so as long
  same-link : beside.at.link ≡ link
  same-link =
      ap (λ (q : Place). q.link) (sym (place-is closures extents odds (n + 1) within_both beside other beside_is other_is net y of_seen sound))
      ∙ ap (λ (v : Lanes). (place_at v (n + 1)).link) view_is ∙ joined ∙ ap (λ (v : Lanes). (place_at v n).link) (sym view_is)
      ∙ ap (λ (q : Place). q.link) place-here

  same-count : cells_on net beside.at ≡ count
  same-count = ap (λ (l : ℕ). (link_at net l).length) same-link

  pub link-there : link < length net.links
  link-there = (place-on closures extents odds n within extent own extent_is own_is net y of_seen sound).0

  pub first-there : IsLaneOn y (cells_list n) count
  first-there = falls-on closures extents odds n within extent own extent_is own_is net y of_seen sound

  pub second-there : IsLaneOn y (cells_list (n + 1)) count
  second-there = subst (IsLaneOn y (cells_list (n + 1))) same-count (falls-on closures extents odds (n + 1) within_both beside other beside_is other_is net y of_seen sound)

  pub own-there : IsWithin own count
  own-there = closed-on closures extents odds n within extent own extent_is own_is net y of_seen sound

  pub other-there : IsWithin other count
  other-there = subst (IsWithin other) same-count (closed-on closures extents odds (n + 1) within_both beside other beside_is other_is net y of_seen sound)

  first-kept : (now : Yard) → lane_of (view_of now closures extents odds) n ≡ lane_seen now own count n
  first-kept now = kept-is closures extents odds n within extent own extent_is own_is net y of_seen sound now

  second-kept : (now : Yard) → lane_of (view_of now closures extents odds) (n + 1) ≡ lane_seen now other count (n + 1)
  second-kept now = kept-is closures extents odds (n + 1) within_both beside other beside_is other_is net y of_seen sound now ∙ ap (λ (k : ℕ). lane_seen now other k (n + 1)) same-count

  listed-as : (l : LaneView) (kept : LaneView) (s : LaneState) → l ≡ kept → LaneStands l s → IsLaneOf kept s
  unfolding LaneStands
  listed-as l kept s e stands = subst (λ (v : LaneView). IsLaneOf v s) e stands

  stands-as : (l : LaneView) (kept : LaneView) (s : LaneState) → l ≡ kept → IsLaneOf kept s → LaneStands l s
  unfolding LaneStands
  stands-as l kept s e stands = subst (λ (v : LaneView). IsLaneOf v s) (sym e) stands

  module _ (new : Yard) (dice : Odds) (same_dice : dice ≡ odds) (clock : ℕ) (changes : ChangesLanes net clock link own other n y new) where
    pub changed-sound : IsLaidOut new closures extents
    changed-sound =
        sound-again y new closures extents odds n sound changes.touches changes.none_loose
        (falls-again closures extents odds n within extent own extent_is own_is net y of_seen sound new changes.first_lane)
        (falls-again closures extents odds (n + 1) within_both beside other beside_is other_is net y of_seen sound new (subst (IsLaneOn new (cells_list (n + 1))) (sym same-count) changes.second_lane))

    changed-seen : ChangesAt net clock n seen (view_of new closures extents odds)
    changed-seen = record {
      same = same-kept y new closures extents odds n sound changes.touches changes.none_loose;
      others = others-kept y new closures extents odds n sound changes.touches changes.none_loose;
      room = changes.room;
      first = subst (λ (l : ℕ). (m : Traffic) (a b : LaneState) → m.network ≡ net → m.clock ≡ clock → LaneStands (lane_of seen n) a → LaneStands (lane_of seen (n + 1)) b → LaneStands (lane_of (view_of new closures extents odds) n) (changed_lane (changing_on m l) 0 a b)) (ap (λ (q : Place). q.link) (sym place-here))
          (λ m a b network at stands stands_beside. stands-as _ _ _ (first-kept new) (changes.first m a b network at (listed-as _ _ a (first-kept y) stands) (listed-as _ _ b (second-kept y) stands_beside)));
      second = subst (λ (l : ℕ). (m : Traffic) (a b : LaneState) → m.network ≡ net → m.clock ≡ clock → LaneStands (lane_of seen n) a → LaneStands (lane_of seen (n + 1)) b → LaneStands (lane_of (view_of new closures extents odds) (n + 1)) (changed_lane (changing_on m l) 1 b a)) (ap (λ (q : Place). q.link) (sym place-here))
          (λ m a b network at stands stands_beside. stands-as _ _ _ (second-kept new) (changes.second m a b network at (listed-as _ _ a (first-kept y) stands) (listed-as _ _ b (second-kept y) stands_beside)));
    }

    pub ChangesAt-changed : ChangesAt net clock n x (view_of new closures extents dice)
    ChangesAt-changed =
        subst (λ (v : Lanes). ChangesAt net clock n v (view_of new closures extents dice)) view_is
        (subst (λ (d : Odds). ChangesAt net clock n seen (view_of new closures extents d)) (sym same_dice) changed-seen)
