-- The lanes of a road, when the yard changes.
use Rattle.std.proofs.Common.{◌≡◌, ◌≢◌, ◌⊎◌, ℕ, zero, suc, ◌<◌, List, [], ◌∷◌, map, length, get_or, Some, refl, sym, ap, subst, ◌∙◌, inl, inr, arith, nat_lt}
use Rattle.std.proofs.lemmas.Bool.{cases_eq}
use Rattle.street_base.specs.declared.net.NetSpec.{NetSpec}
use Rattle.street_base.specs.Prelude.{serves, lane_draw, Track, Changing, changed_cells, Traffic, LaneState, changing_on, changed_lanes}
use Rattle.street_yard.specs.Prelude.{Yard, list_at, entry_at, car_of, list_on, Has, IsApart, IsWhole, cells_at, IsLane}
use Rattle.street_yard.proofs.Keys.{has-away}
use Rattle.street_rule.specs.Prelude.{RoadLane, Road, no_lane, lane_of, length_of, track_of, IsRoad, changing_of, IsOnEither, Changes, IsOn, KeepsRest}

-- what all that follows keeps of a lane: the list is there, and stands for its cells
pub IsRoad-by : (old new : Yard) (road : Road) → ((n : ℕ) → n < length old.lists → n < length new.lists) → ((k : ℕ) → k < length road.lanes → IsLane new (get_or road.lanes k no_lane).list (length_of road)) → IsRoad old road → IsRoad new road
IsRoad-by old new road there stand ok = record {
  lanes = λ k d h. (
      let lane = ok.lanes k d h in
      let same : get_or road.lanes k d ≡ get_or road.lanes k no_lane = same-in road.lanes k d no_lane h in
      record { listed = there (get_or road.lanes k d).list lane.listed; stands = subst (λ (l : RoadLane). IsLane new l.list (length_of road)) (sym same) (stand k h); within = lane.within });
  apart = ok.apart;
}
  where
    same-in : (ls : List RoadLane) (k : ℕ) (d e : RoadLane) → k < length ls → get_or ls k d ≡ get_or ls k e
    same-in [] k d e h = absurd (omega arith)
    same-in (l ∷ ls) zero d e h = refl
    same-in (l ∷ ls) (suc k) d e h = same-in ls k d e (omega arith)

-- the lists of the two lanes of a road differ
pub two-apart : (ls : List RoadLane) → length ls ≡ 2 → IsApart (map (λ lane. lane.list) ls) → (get_or ls 0 no_lane).list ≢ (get_or ls 1 no_lane).list
two-apart (a ∷ b ∷ []) e h = h.0.0
two-apart [] e h = absurd (omega arith)
two-apart (a ∷ []) e h = absurd (omega arith)
two-apart (a ∷ b ∷ c ∷ ls) e h = absurd (omega arith)

-- ---- the tracks

-- a link of fewer than two lanes stays
short-stays : (changing : Changing) (y : Yard) (count : ℕ) (ls : List RoadLane) (lanes : List LaneState) → length ls < 2 → map (track_of y count) ls ≡ map (λ lane. lane.track) lanes → changed_lanes changing lanes ≡ lanes
short-stays changing y count ls [] h e = refl
short-stays changing y count ls (p ∷ []) h e = refl
short-stays changing y count (a ∷ b ∷ ls) (p ∷ q ∷ lanes) h e = absurd (omega arith)
short-stays changing y count [] (p ∷ q ∷ lanes) h e = absurd (cc)
short-stays changing y count (a ∷ []) (p ∷ q ∷ lanes) h e = absurd (let f = ap length e in omega arith)

pub one-changes : (y : Yard) (road : Road) (step : ℕ) → length road.lanes < 2 → Changes y y road step
one-changes y road step few m lanes net clock stands = stands ∙ ap (map (λ lane. lane.track)) (sym (short-stays (changing_on m road.link) y (length_of road) road.lanes lanes few stands))

-- what all vehicles of a link share
changing_in : NetSpec → ℕ → ℕ → Changing
changing_in net clock link = record {
  zone = net.zone;
  serves = λ lane next. serves net (record { link = link; lane = lane }) next;
  may_change = λ number. nat_lt (lane_draw net.seed number clock) net.change;
}

changing-is : (m : Traffic) (road : Road) (step : ℕ) → m.network ≡ road.network → m.clock ≡ step → changing_of road step ≡ changing_on m road.link
unfolding changing_in
changing-is m road step net clock = sym (ap (λ n. changing_in n m.clock road.link) net ∙ ap (λ t. changing_in road.network t road.link) clock)

with_changed_cells : Changing → ℕ → Track → Track → Track
with_changed_cells changing lane own other = record own { cells = changed_cells changing lane own other }

heads : (a b : Track) (xs ys : List Track) → a ∷ xs ≡ b ∷ ys → (a ≡ b) × (xs ≡ ys)
heads a b xs ys e = (cc, cc)

two-changed : (changing : Changing) (old now : Yard) (count : ℕ) (ls : List RoadLane) (lanes : List LaneState) → length ls ≡ 2
    → cells_at now (get_or ls 0 no_lane).list count ≡ changed_cells changing 0 (track_of old count (get_or ls 0 no_lane)) (track_of old count (get_or ls 1 no_lane))
    → cells_at now (get_or ls 1 no_lane).list count ≡ changed_cells changing 1 (track_of old count (get_or ls 1 no_lane)) (track_of old count (get_or ls 0 no_lane))
    → map (track_of old count) ls ≡ map (λ lane. lane.track) lanes → map (track_of now count) ls ≡ map (λ lane. lane.track) (changed_lanes changing lanes)
unfolding with_changed_cells
two-changed changing old now count (a ∷ b ∷ []) (p ∷ q ∷ []) e first second stands =
    let h = heads (track_of old count a) p.track (track_of old count b ∷ []) (q.track ∷ []) stands in
    let t = heads (track_of old count b) q.track [] [] h.1 in
    let one : track_of now count a ≡ with_changed_cells changing 0 p.track q.track =
    ap (λ cs. record (track_of old count a) { cells = cs }) first ∙ ap (λ s. with_changed_cells changing 0 s (track_of old count b)) h.0 ∙ ap (with_changed_cells changing 0 p.track) t.0 in
    let two : track_of now count b ≡ with_changed_cells changing 1 q.track p.track =
    ap (λ cs. record (track_of old count b) { cells = cs }) second ∙ ap (λ s. with_changed_cells changing 1 s (track_of old count a)) t.0 ∙ ap (with_changed_cells changing 1 q.track) h.0 in
    ap (λ s. s ∷ track_of now count b ∷ []) one ∙ ap (λ s. with_changed_cells changing 0 p.track q.track ∷ s ∷ []) two
two-changed changing old now count (a ∷ b ∷ []) [] e first second stands = absurd (let f = ap length stands in omega arith)
two-changed changing old now count (a ∷ b ∷ []) (p ∷ []) e first second stands = absurd (let f = ap length stands in omega arith)
two-changed changing old now count (a ∷ b ∷ []) (p ∷ q ∷ r ∷ lanes) e first second stands = absurd (let f = ap length stands in omega arith)
two-changed changing old now count [] lanes e first second stands = absurd (omega arith)
two-changed changing old now count (a ∷ []) lanes e first second stands = absurd (omega arith)
two-changed changing old now count (a ∷ b ∷ c ∷ ls) lanes e first second stands = absurd (omega arith)

pub two-changes : (old now : Yard) (road : Road) (step : ℕ) → length road.lanes ≡ 2
    → cells_at now (lane_of road 0).list (length_of road) ≡ changed_cells (changing_of road step) 0 (track_of old (length_of road) (lane_of road 0)) (track_of old (length_of road) (lane_of road 1))
    → cells_at now (lane_of road 1).list (length_of road) ≡ changed_cells (changing_of road step) 1 (track_of old (length_of road) (lane_of road 1)) (track_of old (length_of road) (lane_of road 0))
    → Changes old now road step
two-changes old now road step two first second m lanes net clock stands =
    two-changed (changing_of road step) old now (length_of road) road.lanes lanes two first second stands
    ∙ ap (λ w. map (λ lane. lane.track) (changed_lanes w lanes)) (changing-is m road step net clock)

-- ---- the rest

-- what a pass over two lists keeps
pub record KeepsElse (old new : Yard) (a b : ℕ) : Type 0 where
  pub lists : (n : ℕ) → n ≢ a → n ≢ b → list_at new n ≡ list_at old n
  pub cars : (k : ℕ) → car_of new k ≡ car_of old k
  pub entries : (k : ℕ) → list_on old k ≢ Some a → list_on old k ≢ Some b → entry_at new k ≡ entry_at old k
  pub stays : (k : ℕ) → IsOnEither old a b k → IsOnEither new a b k
  pub count : length new.lists ≡ length old.lists
  pub room : new.room ≡ old.room
  pub whole : IsWhole new

which : (a b n : ℕ) → Has (a ∷ b ∷ []) n → (n ≡ a) ⊎ (n ≡ b)
which a b n h = elim (cases_eq n a) as (λ _. (n ≡ a) ⊎ (n ≡ b)) [
  | inl e ↦ inl e
  | inr ne ↦ elim (cases_eq n b) as (λ _. (n ≡ a) ⊎ (n ≡ b)) [
    | inl e ↦ inr e
    | inr nf ↦ absurd (has-away n (a ∷ b ∷ []) h (ne, (nf, tt)))
  ]
]

pub two-keeps : (old new : Yard) (ls : List RoadLane) → length ls ≡ 2 → KeepsElse old new (get_or ls 0 no_lane).list (get_or ls 1 no_lane).list → KeepsRest old new (map (λ lane. lane.list) ls)
two-keeps old new (a ∷ b ∷ []) e w = record {
  others = λ n away. w.lists n away.0 away.1.0;
  cars = w.cars;
  entries = λ k off. w.entries k (λ on. (off a.list on).0 refl) (λ on. (off b.list on).1.0 refl);
  stays = λ k on. elim (w.stays k (elim (which a.list b.list on.list on.among) as (λ _. IsOnEither old a.list b.list k) [
    | inl e ↦ inl (on.on ∙ ap Some e)
    | inr e ↦ inr (on.on ∙ ap Some e)
  ])) as (λ _. IsOn new (a.list ∷ b.list ∷ []) k) [
    | inl at ↦ record { list = a.list; among = ([], b.list ∷ [], refl); on = at }
    | inr at ↦ record { list = b.list; among = (a.list ∷ [], [], refl); on = at }
  ];
  count = w.count;
  room = w.room;
  whole = w.whole;
}
two-keeps old new [] e w = absurd (omega arith)
two-keeps old new (a ∷ []) e w = absurd (omega arith)
two-keeps old new (a ∷ b ∷ c ∷ ls) e w = absurd (omega arith)

pub same-keeps : (y : Yard) (lists : List ℕ) → IsWhole y → KeepsRest y y lists
same-keeps y lists whole = record { others = λ n away. refl; cars = λ k. refl; entries = λ k off. refl; stays = λ k on. on; count = refl; room = refl; whole = whole }
