-- Where the vehicle of a number is seen on a lane, and which it is.
use Rattle.std.proofs.Common.{◌≡◌, ℕ, zero, suc, ◌<◌, ◌≤◌, Bool, true, false, cond, List, [], ◌∷◌, ◌++◌, length, map, Option, Some, None, IsSome, IsSomeAnd, refl, sym, ap, subst, ◌∙◌, inl, inr, arith, ◌==◌, find, position, sum_by, option_map, option_and_then}
use Rattle.std.specs.List.{position_or_len}
use Rattle.std.specs.Option.{option_map_or, option_or}
use Rattle.std.proofs.lemmas.Bool.{cases_Bool, cond-true, cond-false, eq-eqb, ne_eqb, both_ways, le-leb}
use Rattle.std.proofs.lemmas.List.{map-append}
use Rattle.std.proofs.lemmas.List.Quantifiers.{position-Some}
use Rattle.std.proofs.lemmas.List.Sums.{sum_by-cons, position_or_len_is}
use Rattle.street_base.specs.declared.car.Car.{Car}
use Rattle.street_base.specs.declared.net.NetSpec.{NetSpec}
use Rattle.street_base.specs.declared.reply.Whereabouts.{Whereabouts}
use Rattle.street_base.specs.declared.reply.Whereabouts.TheVariants.{Buffer, Waiting as Waits}
use Rattle.street_base.specs.declared.names.Place.{Place}
use Rattle.street_base.specs.Prelude.{link_at, Vehicle, vehicle_of, Cells, vehicle_at, LaneState, Queued, Waiting, weight, in_lane, is_before, put_in_order, in_order, remaining_ids, told_cell, whereabouts_in}
use Rattle.street_gap.specs.declared.closures.Stretch.{Stretch}
use Rattle.street_yard.specs.Prelude.{Yard, YardEntry, entry_at, car_of, IsWhole, cell_at, vehicle_with, key_at, cells_at, IsFalling}
use Rattle.street_yard.proofs.YardLemmas.{cell_is}
use Rattle.street_yard.proofs.FallingLists.{key_at-split, cells-read}
use Rattle.street_lanes.specs.declared.lanes.Extent.{Extent}
use Rattle.street_lanes.specs.declared.lanes.Lanes.TheInside.{Inside}
use Rattle.street_lanes.specs.Prelude.{LaneStands, IsLaneOf, waiting_of, queued_of, Lanes, lane_of, place_at, cells_list, buffer_list, waiting_list, IsSought, IsFound, told_in_cell, told_in_buffer, told_waiting, vehicle_on}
use Rattle.street_lanes.specs.Search.{IsListOfLane}
use Rattle.street_lanes.specs.Inside.{length_at, lane_in, seen, IsLaidOut, AreLaidOut}
use Rattle.street_lanes.proofs.Without.{in_queue, in_wait, cars, cars-split, numbered, counted, at-least, cell-counted, in_order-sum}
use Rattle.street_lanes.proofs.LaneWithout.{none-there}
use Rattle.street_lanes.proofs.Access.{in-extents, stands-in}

-- ---- a key that is sought

-- has a car
pub sought-there : (y : Yard) (list number key : ℕ) → IsSought y list number (Some key) → IsSome (entry_at y key)
sought-there y list number key found = there (entry_at y key) found.1
  where
    there : (o : Option YardEntry) → IsSomeAnd (option_map (λ (e : YardEntry). e.car) o) (λ (c : Car). c.number ≡ number) → IsSome o
    there None bad = absurd bad
    there (Some e) here = refl

-- ---- the first of a number

module _ (number : ℕ) {A : Type 0} (vehicle : A → Vehicle) where
  abbrev is_it : A → Bool
  is_it x = (vehicle x).number == number

  it-counts : (x : A) → is_it x ≡ true → counted number vehicle x ≡ 1
  it-counts x t = rw t refl

  pub find-none : (xs : List A) → sum_by (counted number vehicle) xs ≡ 0 → find is_it xs ≡ None
  find-none [] none = refl
  find-none (x ∷ xs) none =
      let parts = sum_by-cons (counted number vehicle) x xs in
      elim (cases_Bool (is_it x)) as (λ _. find is_it (x ∷ xs) ≡ None) [
        | inl t ↦ absurd (let one = it-counts x t in omega (arith, parts, none, one))
        | inr f ↦ cond-false (is_it x) (Some x) (find is_it xs) f ∙ find-none xs (omega (arith, parts, none))
      ]

  pub find-one : (us : List A) (x : A) (vs : List A) → (vehicle x).number ≡ number → sum_by (counted number vehicle) (us ++ x ∷ vs) ≤ 1 → find is_it (us ++ x ∷ vs) ≡ Some x
  find-one [] x vs e few = cond-true (is_it x) (Some x) (find is_it vs) (eq-eqb (vehicle x).number number e)
  find-one (u ∷ us) x vs e few =
      let parts = sum_by-cons (counted number vehicle) u (us ++ x ∷ vs) in
      let some = at-least number vehicle us x vs e in
      elim (cases_Bool (is_it u)) as (λ _. find is_it (u ∷ us ++ x ∷ vs) ≡ Some x) [
        | inl t ↦ absurd (let one = it-counts u t in omega (arith, parts, some, one, few))
        | inr f ↦ cond-false (is_it u) (Some u) (find is_it (us ++ x ∷ vs)) f ∙ find-one us x vs e (omega (arith, parts, few))
      ]

-- ---- in the order of departing

find-put-other : (test : Waiting → Bool) (w : Waiting) (us : List Waiting) → test w ≡ false → find test (put_in_order w us) ≡ find test us
find-put-other test w [] f = cond-false (test w) (Some w) None f
find-put-other test w (u ∷ us) f = elim (cases_Bool (is_before w u)) as (λ _. find test (put_in_order w (u ∷ us)) ≡ find test (u ∷ us)) [
  | inl wu ↦ ap (find test) (cond-true (is_before w u) (w ∷ u ∷ us) (u ∷ put_in_order w us) wu) ∙ cond-false (test w) (Some w) (find test (u ∷ us)) f
  | inr uw ↦ ap (find test) (cond-false (is_before w u) (w ∷ u ∷ us) (u ∷ put_in_order w us) uw) ∙ ap (λ o. cond (test u) (Some u) o) (find-put-other test w us f)
]

find-put-it : (test : Waiting → Bool) (w : Waiting) (us : List Waiting) → test w ≡ true → find test us ≡ None → find test (put_in_order w us) ≡ Some w
find-put-it test w [] t none = cond-true (test w) (Some w) None t
find-put-it test w (u ∷ us) t none = elim (cases_Bool (is_before w u)) as (λ _. find test (put_in_order w (u ∷ us)) ≡ Some w) [
  | inl wu ↦ ap (find test) (cond-true (is_before w u) (w ∷ u ∷ us) (u ∷ put_in_order w us) wu) ∙ cond-true (test w) (Some w) (find test (u ∷ us)) t
  | inr uw ↦ ap (find test) (cond-false (is_before w u) (w ∷ u ∷ us) (u ∷ put_in_order w us) uw) ∙ elim (cases_Bool (test u)) as (λ _. find test (u ∷ put_in_order w us) ≡ Some w) [
    | inl tu ↦ absurd (let bad : ◌≡◌ {A = Option Waiting} (Some u) None = sym (cond-true (test u) (Some u) (find test us) tu) ∙ none in cc)
    | inr fu ↦ cond-false (test u) (Some u) (find test (put_in_order w us)) fu ∙ find-put-it test w us t (sym (cond-false (test u) (Some u) (find test us) fu) ∙ none)
  ]
]

-- who alone has the number is found in the order as he is without it
pub find-order : (number : ℕ) (ws : List Waiting) → sum_by (counted number in_wait) ws ≤ 1 → find (is_it number in_wait) (in_order ws) ≡ find (is_it number in_wait) ws
find-order number [] few = refl
find-order number (w ∷ ws) few =
    let parts = sum_by-cons (counted number in_wait) w ws in
    let ordered = in_order-sum (counted number in_wait) ws in
    elim (cases_Bool (is_it number in_wait w)) as (λ _. find (is_it number in_wait) (in_order (w ∷ ws)) ≡ find (is_it number in_wait) (w ∷ ws)) [
      | inl t ↦ (
          let one = it-counts number in_wait w t in
          find-put-it (is_it number in_wait) w (in_order ws) t (find-none number in_wait (in_order ws) (omega (arith, parts, ordered, one, few)))
          ∙ sym (cond-true (is_it number in_wait w) (Some w) (find (is_it number in_wait) ws) t))
      | inr f ↦
          find-put-other (is_it number in_wait) w (in_order ws) f
          ∙ find-order number ws (omega (arith, parts, few))
          ∙ sym (cond-false (is_it number in_wait w) (Some w) (find (is_it number in_wait) ws) f)
    ]

-- ---- in cells

module _ (number : ℕ) where
  abbrev stands : Option Vehicle → Bool
  stands o = option_map_or (λ v. v.number == number) o false

  twice : (cells : Cells) (k x : ℕ) (w v : Vehicle) → k < x → vehicle_at cells k ≡ Some w → w.number ≡ number → vehicle_at cells x ≡ Some v → v.number ≡ number → 2 ≤ sum_by (weight number) cells
  twice [] k x w v lower at e there f = cc
  twice (c ∷ cs) zero zero w v lower at e there f = absurd (omega arith)
  twice (c ∷ cs) zero (suc x) w v lower at e there f =
      let parts = sum_by-cons (weight number) c cs in
      let one : weight number c ≡ 1 = ap (weight number) at ∙ rw (eq-eqb w.number number e) refl in
      let some = cell-counted number cs x v there f in
      omega (arith, parts, one, some)
  twice (c ∷ cs) (suc k) zero w v lower at e there f = absurd (omega arith)
  twice (c ∷ cs) (suc k) (suc x) w v lower at e there f = (let parts = sum_by-cons (weight number) c cs in let more = twice cs k x w v (omega arith) at e there f in omega (arith, parts, more))

  fails-or : (o : Option Vehicle) → ((v : Vehicle) → o ≡ Some v → v.number ≡ number → ⊥) → stands o ≡ false
  fails-or None never = refl
  fails-or (Some v) never = ne_eqb v.number number (never v refl)

  within : (cells : Cells) (x : ℕ) (v : Vehicle) → vehicle_at cells x ≡ Some v → x < length cells
  within [] x v at = cc
  within (c ∷ cs) zero v at = omega arith
  within (c ∷ cs) (suc x) v at = (let more = within cs x v at in omega (arith, more))

  pub position-one : (cells : Cells) (x : ℕ) (v : Vehicle) → vehicle_at cells x ≡ Some v → v.number ≡ number → sum_by (weight number) cells ≤ 1 → position stands cells ≡ Some x
  position-one cells x v at e few =
      let inside = within cells x v at in
      let here : position_or_len stands cells ≡ x = position_or_len_is stands cells x None (omega (arith, inside)) (λ k low. fails-or (vehicle_at cells k) (λ w there f. (let two = twice cells k x w v low there f at e in omega (arith, two, few)))) (λ low. ap stands at ∙ eq-eqb v.number number e) in
      cond-true _ _ _ (le-leb _ _ (subst (λ k. k < length cells) (sym here) inside)) ∙ ap Some here

  pub position-none : (cells : Cells) → sum_by (weight number) cells ≡ 0 → position stands cells ≡ None
  position-none cells none = by (position stands cells) refl
    where
      by : (o : Option ℕ) → position stands cells ≡ o → position stands cells ≡ None
      by None e = e
      by (Some x) e =
          let at = position-Some stands cells x None e in
          absurd (both_ways (stands (vehicle_at cells x)) (fails-or (vehicle_at cells x) (λ v there f. (let some = cell-counted number cells x v there f in omega (arith, some, none)))) at.1)

-- ---- what is told of who has a number: of who stands in a cell, in the buffer, or waits

module _ {T : Type 0} (cell : ℕ → Option T) (queue : Queued → T) (wait : Waiting → T) (number : ℕ) (s : LaneState) where
  abbrev by_number : Option T
  by_number = option_or (option_and_then cell (position (stands number) s.track.cells)) (option_or (option_map queue (find (is_it number in_queue) s.queue)) (option_map wait (find (is_it number in_wait) s.waiting)))

  -- somebody has the number, and where he alone has it this is told
  abbrev IsTold : T → Type 0
  IsTold told = (0 < in_lane number s) × (in_lane number s ≤ 1 → by_number ≡ Some told)

  told-none : in_lane number s ≡ 0 → by_number ≡ None
  told-none none = rw (position-none number s.track.cells (omega (arith, none)), find-none number in_queue s.queue (omega (arith, none)), find-none number in_wait s.waiting (omega (arith, none))) refl

  told-cell : (x : ℕ) (v : Vehicle) (told : T) → vehicle_at s.track.cells x ≡ Some v → cell x ≡ Some told → v.number ≡ number → IsTold told
  told-cell x v told at tells is =
      let counts = cell-counted number s.track.cells x v at is in
      (omega (arith, counts), λ few. rw (position-one number s.track.cells x v at is (omega (arith, few)), tells) refl)

  told-queue : (us : List Queued) (q : Queued) (vs : List Queued) → s.queue ≡ us ++ q ∷ vs → q.vehicle.number ≡ number → IsTold (queue q)
  told-queue us q vs split is =
      let counts : 1 ≤ sum_by (counted number in_queue) s.queue = subst (λ qs. 1 ≤ sum_by (counted number in_queue) qs) (sym split) (at-least number in_queue us q vs is) in (
        omega (arith, counts),
        λ few.
            let once : sum_by (counted number in_queue) (us ++ q ∷ vs) ≤ 1 = subst (λ qs. sum_by (counted number in_queue) qs ≤ 1) split (omega (arith, few)) in
            let found : find (is_it number in_queue) s.queue ≡ Some q = ap (find (is_it number in_queue)) split ∙ find-one number in_queue us q vs is once in
            rw (position-none number s.track.cells (omega (arith, counts, few)), found) refl,
      )

  told-wait : (us : List Waiting) (w : Waiting) (vs : List Waiting) → in_order s.waiting ≡ us ++ w ∷ vs → w.vehicle.number ≡ number → IsTold (wait w)
  told-wait us w vs split is =
      let ordered = in_order-sum (counted number in_wait) s.waiting in
      let counts : 1 ≤ sum_by (counted number in_wait) (in_order s.waiting) = subst (λ ws. 1 ≤ sum_by (counted number in_wait) ws) (sym split) (at-least number in_wait us w vs is) in (
        omega (arith, counts, ordered),
        λ few.
            let once : sum_by (counted number in_wait) (us ++ w ∷ vs) ≤ 1 = subst (λ ws. sum_by (counted number in_wait) ws ≤ 1) split (omega (arith, few, ordered)) in
            let found : find (is_it number in_wait) s.waiting ≡ Some w = sym (find-order number s.waiting (omega (arith, few))) ∙ ap (find (is_it number in_wait)) split ∙ find-one number in_wait us w vs is once in
            rw (position-none number s.track.cells (omega (arith, counts, ordered, few)), find-none number in_queue s.queue (omega (arith, counts, ordered, few)), found) refl,
      )

-- ---- by the lists of a lane

module _ (y : Yard) (closures : List (List Stretch)) (extents : List Extent) (n : ℕ) (sound : IsLaidOut y closures extents) (inside : n < length extents) (whole : IsWhole y) (s : LaneState) (st : IsLaneOf (lane_in y closures extents n) s)
    (number key : ℕ) (car : Car) (held : car_of y key ≡ Some car) {T : Type 0} (cell : ℕ → Option T) (queue : Queued → T) (wait : Waiting → T) where
  by-cells : (told : T) → (vehicle_at s.track.cells car.cell ≡ Some (vehicle_of car) → cell car.cell ≡ Some told) → IsSought y (cells_list n) number (Some key) → IsTold cell queue wait number s told
  by-cells told tells found =
      let count = length_at extents n in
      let split = found.0.2 in
      let falls = (sound.falls n inside).falls in
      let there : vehicle_at (cells_at y (cells_list n) count) (cell_at y key) ≡ Some (vehicle_of car) =
      cells-read y (cells_list n) count whole falls (cell_at y key)
      ∙ ap (option_and_then (vehicle_with y)) (ap (λ l. key_at (cell_at y) l (cell_at y key)) split ∙ key_at-split (cell_at y) count found.0.0 key found.0.1 (subst (IsFalling (cell_at y) count) split falls))
      ∙ ap (option_map vehicle_of) held in
      let at : vehicle_at s.track.cells car.cell ≡ Some (vehicle_of car) = sym (λ i. vehicle_at (st.track i).cells (cell_is y key car held i)) ∙ there in
      told-cell cell queue wait number s car.cell (vehicle_of car) told at (tells at) (numbered number (car_of y key) car held found.1)

  by-buffer : IsSought y (buffer_list n) number (Some key) → IsTold cell queue wait number s (queue (queued_of car))
  by-buffer found =
      told-queue cell queue wait number s (map queued_of (cars y found.0.0)) (queued_of car) (map queued_of (cars y found.0.1))
      (sym st.queue ∙ ap (map queued_of) (cars-split y (buffer_list n) key car held found.0.0 found.0.1 found.0.2) ∙ map-append queued_of (cars y found.0.0) (car ∷ cars y found.0.1))
      (numbered number (car_of y key) car held found.1)

  by-waiting : IsSought y (waiting_list n) number (Some key) → IsTold cell queue wait number s (wait (waiting_of car))
  by-waiting found =
      told-wait cell queue wait number s (map waiting_of (cars y found.0.0)) (waiting_of car) (map waiting_of (cars y found.0.1))
      (sym st.waiting ∙ ap (map waiting_of) (cars-split y (waiting_list n) key car held found.0.0 found.0.1 found.0.2) ∙ map-append waiting_of (cars y found.0.0) (car ∷ cars y found.0.1))
      (numbered number (car_of y key) car held found.1)

-- ---- where it is seen

module _ (net : NetSpec) (place : Place) (number : ℕ) (s : LaneState) where
  abbrev seen_cell : ℕ → Option Whereabouts
  seen_cell x = option_map (told_cell net place number x) (vehicle_at s.track.cells x)

  abbrev seen_queue : Queued → Whereabouts
  seen_queue q = Buffer (link_at net place.link).id place.lane q.ready q.vehicle.speed q.vehicle.size (remaining_ids net q.vehicle)

  abbrev seen_wait : Waiting → Whereabouts
  seen_wait w = Waits (link_at net place.link).id place.lane w.depart w.vehicle.size (remaining_ids net w.vehicle)

  -- somebody has the number, and where he alone has it this is what is seen
  abbrev pub IsSeen : Whereabouts → Type 0
  IsSeen told = (0 < in_lane number s) × (in_lane number s ≤ 1 → whereabouts_in net place number s ≡ Some told)

  seen-as : (told : Whereabouts) → IsTold seen_cell seen_queue seen_wait number s told → IsSeen told
  unfolding whereabouts_in
  seen-as told r = r

  seen-nowhere : in_lane number s ≡ 0 → whereabouts_in net place number s ≡ None
  unfolding whereabouts_in
  seen-nowhere none = told-none seen_cell seen_queue seen_wait number s none

  module _ (y : Yard) (closures : List (List Stretch)) (extents : List Extent) (n : ℕ) (sound : IsLaidOut y closures extents) (inside : n < length extents) (whole : IsWhole y) (st : IsLaneOf (lane_in y closures extents n) s) where
    module _ (key : ℕ) (car : Car) (held : car_of y key ≡ Some car) where
      found-in-cell : IsSought y (cells_list n) number (Some key) → IsSeen (told_in_cell net place car)
      found-in-cell found =
          seen-as (told_in_cell net place car)
          (by-cells y closures extents n sound inside whole s st number key car held seen_cell seen_queue seen_wait (told_in_cell net place car) (λ at. ap (option_map (told_cell net place number car.cell)) at) found)

      found-in-buffer : IsSought y (buffer_list n) number (Some key) → IsSeen (told_in_buffer net place car)
      found-in-buffer found = seen-as (told_in_buffer net place car) (by-buffer y closures extents n sound inside whole s st number key car held seen_cell seen_queue seen_wait found)

      found-waiting : IsSought y (waiting_list n) number (Some key) → IsSeen (told_waiting net place car)
      found-waiting found = seen-as (told_waiting net place car) (by-waiting y closures extents n sound inside whole s st number key car held seen_cell seen_queue seen_wait found)

    found-nowhere : IsFound y n number None → (in_lane number s ≡ 0) × (whereabouts_in net place number s ≡ None)
    found-nowhere none = (let zero_there = sym (none-there y closures extents n sound inside number whole none s st) in (zero_there, seen-nowhere zero_there))

-- ---- which vehicle it is

module _ (number : ℕ) (s : LaneState) where
  pub on-nowhere : in_lane number s ≡ 0 → vehicle_on number s ≡ None
  unfolding vehicle_on
  on-nowhere none = told-none (vehicle_at s.track.cells) in_queue in_wait number s none

  module _ (y : Yard) (closures : List (List Stretch)) (extents : List Extent) (n : ℕ) (sound : IsLaidOut y closures extents) (inside : n < length extents) (whole : IsWhole y) (st : IsLaneOf (lane_in y closures extents n) s) (key : ℕ) (car : Car) (held : car_of y key ≡ Some car) where
    taken-on : (list : ℕ) → IsListOfLane n list → IsSought y list number (Some key) → IsTold (vehicle_at s.track.cells) in_queue in_wait number s (vehicle_of car)
    taken-on list (inl e) sought = by-cells y closures extents n sound inside whole s st number key car held (vehicle_at s.track.cells) in_queue in_wait (vehicle_of car) (λ at. at) (subst (λ l. IsSought y l number (Some key)) e sought)
    taken-on list (inr (inl e)) sought = by-buffer y closures extents n sound inside whole s st number key car held (vehicle_at s.track.cells) in_queue in_wait (subst (λ l. IsSought y l number (Some key)) e sought)
    taken-on list (inr (inr e)) sought = by-waiting y closures extents n sound inside whole s st number key car held (vehicle_at s.track.cells) in_queue in_wait (subst (λ l. IsSought y l number (Some key)) e sought)

    pub taken-vehicle : in_lane number s ≤ 1 → IsFound y n number (Some key) → vehicle_on number s ≡ Some (vehicle_of car)
    unfolding vehicle_on
    taken-vehicle few found = (taken-on found.0 found.1 found.2).1 few

-- ---- as a method tells it

module _ (x : Inside) (v : Lanes) (is : seen x ≡ v) (sound : AreLaidOut x) (n : ℕ) (h : n < length v.lanes) (whole : IsWhole x.yard) (net : NetSpec) (number : ℕ) where
  -- what is answered is what is seen of who alone has the number, and tells whether somebody has it
  abbrev pub IsAnswer : Option Whereabouts → Type 0
  IsAnswer found = (s : LaneState) → LaneStands (lane_of v n) s
      → (in_lane number s ≤ 1 → found ≡ whereabouts_in net (place_at v n) number s) × (found ≡ None → in_lane number s ≡ 0) × (IsSome found → 0 < in_lane number s)

  pub answer-seen : (told found : Whereabouts) → found ≡ told → ((s : LaneState) → IsLaneOf (lane_in x.yard x.closures.items x.extents.items n) s → IsSeen net (place_at v n) number s told) → IsAnswer (Some found)
  answer-seen told found e each s stands =
      let r = each s (stands-in x v is n h s stands) in
      ((λ few. ap Some e ∙ sym (r.1 few)), (λ none. cc), (λ some. r.0))

  module _ (at : Place) (there : at ≡ place_at v n) (spec : NetSpec) (same : spec ≡ net) (key : ℕ) (car : Car) (held : car_of x.yard key ≡ Some car) (list : ℕ) (found : Whereabouts) where
    pub answer-cell : list ≡ cells_list n → IsSought x.yard list number (Some key) → found ≡ told_in_cell spec at car → IsAnswer (Some found)
    answer-cell e sought told = answer-seen (told_in_cell net (place_at v n) car) found (told ∙ (λ i. told_in_cell (same i) (there i) car))
        (λ s st. found-in-cell net (place_at v n) number s x.yard x.closures.items x.extents.items n sound (in-extents x v is n h) whole st key car held (subst (λ l. IsSought x.yard l number (Some key)) e sought))

    pub answer-buffer : list ≡ buffer_list n → IsSought x.yard list number (Some key) → found ≡ told_in_buffer spec at car → IsAnswer (Some found)
    answer-buffer e sought told = answer-seen (told_in_buffer net (place_at v n) car) found (told ∙ (λ i. told_in_buffer (same i) (there i) car))
        (λ s st. found-in-buffer net (place_at v n) number s x.yard x.closures.items x.extents.items n sound (in-extents x v is n h) whole st key car held (subst (λ l. IsSought x.yard l number (Some key)) e sought))

    pub answer-waiting : list ≡ waiting_list n → IsSought x.yard list number (Some key) → found ≡ told_waiting spec at car → IsAnswer (Some found)
    answer-waiting e sought told = answer-seen (told_waiting net (place_at v n) car) found (told ∙ (λ i. told_waiting (same i) (there i) car))
        (λ s st. found-waiting net (place_at v n) number s x.yard x.closures.items x.extents.items n sound (in-extents x v is n h) whole st key car held (subst (λ l. IsSought x.yard l number (Some key)) e sought))

  pub answer-none : (cells buffer waiting : ℕ) → cells ≡ cells_list n → buffer ≡ buffer_list n → waiting ≡ waiting_list n
      → IsSought x.yard cells number None → IsSought x.yard buffer number None → IsSought x.yard waiting number None → IsAnswer None
  answer-none cells buffer waiting e f g a b c s stands =
      let none : IsFound x.yard n number None = (subst (λ l. IsSought x.yard l number None) e a, subst (λ l. IsSought x.yard l number None) f b, subst (λ l. IsSought x.yard l number None) g c) in
      let r = found-nowhere net (place_at v n) number s x.yard x.closures.items x.extents.items n sound (in-extents x v is n h) whole (stands-in x v is n h s stands) none in
      ((λ few. sym r.1), (λ empty. r.0), (λ some. cc))
