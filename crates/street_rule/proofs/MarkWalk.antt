-- A walk that writes marks.
use Rattle.std.proofs.Common.{◌≡◌, ◌≢◌, ◌⊎◌, ℕ, ◌-◌, ◌<◌, Bool, false, List, [], ◌∷◌, ◌++◌, length, get_or, Option, Some, None, IsSome, refl, sym, ap, subst, ◌∙◌, inl, inr, arith, ◌||◌, option_map, unwrap_or}
use Rattle.std.proofs.lemmas.Bool.{cases_eq, or_parts}
use Rattle.std.proofs.lemmas.List.{append_assoc, append-nil}
use Rattle.street_base.specs.declared.car.Car.{Car}
use Rattle.street_base.specs.Prelude.{Vehicle, vehicle_of, Cells, Track, Changing, changes}
use Rattle.street_yard.specs.Prelude.{YardEntry, Yard, list_at, entry_at, car_of, list_on, mark_of, mark_set, first_or, last_or, Has, IsWhole, IsBehind, cell_at, rear_at, vehicle_with, IsFalling, IsLane, AllAbove}
use Rattle.street_yard.proofs.Keys.{last_or-push, has_or_away, has-away, has-later}
use Rattle.street_yard.proofs.YardLemmas.{entry-kept_set, entry-kept_set_other, field-kept_set, IsWhole-kept_set, list_on-mark_set, left, left-is, head_is, no_head, AllAbove-same, AllAbove-lower, cell_same, on_has_entry}
use Rattle.street_rule.specs.Prelude.{Marks, HasNoMarks, decision}
use Rattle.street_yard.proofs.FallingLists.{cells-agree, IsLane-agree}
use Rattle.street_rule.proofs.ChangeSights.{track, decides}
use Rattle.street_gap.specs.Prelude.{IsUpTo}

as_track : Cells → List Bool → Track
as_track cells closed = record { cells = cells; closed = closed }

abbrev pub marked_with : Yard → ℕ → Bool → Yard
marked_with y key m = record y { kept = mark_set y.kept key m }

mark_there : (m : Bool) (o : Option YardEntry) → IsSome o → option_map (λ (e : YardEntry). e.mark) (option_map (λ (e : YardEntry). record e { mark = m }) o) ≡ Some m
mark_there m None h = absurd (cc)
mark_there m (Some e) h = refl

pub record IsMarking (first now : Yard) (own other : ℕ) (test : ℕ → Bool) (above ahead cursor : Option ℕ) (goes : Bool) : Type 0 where
  pub done : List ℕ
  pub rest : List ℕ
  pub split : list_at first own ≡ done ++ rest
  pub at_cursor : cursor ≡ first_or rest None
  pub at_ahead : ahead ≡ option_map (rear_at first) (last_or done None)
  pub bound : ℕ
  pub falls : IsFalling (cell_at first) bound rest
  pub up : List ℕ
  pub down : List ℕ
  pub other_split : list_at first other ≡ up ++ down
  pub at_above : above ≡ last_or up None
  pub over : (cell : ℕ) → cell < bound → AllAbove (cell_at first) cell up
  pub lists : now.lists ≡ first.lists
  pub room : now.room ≡ first.room
  pub cars : (k : ℕ) → car_of now k ≡ car_of first k
  pub marked : (k : ℕ) → Has done k → mark_of now k ≡ Some (test (cell_at first k))
  pub none : goes ≡ false → (k : ℕ) → Has done k → test (cell_at first k) ≡ false
  pub lists_on : (k : ℕ) → list_on now k ≡ list_on first k
  pub others : (k : ℕ) → list_on first k ≢ Some own → entry_at now k ≡ entry_at first k
  pub whole_first : IsWhole first
  pub whole : IsWhole now

pub IsMarking-start : (y : Yard) (own other count : ℕ) (test : ℕ → Bool) (cursor : Option ℕ) → IsWhole y → IsLane y own count → cursor ≡ first_or (list_at y own) None → IsMarking y y own other test None None cursor false
IsMarking-start y own other count test cursor whole lane at = record {
  done = [];
  rest = list_at y own;
  split = refl;
  at_cursor = at;
  at_ahead = refl;
  bound = count;
  falls = lane.falls;
  up = [];
  down = list_at y other;
  other_split = refl;
  at_above = refl;
  over = λ cell h. tt;
  lists = refl;
  room = refl;
  cars = λ k. refl;
  marked = λ k h. absurd (has-away k [] h tt);
  none = λ e k h. absurd (has-away k [] h tt);
  lists_on = λ k. refl;
  others = λ k h. refl;
  whole_first = whole;
  whole = whole;
}

pub IsMarking-end : (first now : Yard) (own other : ℕ) (test : ℕ → Bool) (above ahead cursor : Option ℕ) {goes : Bool} → cursor ≡ None → IsMarking first now own other test above ahead cursor goes → Marks first now own test
IsMarking-end first now own other test above ahead cursor cur w =
    let none : w.rest ≡ [] = no_head w.rest cursor cur w.at_cursor in
    let all : list_at first own ≡ w.done = w.split ∙ ap (λ l. w.done ++ l) none ∙ append-nil w.done in
    record {
      lists = w.lists;
      room = w.room;
      cars = w.cars;
      marked = λ k on. w.marked k (subst (λ l. Has l k) all (w.whole_first.listed k own on));
      lists_on = w.lists_on;
      others = w.others;
      whole = w.whole;
    }

-- where nobody goes, nobody of the list has the mark
pub IsMarking-none : (first now : Yard) (own other : ℕ) (test : ℕ → Bool) (above ahead cursor : Option ℕ) {goes : Bool} → cursor ≡ None → IsMarking first now own other test above ahead cursor goes → goes ≡ false → HasNoMarks now own
IsMarking-none first now own other test above ahead cursor cur w e = λ k on.
    let none : w.rest ≡ [] = no_head w.rest cursor cur w.at_cursor in
    let all : list_at first own ≡ w.done = w.split ∙ ap (λ l. w.done ++ l) none ∙ append-nil w.done in
    let has : Has w.done k = subst (λ l. Has l k) all (w.whole_first.listed k own (sym (w.lists_on k) ∙ on)) in
    ap (λ o. unwrap_or o false) (w.marked k has) ∙ w.none e k has

vehicle_there : (o : Option YardEntry) → IsSome o → (v : Vehicle) × (option_map vehicle_of (option_map (λ (e : YardEntry). e.car) o) ≡ Some v)
vehicle_there None h = absurd (cc)
vehicle_there (Some e) h = (vehicle_of e.car, refl)

pub IsMarking-lane : (first now : Yard) (own other : ℕ) (test : ℕ → Bool) (above ahead cursor : Option ℕ) {goes : Bool} → IsMarking first now own other test above ahead cursor goes → (n count : ℕ) → IsLane first n count → IsLane now n count
IsMarking-lane first now own other test above ahead cursor w n count lane = IsLane-agree first now n (ap (λ l. get_or l n []) w.lists) (λ k h. w.cars k) count lane

has-push : (k x : ℕ) (xs : List ℕ) → Has (xs ++ x ∷ []) k → (Has xs k) ⊎ (k ≡ x)
has-push k x [] h = elim (cases_eq k x) as (λ _. Has [] k ⊎ (k ≡ x)) [ inl e ↦ inr e | inr ne ↦ absurd (has-away k (x ∷ []) h (ne, tt)) ]
has-push k x (u ∷ us) h = elim (cases_eq k u) as (λ _. Has (u ∷ us) k ⊎ (k ≡ x)) [
  | inl e ↦ inl ([], us, ap (λ j. j ∷ us) (sym e))
  | inr ne ↦ elim (has_or_away k (us ++ x ∷ [])) as (λ _. Has (u ∷ us) k ⊎ (k ≡ x)) [
    | inl g ↦ elim (has-push k x us g) as (λ _. Has (u ∷ us) k ⊎ (k ≡ x)) [ inl a ↦ inl (has-later u k us a) | inr b ↦ inr b ]
    | inr a ↦ absurd (has-away k (u ∷ us ++ x ∷ []) h (ne, a))
  ]
]

module _ (first y : Yard) (own other key : ℕ) (test : ℕ → Bool) (above ahead cursor : Option ℕ) {goes : Bool} (cur : cursor ≡ Some key) (w : IsMarking first y own other test above ahead cursor goes) where
  tail : (t : List ℕ) × (w.rest ≡ key ∷ t)
  tail = head_is key w.rest cursor cur w.at_cursor

  split : list_at first own ≡ w.done ++ key ∷ tail.0
  split = w.split ∙ ap (λ l. w.done ++ l) tail.1

  same_at : (n : ℕ) → list_at y n ≡ list_at first n
  same_at n = ap (λ l. get_or l n []) w.lists

  falls : IsFalling (cell_at first) w.bound (key ∷ tail.0)
  falls = subst (IsFalling (cell_at first) w.bound) tail.1 w.falls

  pub IsMarking-on : list_on y key ≡ Some own
  IsMarking-on = w.whole.names key own (w.done, tail.0, same_at own ∙ split)

  on_first : list_on first key ≡ Some own
  on_first = w.whole_first.names key own (w.done, tail.0, split)

  pub IsMarking-up_to : IsUpTo y other (cell_at y key) above
  IsMarking-up_to =
      let e : cell_at y key ≡ cell_at first key = cell_same first y w.cars key in
      let f = falls.0 in
      record {
        up = w.up;
        down = w.down;
        split = same_at other ∙ w.other_split;
        at_position = w.at_above;
        above = AllAbove-same (cell_at first) (cell_at y) (cell_at y key) w.up (λ k. sym (cell_same first y w.cars k)) (w.over (cell_at y key) (omega arith));
      }

  pub IsMarking-vehicle : (v : Vehicle) × (vehicle_with y key ≡ Some v)
  IsMarking-vehicle = vehicle_there (entry_at y key) (on_has_entry y key own IsMarking-on)

  pub IsMarking-step : (position next : Option ℕ) (rear : ℕ) (m : Bool) (now : Yard) → rear ≡ rear_at y key → IsUpTo y other (cell_at y key) position → m ≡ test (cell_at first key) → now ≡ marked_with y key m → IsBehind now key next
      → IsMarking first now own other test position (Some rear) next (goes || m) × (left now own next < left y own cursor)
  IsMarking-step position next rear m now rear_is p m_is now_is behind =
      let lists_now : now.lists ≡ first.lists = ap (λ (v : Yard). v.lists) now_is ∙ w.lists in
      let step : list_at first own ≡ (w.done ++ key ∷ []) ++ tail.0 = split ∙ sym (append_assoc w.done (key ∷ []) tail.0) in
      let now_at : list_at now own ≡ list_at first own = ap (λ l. get_or l own []) lists_now in
      let is_next : next ≡ first_or tail.0 None = behind own w.done tail.0 (now_at ∙ split) in
      let whole_now : IsWhole now = subst IsWhole (sym now_is) (IsWhole-kept_set y key (λ e. record e { mark = m }) (λ e. refl) w.whole) in
      let same : (k : ℕ) → cell_at y k ≡ cell_at first k = cell_same first y w.cars in
      let here : mark_of now key ≡ Some m = ap (λ v. mark_of v key) now_is ∙ ap (option_map (λ (e : YardEntry). e.mark)) (entry-kept_set y.kept key (λ e. record e { mark = m })) ∙ mark_there m (entry_at y key) (on_has_entry y key own IsMarking-on) in
      let marks_but : (k : ℕ) → k ≢ key → mark_of now k ≡ mark_of y k = λ k ne. ap (λ v. mark_of v k) now_is ∙ ap (option_map (λ (e : YardEntry). e.mark)) (entry-kept_set_other y.kept key (λ e. record e { mark = m }) k ne) in
      let marked_key : mark_of now key ≡ Some (test (cell_at first key)) = here ∙ ap Some m_is in (
        record {
          done = w.done ++ key ∷ [];
          rest = tail.0;
          split = step;
          at_cursor = is_next;
          at_ahead = ap Some (rear_is ∙ ap (λ o. unwrap_or (option_map (λ (c : Car). c.cell - (c.size - 1)) o) 0) (w.cars key)) ∙ sym (ap (option_map (rear_at first)) (last_or-push w.done key None));
          bound = cell_at first key;
          falls = falls.1;
          up = p.up;
          down = p.down;
          other_split = sym (same_at other) ∙ p.split;
          at_above = p.at_position;
          over = λ x h. AllAbove-same (cell_at y) (cell_at first) x p.up same (AllAbove-lower (cell_at y) x (cell_at y key) p.up (let e = same key in omega arith) p.above);
          lists = lists_now;
          room = ap (λ (v : Yard). v.room) now_is ∙ w.room;
          cars = λ k. ap (λ v. car_of v k) now_is ∙ field-kept_set (λ e. e.car) (λ e. record e { mark = m }) (λ e. refl) y.kept key k ∙ w.cars k;
          marked = λ k h. elim (cases_eq k key) as (λ _. mark_of now k ≡ Some (test (cell_at first k))) [
            | inl same_key ↦ ap (λ j. mark_of now j) same_key ∙ marked_key ∙ ap (λ j. Some (test (cell_at first j))) (sym same_key)
            | inr ne ↦ marks_but k ne ∙ elim (has-push k key w.done h) as (λ _. mark_of y k ≡ Some (test (cell_at first k))) [ inl a ↦ w.marked k a | inr b ↦ absurd (ne b) ]
          ];
          none = λ e k h. elim (has-push k key w.done h) as (λ _. test (cell_at first k) ≡ false) [
            | inl a ↦ w.none (or_parts goes m e).0 k a
            | inr b ↦ ap (λ j. test (cell_at first j)) b ∙ sym m_is ∙ (or_parts goes m e).1
          ];
          lists_on = λ k. ap (λ v. list_on v k) now_is ∙ list_on-mark_set y key m k ∙ w.lists_on k;
          others = λ k off.
              ap (λ (v : Yard). entry_at v k) now_is ∙ entry-kept_set_other y.kept key (λ e. record e { mark = m }) k (λ s. off (ap (list_on first) s ∙ on_first))
              ∙ w.others k off;
          whole_first = w.whole_first;
          whole = whole_now;
        },
        rw (left-is now own (w.done ++ key ∷ []) tail.0 next whole_now (now_at ∙ step) is_next, left-is y own w.done (key ∷ tail.0) cursor w.whole (same_at own ∙ split) cur) (omega arith),
      )

  -- what the code decides is the test of the old lanes
  pub decided : (changing : Changing) (lane count : ℕ) (own_closed other_closed : List Bool) → IsLane first own count → length own_closed ≡ count
      → (v : Vehicle) → vehicle_with y key ≡ Some v
      → decision changing lane count own_closed ahead (track y other count other_closed) (cell_at y key) v ≡ changes changing lane (track first own count own_closed) (track first other count other_closed) (cell_at first key)
  unfolding as_track
  decided changing lane count own_closed other_closed own_lane own_len v is =
      let e : cell_at y key ≡ cell_at first key = cell_same first y w.cars key in
      let there : vehicle_with first key ≡ Some v = ap (option_map vehicle_of) (sym (w.cars key)) ∙ is in
      let tracks : track y other count other_closed ≡ track first other count other_closed = ap (λ c. as_track c other_closed) (cells-agree first y other (same_at other) (λ k h. w.cars k) count) in
      ap (λ x. decision changing lane count own_closed ahead (track y other count other_closed) x v) e
      ∙ ap (λ t. decision changing lane count own_closed ahead t (cell_at first key) v) tracks
      ∙ sym (decides changing lane count own_closed other_closed first own other w.whole_first own_lane own_len key v there w.done tail.0 ahead split w.at_ahead)
