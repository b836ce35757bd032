-- A walk that drives each car of a list.
use Rattle.std.proofs.Common.{◌≡◌, ◌≢◌, ◌⊎◌, ℕ, ◌+◌, ◌-◌, ◌<◌, ◌≤◌, Bool, List, [], ◌∷◌, ◌++◌, length, get_or, set, Option, Some, None, IsSomeAnd, refl, sym, ap, subst, ◌∙◌, inl, inr, arith, get_or-set_same, get_or-set_other, option_map, option_and_then, unwrap_or, MatchOption}
use Rattle.std.proofs.lemmas.Bool.{cases_eq}
use Rattle.std.proofs.lemmas.List.{append_assoc, append-nil, length-set}
use Rattle.street_base.specs.declared.car.Car.{Car}
use Rattle.street_yard.specs.Prelude.{YardEntry, Yard, list_at, entry_at, car_of, list_on, mark_of, without, first_or, last_or, Has, Away, IsApart, IsLoose, IsWhole, IsBehind, cell_at, rear_at, vehicle_with, key_at, cells_at, IsFalling, IsLane, AllAbove}
use Rattle.street_yard.proofs.Keys.{IsApart-split, last_or-push, snoc_cases, without-split, has-away, has-later, has-behind}
use Rattle.street_base.specs.Prelude.{Vehicle, vehicle_of, with_speed, Cells, vehicle_at, obstacle_ahead, Drive, speed_after, motion_gap, moved, motion, leaver, AreDisjoint}
use Rattle.street_gap.specs.Prelude.{entrance_after, lesser}
use Rattle.street_rule.specs.Prelude.{motion_gap_to, Drives, Leaves, MovesList, left_lists, stopped, watched, noted}
use Rattle.street_yard.proofs.YardLemmas.{left, left-is, head_is, no_head, cell_is}
use Rattle.street_yard.proofs.FallingLists.{falling-agree, found, found-agree, key_at-drop, key_at-gone, falling-split, falling-wider, key_at-split, rear-under, cells-length, cells-read}
use Rattle.street_base.proofs.MotionLemmas.{IsPartMoved, leaver_from, part_moved-start, part_moved-all, part_moved-vehicle, leaver_from-past, leaver_from-stays, leaver_from-goes, leaver_from-all}
use Rattle.street_rule.specs.declared.watch.Watch.{Watch}
use Rattle.street_rule.proofs.WatchLemmas.{watched_from, watched-skip, watched-noted, watched-all}
use Rattle.street_gap.proofs.Sights.{clear-of-key, obstacle-is}
use Rattle.street_base.proofs.MotionApartLemmas.{keeps_apart}
use Rattle.street_rule.proofs.Steps.{AllFrom, from-lower, from-push, from-same, falling-join, low_of, nobody-between, part_moved-skip, gap-within}
use Rattle.street_base.proofs.MotionOrderLemmas.{speed_after-le}

module _ (drive : Drive) (closed : List Bool) where
  pub record IsPass (first now : Yard) (n count : ℕ) (ahead rear cursor away fast : Option ℕ) : Type 0 where
    pub was : List ℕ
    pub done : List ℕ
    pub rest : List ℕ
    pub before : list_at first n ≡ was ++ rest
    pub split : list_at now n ≡ done ++ rest
    pub at_cursor : cursor ≡ first_or rest None
    pub at_ahead : ahead ≡ option_map (cell_at first) (last_or was None)
    pub at_rear : rear ≡ option_map (rear_at first) (last_or was None)
    pub falls : IsFalling (cell_at now) count done
    pub over : AllFrom (cell_at now) (low_of ahead count) done
    pub same : (k : ℕ) → Has rest k → car_of now k ≡ car_of first k
    pub moved_to : IsPartMoved drive (cells_at first n count) closed (low_of ahead count) (cells_at now n count)
    pub out : option_and_then (vehicle_with now) away ≡ leaver_from drive (cells_at first n count) closed (low_of ahead count)
    pub fast_is : fast ≡ option_map (λ (v : Vehicle). v.speed) (leaver_from drive (cells_at first n count) closed (low_of ahead count))
    pub nobody_yet : ahead ≡ None → away ≡ None
    pub kept : MovesList first now n away
    pub whole_first : IsWhole first

  pub IsPass-start : (y : Yard) (n count : ℕ) (cursor : Option ℕ) → IsWhole y → IsLane y n count → cursor ≡ first_or (list_at y n) None → IsPass y y n count None None cursor None None
  IsPass-start y n count cursor whole lane at =
      let size : length (cells_at y n count) ≡ count = cells-length y n count whole lane.falls in
      record {
        was = [];
        done = [];
        rest = list_at y n;
        before = refl;
        split = refl;
        at_cursor = at;
        at_ahead = refl;
        at_rear = refl;
        falls = tt;
        over = tt;
        same = λ k h. refl;
        moved_to = subst (λ l. IsPartMoved drive (cells_at y n count) closed l (cells_at y n count)) size (part_moved-start drive (cells_at y n count) closed);
        out = sym (ap (leaver_from drive (cells_at y n count) closed) (sym size) ∙ leaver_from-past drive (cells_at y n count) closed);
        fast_is = sym (ap (λ l. option_map (λ (v : Vehicle). v.speed) (leaver_from drive (cells_at y n count) closed l)) (sym size) ∙ ap (option_map (λ (v : Vehicle). v.speed)) (leaver_from-past drive (cells_at y n count) closed));
        nobody_yet = λ e. refl;
        kept = record { lists = refl; count = refl; room = refl; others = λ k h. refl; cars = λ k. refl; marks = λ k. refl; loose = λ x e. absurd (cc); whole = whole };
        whole_first = whole;
      }

  low-within : (first : Yard) (n count : ℕ) (was rest : List ℕ) (ahead : Option ℕ) → IsLane first n count → list_at first n ≡ was ++ rest → ahead ≡ option_map (cell_at first) (last_or was None) → low_of ahead count ≤ count
  low-within first n count was rest ahead lane before at =
      elim (snoc_cases was) as (λ _. low_of ahead count ≤ count) [
        | inl e ↦ subst (λ o. low_of o count ≤ count) (sym (at ∙ ap (λ l. option_map (cell_at first) (last_or l None)) e)) (omega arith)
        | inr s ↦ (
            let is : ahead ≡ Some (cell_at first s.1) = at ∙ ap (option_map (cell_at first)) (ap (λ l. last_or l None) s.2 ∙ last_or-push s.0 s.1 None) in
            let f = falling-split (cell_at first) count s.0 s.1 rest (subst (IsFalling (cell_at first) count) (before ∙ ap (λ l. l ++ rest) s.2 ∙ append_assoc s.0 (s.1 ∷ []) rest) lane.falls) in
            let h : cell_at first s.1 < count = f.1 in
            subst (λ o. low_of o count ≤ count) (sym is) (omega arith))
      ]

  pub IsPass-end : (first now : Yard) (n count : ℕ) (ahead rear cursor away fast : Option ℕ) → IsLane first n count → cursor ≡ None → IsPass first now n count ahead rear cursor away fast
      → (cells_at now n count ≡ motion drive (cells_at first n count) closed) × (option_and_then (vehicle_with now) away ≡ leaver drive (cells_at first n count) closed) × (fast ≡ option_map (λ (v : Vehicle). v.speed) (leaver drive (cells_at first n count) closed)) × IsLane now n count
  IsPass-end first now n count ahead rear cursor away fast lane cur w =
      let none : w.rest ≡ [] = no_head w.rest cursor cur w.at_cursor in
      let cell = cell_at first in
      let size : length (cells_at first n count) ≡ count = cells-length first n count w.whole_first lane.falls in
      let within : low_of ahead count ≤ count = low-within first n count w.was w.rest ahead lane w.before w.at_ahead in
      let empty : (z : ℕ) → 0 ≤ z → z < low_of ahead count → vehicle_at (cells_at first n count) z ≡ None =
      λ z a b. cells-read first n count w.whole_first lane.falls z
      ∙ ap (option_and_then (vehicle_with first)) (ap (λ l. key_at cell l z) (w.before ∙ ap (λ l. w.was ++ l) none)
      ∙ nobody-between cell count 0 w.was [] z (subst (IsFalling cell count) (w.before ∙ ap (λ l. w.was ++ l) none) lane.falls) (subst (λ o. z < low_of o count) w.at_ahead b) tt (omega arith)) in
      let r = part_moved-skip drive (cells_at first n count) closed (low_of ahead count) 0 (cells_at now n count) (omega arith) (rw size within) empty w.moved_to in (
        now_is r.0,
        w.out ∙ sym r.1 ∙ leaver_from-all drive (cells_at first n count) closed,
        w.fast_is ∙ ap (option_map (λ (v : Vehicle). v.speed)) (sym r.1 ∙ leaver_from-all drive (cells_at first n count) closed),
        record {
          falls = subst (IsFalling (cell_at now) count) (sym (w.split ∙ ap (λ l. w.done ++ l) none ∙ append-nil w.done)) w.falls;
          disjoint = subst AreDisjoint (sym (now_is r.0)) ((keeps_apart drive (cells_at first n count) closed).all_disjoint lane.disjoint);
        },
      )
    where
      now_is : IsPartMoved drive (cells_at first n count) closed 0 (cells_at now n count) → cells_at now n count ≡ motion drive (cells_at first n count) closed
      now_is moved_all = part_moved-all drive (cells_at first n count) closed (cells_at now n count) moved_all

  pub IsPass-watched : (first now : Yard) (n count : ℕ) (ahead rear cursor away fast : Option ℕ) → IsLane first n count → cursor ≡ None → IsPass first now n count ahead rear cursor away fast → (w : Watch) → watched_from drive (cells_at first n count) closed (low_of ahead count) w ≡ watched drive (record { cells = cells_at first n count; closed = closed }) w
  IsPass-watched first now n count ahead rear cursor away fast lane cur p w =
      let none : p.rest ≡ [] = no_head p.rest cursor cur p.at_cursor in
      let cell = cell_at first in
      let empty : (z : ℕ) → 0 ≤ z → z < low_of ahead count → vehicle_at (cells_at first n count) z ≡ None =
      λ z a b. cells-read first n count p.whole_first lane.falls z
      ∙ ap (option_and_then (vehicle_with first)) (ap (λ l. key_at cell l z) (p.before ∙ ap (λ l. p.was ++ l) none)
      ∙ nobody-between cell count 0 p.was [] z (subst (IsFalling cell count) (p.before ∙ ap (λ l. p.was ++ l) none) lane.falls) (subst (λ o. z < low_of o count) p.at_ahead b) tt (omega arith)) in
      sym (watched-skip drive (cells_at first n count) closed (low_of ahead count) 0 w (omega arith) empty) ∙ watched-all drive (cells_at first n count) closed w

  moved-is : (old : Cells) (x : ℕ) (v : Vehicle) (obstacle : Option ℕ) (speed : ℕ) → vehicle_at old x ≡ Some v → obstacle_ahead old closed x ≡ obstacle → speed ≡ speed_after drive.limit (motion_gap_to obstacle x (length old) (drive.is_open_to v)) (drive.dawdles v.number) v.speed → moved drive old closed x ≡ Some (with_speed v speed)
  unfolding moved motion_gap
  moved-is old x v obstacle speed there ahead is = rw (there, ahead, is) refl

  module _ (first y : Yard) (n count key : ℕ) (ahead rear cursor away fast : Option ℕ) (lane : IsLane first n count) (cur : cursor ≡ Some key) (w : IsPass first y n count ahead rear cursor away fast) where
    tail : (t : List ℕ) × (w.rest ≡ key ∷ t)
    tail = head_is key w.rest cursor cur w.at_cursor

    before : list_at first n ≡ w.was ++ key ∷ tail.0
    before = w.before ∙ ap (λ l. w.was ++ l) tail.1

    split : list_at y n ≡ w.done ++ key ∷ tail.0
    split = w.split ∙ ap (λ l. w.done ++ l) tail.1

    pub IsPass-on : list_on y key ≡ Some n
    IsPass-on = w.kept.whole.names key n (w.done, tail.0, split)

    on_first : list_on first key ≡ Some n
    on_first = w.whole_first.names key n (w.was, tail.0, before)

    falls_first : IsFalling (cell_at first) count (w.was ++ key ∷ tail.0)
    falls_first = subst (IsFalling (cell_at first) count) before lane.falls

    apart : Away key w.done × Away key tail.0 × IsApart (w.done ++ tail.0)
    apart = IsApart-split w.done key tail.0 (subst IsApart split (w.kept.whole.apart n))

    same_here : car_of y key ≡ car_of first key
    same_here = w.same key ([], tail.0, tail.1)

    module _ (car : Car) (is : car_of y key ≡ Some car) where
      x_is : cell_at first key ≡ car.cell
      x_is = ap (λ o. unwrap_or (option_map (λ (c : Car). c.cell) o) 0) (sym same_here ∙ is)

      x_now : cell_at y key ≡ car.cell
      x_now = cell_is y key car is

      parts : AllAbove (cell_at first) (cell_at first key) w.was × (cell_at first key < count) × IsFalling (cell_at first) (cell_at first key) tail.0
      parts = falling-split (cell_at first) count w.was key tail.0 falls_first

      pub IsPass-inside : car.cell < count
      IsPass-inside = let h = parts.1 in omega (arith, x_is)

      size : length (cells_at first n count) ≡ count
      size = cells-length first n count w.whole_first lane.falls

      there : vehicle_at (cells_at first n count) car.cell ≡ Some (vehicle_of car)
      there =
          cells-read first n count w.whole_first lane.falls car.cell
          ∙ ap (option_and_then (vehicle_with first)) (ap (λ l. key_at (cell_at first) l car.cell) before ∙ ap (key_at (cell_at first) (w.was ++ key ∷ tail.0)) (sym x_is) ∙ key_at-split (cell_at first) count w.was key tail.0 falls_first)
          ∙ ap (option_map vehicle_of) (sym same_here ∙ is)

      r_is : rear_at first key ≡ car.cell - (car.size - 1)
      r_is = ap (λ o. unwrap_or (option_map (λ (c : Car). c.cell - (c.size - 1)) o) 0) (sym same_here ∙ is)

      -- the car lies below the rear of the one ahead
      clear : MatchOption (last_or w.was None) (Unit {0}) (λ k. car.cell < rear_at first k)
      clear = subst (λ c. MatchOption (last_or w.was None) (Unit {0}) (λ k. c < rear_at first k)) x_is (clear-of-key first n count key w.was tail.0 w.whole_first lane before)

      obstacle : length closed ≡ count → obstacle_ahead (cells_at first n count) closed car.cell ≡ lesser rear (entrance_after closed car.cell)
      obstacle len =
          let above : AllAbove (cell_at first) car.cell w.was = subst (λ c. AllAbove (cell_at first) c w.was) x_is parts.0 in
          let below : IsFalling (cell_at first) (car.cell + 1) (key ∷ tail.0) = ((let e = x_is in let h : cell_at first key < car.cell + 1 = omega arith in h), parts.2) in
          obstacle-is first n count w.whole_first lane w.was (key ∷ tail.0) before car.cell above clear below closed len
          ∙ ap (λ o. lesser o (entrance_after closed car.cell)) (sym w.at_rear)

      pub low-above : car.cell < low_of ahead count
      low-above = at-low w.was refl
        where
          at-low : (us : List ℕ) → us ≡ w.was → car.cell < low_of ahead count
          at-low us e =
              elim (snoc_cases us) as (λ _. car.cell < low_of ahead count) [
                | inl z ↦ subst (λ o. car.cell < low_of o count) (sym (w.at_ahead ∙ ap (λ l. option_map (cell_at first) (last_or l None)) (sym e ∙ z))) IsPass-inside
                | inr s ↦ (
                    let is_ahead : ahead ≡ Some (cell_at first s.1) = w.at_ahead ∙ ap (option_map (cell_at first)) (ap (λ l. last_or l None) (sym e ∙ s.2) ∙ last_or-push s.0 s.1 None) in
                    let h : cell_at first key < cell_at first s.1 = last-above s.0 s.1 (subst (AllAbove (cell_at first) (cell_at first key)) (sym e ∙ s.2) parts.0) in
                    subst (λ o. car.cell < low_of o count) (sym is_ahead) (let g : car.cell < cell_at first s.1 = omega (arith, x_is) in g))
              ]
            where
              last-above : (us : List ℕ) (u : ℕ) → AllAbove (cell_at first) (cell_at first key) (us ++ u ∷ []) → cell_at first key < cell_at first u
              last-above [] u a = a.0
              last-above (v ∷ us) u a = last-above us u a.1

      pub rear-above : car.cell < low_of rear count
      rear-above = elim (snoc_cases w.was) as (λ _. car.cell < low_of rear count) [
        | inl z ↦ subst (λ o. car.cell < low_of o count) (sym (w.at_rear ∙ ap (λ l. option_map (rear_at first) (last_or l None)) z)) IsPass-inside
        | inr s ↦ (
            let last : last_or w.was None ≡ Some s.1 = ap (λ l. last_or l None) s.2 ∙ last_or-push s.0 s.1 None in
            let h : car.cell < rear_at first s.1 = subst (λ o. MatchOption o (Unit {0}) (λ k. car.cell < rear_at first k)) last clear in
            subst (λ o. car.cell < low_of o count) (sym (w.at_rear ∙ ap (option_map (rear_at first)) last)) h)
      ]

      lane_now : IsFalling (cell_at y) count (w.done ++ key ∷ tail.0)
      lane_now =
          let f : IsFalling (cell_at first) car.cell tail.0 = subst (λ c. IsFalling (cell_at first) c tail.0) x_is parts.2 in
          let g : IsFalling (cell_at y) car.cell tail.0 = falling-agree (cell_at first) (cell_at y) car.cell tail.0 (λ k h. cell-of k h) f in
          falling-join (cell_at y) count (low_of ahead count) w.done (key ∷ tail.0) w.falls w.over (low-within first n count w.was w.rest ahead lane w.before w.at_ahead)
          ((let e = x_now in let l = low-above in let h : cell_at y key < low_of ahead count = omega arith in h), subst (λ c. IsFalling (cell_at y) c tail.0) (sym x_now) g)
        where
          cell-of : (k : ℕ) → Has tail.0 k → cell_at first k ≡ cell_at y k
          cell-of k h = ap (λ o. unwrap_or (option_map (λ (c : Car). c.cell) o) 0) (sym (w.same k (subst (λ l. Has l k) (sym tail.1) (has-later key k tail.0 h))))

      lane_y : IsFalling (cell_at y) count (list_at y n)
      lane_y = subst (IsFalling (cell_at y) count) (sym split) lane_now

      away-join : (us vs : List ℕ) → Away key us → Away key vs → Away key (us ++ vs)
      away-join [] vs a b = b
      away-join (u ∷ us) vs a b = (a.0, away-join us vs a.1 b)

      another : (k : ℕ) → Has (w.done ++ tail.0) k → k ≢ key
      another k h e = has-away key (w.done ++ tail.0) (subst (Has (w.done ++ tail.0)) e h) (away-join w.done tail.0 apart.0 apart.1)

      has-left : (us vs : List ℕ) (k : ℕ) → Has us k → Has (us ++ vs) k
      has-left us vs k h = (h.0, h.1 ++ vs, ap (λ l. l ++ vs) h.2 ∙ append_assoc h.0 (k ∷ h.1) vs)

      -- the cells after the key has gone from its cell
      reads : (a : Yard) → IsWhole a → IsFalling (cell_at a) count (list_at a n) → ((k : ℕ) → k ≢ key → car_of a k ≡ car_of y k) → (z : ℕ) → key_at (cell_at a) (list_at a n) z ≡ key_at (cell_at a) (w.done ++ tail.0) z → vehicle_at (cells_at a n count) z ≡ vehicle_at (set (cells_at y n count) car.cell None) z
      reads a whole lane_a cars z at =
          cells-read a n count whole lane_a z
          ∙ ap (option_and_then (vehicle_with a)) at
          ∙ found-agree (cell_at a) (cell_at y) (vehicle_with a) (vehicle_with y) (w.done ++ tail.0) z
          (λ k h. ap (λ o. unwrap_or (option_map (λ (c : Car). c.cell) o) 0) (cars k (another k h)))
          (λ k h. ap (option_map vehicle_of) (cars k (another k h)))
          ∙ elim (cases_eq z car.cell) as (λ _. found (cell_at y) (vehicle_with y) (w.done ++ tail.0) z ≡ vehicle_at (set (cells_at y n count) car.cell None) z) [
            | inl e ↦
                ap (option_and_then (vehicle_with y)) (ap (key_at (cell_at y) (w.done ++ tail.0)) (e ∙ sym x_now) ∙ key_at-gone (cell_at y) count w.done key tail.0 lane_now)
                ∙ sym (ap (vehicle_at (set (cells_at y n count) car.cell None)) e ∙ get_or-set_same (cells_at y n count) car.cell None None (let s = cells-length y n count w.kept.whole lane_y in let i = IsPass-inside in omega arith))
            | inr ne ↦
                ap (option_and_then (vehicle_with y)) (sym (key_at-drop (cell_at y) w.done key tail.0 z (λ e. ne (sym e ∙ x_now))))
                ∙ sym (get_or-set_other (cells_at y n count) car.cell z None None ne ∙ cells-read y n count w.kept.whole lane_y z ∙ ap (λ l. found (cell_at y) (vehicle_with y) l z) split)
          ]

      module _ (speed place : ℕ) (u : Yard) (d : Drives y u key speed place) (place_is : place ≡ car.cell + speed) (len : length closed ≡ count) (next : Option ℕ) (behind : IsBehind y key next)
          (speed_is : speed ≡ speed_after drive.limit (motion_gap_to (lesser rear (entrance_after closed car.cell)) car.cell count (drive.is_open_to (vehicle_of car))) (drive.dawdles car.number) car.speed) where
        driven : car_of u key ≡ Some (record car { speed = speed; cell = place })
        driven = d.driven ∙ ap (option_map (λ (c : Car). record c { speed = speed; cell = place })) is

        cell_key : cell_at u key ≡ place
        cell_key = cell_is u key (record car { speed = speed; cell = place }) driven

        cars_u : (k : ℕ) → k ≢ key → car_of u k ≡ car_of y k
        cars_u k ne = ap (option_map (λ (e : YardEntry). e.car)) (d.others k ne)

        moved_here : moved drive (cells_at first n count) closed car.cell ≡ Some (with_speed (vehicle_of car) speed)
        moved_here = moved-is (cells_at first n count) car.cell (vehicle_of car) (lesser rear (entrance_after closed car.cell)) speed there (obstacle len) (rw size speed_is)

        gap_bound : speed ≤ motion_gap_to (lesser rear (entrance_after closed car.cell)) car.cell count (drive.is_open_to (vehicle_of car))
        gap_bound = subst (λ s. s ≤ motion_gap_to (lesser rear (entrance_after closed car.cell)) car.cell count (drive.is_open_to (vehicle_of car))) (sym speed_is) (speed_after-le drive.limit _ (drive.dawdles car.number) car.speed)

        behind_ahead : (a : ℕ) → ahead ≡ Some a → place < a
        behind_ahead a e = elim (snoc_cases w.was) as (λ _. place < a) [
          | inl z ↦ absurd (let bad : ◌≡◌ {A = Option ℕ} None (Some a) = sym (w.at_ahead ∙ ap (λ l. option_map (cell_at first) (last_or l None)) z) ∙ e in cc)
          | inr s ↦ (
              let last : last_or w.was None ≡ Some s.1 = ap (λ l. last_or l None) s.2 ∙ last_or-push s.0 s.1 None in
              let r = rear_at first s.1 in
              let is_rear : rear ≡ Some r = w.at_rear ∙ ap (option_map (rear_at first)) last in
              let front : ◌≡◌ {A = Option ℕ} (Some (cell_at first s.1)) (Some a) = sym (w.at_ahead ∙ ap (option_map (cell_at first)) last) ∙ e in
              let at : cell_at first s.1 ≡ a = cc in
              let g : speed ≤ motion_gap_to (lesser (Some r) (entrance_after closed car.cell)) car.cell count (drive.is_open_to (vehicle_of car)) = subst (λ o. speed ≤ motion_gap_to (lesser o (entrance_after closed car.cell)) car.cell count (drive.is_open_to (vehicle_of car))) is_rear gap_bound in
              let b = gap-within r (entrance_after closed car.cell) car.cell count (drive.is_open_to (vehicle_of car)) in
              let l : car.cell < r = subst (λ o. MatchOption o (Unit {0}) (λ k. car.cell < rear_at first k)) last clear in
              let under = rear-under first s.1 in
              omega (arith, g, b))
        ]

        none-or-some : (o : Option ℕ) → (o ≡ None) ⊎ ((a : ℕ) × (o ≡ Some a))
        none-or-some None = inl refl
        none-or-some (Some a) = inr (a, refl)

        within : low_of ahead count ≤ count
        within = low-within first n count w.was w.rest ahead lane w.before w.at_ahead

        pub leaves_front : count ≤ place → ahead ≡ None
        leaves_front h = elim (none-or-some ahead) as (λ _. ahead ≡ None) [
          | inl e ↦ e
          | inr s ↦ (let b = behind_ahead s.0 s.1 in let l : s.0 ≤ count = subst (λ o. low_of o count ≤ count) s.1 within in absurd (omega arith))
        ]

        stays_below : place < count → place < low_of ahead count
        stays_below h = elim (none-or-some ahead) as (λ _. place < low_of ahead count) [
          | inl e ↦ subst (λ o. place < low_of o count) (sym e) h
          | inr s ↦ subst (λ o. place < low_of o count) (sym s.1) (behind_ahead s.0 s.1)
        ]

        is_next : next ≡ first_or tail.0 None
        is_next = behind n w.done tail.0 split

        old_step : list_at first n ≡ (w.was ++ key ∷ []) ++ tail.0
        old_step = before ∙ sym (append_assoc w.was (key ∷ []) tail.0)

        ahead_step : ◌≡◌ {A = Option ℕ} (Some car.cell) (option_map (cell_at first) (last_or (w.was ++ key ∷ []) None))
        ahead_step = sym (ap (option_map (cell_at first)) (last_or-push w.was key None) ∙ ap Some x_is)

        rear_step : ◌≡◌ {A = Option ℕ} (Some (car.cell - (car.size - 1))) (option_map (rear_at first) (last_or (w.was ++ key ∷ []) None))
        rear_step = sym (ap (option_map (rear_at first)) (last_or-push w.was key None) ∙ ap Some r_is)

        -- no front stood in the cells between the car and the one ahead
        empty : (z : ℕ) → car.cell + 1 ≤ z → z < low_of ahead count → vehicle_at (cells_at first n count) z ≡ None
        empty z a b =
            cells-read first n count w.whole_first lane.falls z
            ∙ ap (option_and_then (vehicle_with first)) (ap (λ l. key_at (cell_at first) l z) before
            ∙ nobody-between (cell_at first) count (car.cell + 1) w.was (key ∷ tail.0) z falls_first (subst (λ o. z < low_of o count) w.at_ahead b) ((let e = x_is in let h : cell_at first key < car.cell + 1 = omega arith in h), parts.2) a)

        skipped : IsPartMoved drive (cells_at first n count) closed (car.cell + 1) (cells_at y n count) × (leaver_from drive (cells_at first n count) closed (car.cell + 1) ≡ leaver_from drive (cells_at first n count) closed (low_of ahead count))
        skipped = part_moved-skip drive (cells_at first n count) closed (low_of ahead count) (car.cell + 1) (cells_at y n count) (let l = low-above in omega arith) (rw size within) empty w.moved_to

        later : (k : ℕ) → Has tail.0 k → Has w.rest k
        later k h = subst (λ l. Has l k) (sym tail.1) (has-later key k tail.0 h)

        tail_agrees : (a : Yard) → ((k : ℕ) → k ≢ key → car_of a k ≡ car_of y k) → (k : ℕ) → Has tail.0 k → car_of a k ≡ car_of first k
        tail_agrees a cars k h = cars k (another k (has-behind w.done k tail.0 h)) ∙ w.same k (later k h)

        cells_agree : (a : Yard) → ((k : ℕ) → k ≢ key → car_of a k ≡ car_of y k) → (k : ℕ) → Has w.done k → cell_at y k ≡ cell_at a k
        cells_agree a cars k h = ap (λ o. unwrap_or (option_map (λ (c : Car). c.cell) o) 0) (sym (cars k (another k (has-left w.done tail.0 k h))))

        done_falls : (a : Yard) → ((k : ℕ) → k ≢ key → car_of a k ≡ car_of y k) → IsFalling (cell_at a) count w.done
        done_falls a cars = falling-agree (cell_at y) (cell_at a) count w.done (cells_agree a cars) w.falls

        done_over : (a : Yard) → ((k : ℕ) → k ≢ key → car_of a k ≡ car_of y k) → AllFrom (cell_at a) (low_of ahead count) w.done
        done_over a cars = from-same (cell_at y) (cell_at a) (low_of ahead count) w.done (cells_agree a cars) w.over

        tail_falls : (a : Yard) → ((k : ℕ) → k ≢ key → car_of a k ≡ car_of y k) → IsFalling (cell_at a) car.cell tail.0
        tail_falls a cars = falling-agree (cell_at first) (cell_at a) car.cell tail.0 (λ k h. ap (λ o. unwrap_or (option_map (λ (c : Car). c.cell) o) 0) (sym (tail_agrees a cars k h))) (subst (λ c. IsFalling (cell_at first) c tail.0) x_is parts.2)

        stopped_same : (k : ℕ) → option_map stopped (car_of u k) ≡ option_map stopped (car_of y k)
        stopped_same k = elim (cases_eq k key) as (λ _. option_map stopped (car_of u k) ≡ option_map stopped (car_of y k)) [
          | inl e ↦ ap (λ j. option_map stopped (car_of u j)) e ∙ ap (option_map stopped) driven ∙ sym (ap (λ j. option_map stopped (car_of y j)) e ∙ ap (option_map stopped) is)
          | inr ne ↦ ap (option_map stopped) (cars_u k ne)
        ]

        marks_same : (k : ℕ) → mark_of u k ≡ mark_of y k
        marks_same k = elim (cases_eq k key) as (λ _. mark_of u k ≡ mark_of y k) [
          | inl e ↦ ap (mark_of u) e ∙ d.mark ∙ ap (mark_of y) (sym e)
          | inr ne ↦ ap (option_map (λ (e : YardEntry). e.mark)) (d.others k ne)
        ]

        off_lane : (k : ℕ) → list_on first k ≢ Some n → k ≢ key
        off_lane k off e = off (ap (list_on first) e ∙ on_first)

        -- a watch that has noted the cars ahead, and then this one
        pub watch-step : (first_watch now_watch : Watch) → now_watch ≡ watched_from drive (cells_at first n count) closed (low_of ahead count) first_watch → noted car.cell place speed now_watch ≡ watched_from drive (cells_at first n count) closed car.cell first_watch
        watch-step f m e =
            ap (λ (p : ℕ). noted car.cell p speed m) place_is
            ∙ ap (noted car.cell (car.cell + speed) speed) (e ∙ sym (watched-skip drive (cells_at first n count) closed (low_of ahead count) (car.cell + 1) f (let l = low-above in omega arith) empty))
            ∙ watched-noted drive (cells_at first n count) closed car.cell (with_speed (vehicle_of car) speed) f moved_here

        list_u : list_at u n ≡ w.done ++ key ∷ tail.0
        list_u = ap (λ l. get_or l n []) d.lists ∙ split

        inside : car.cell < length (cells_at first n count)
        inside = rw size IsPass-inside

        not_away : (k : ℕ) → away ≡ Some k → k ≢ key
        not_away k e same = at-entry (entry_at y k) (w.kept.loose k e) (ap (list_on y) same ∙ IsPass-on)
          where
            at-entry : (o : Option YardEntry) → IsSomeAnd o (λ e. e.list ≡ None) → option_and_then (λ (e : YardEntry). e.list) o ≡ Some n → ⊥
            at-entry None h p = absurd (cc)
            at-entry (Some e) h p = (let l = h in let bad : ◌≡◌ {A = Option ℕ} None (Some n) = sym l ∙ p in cc)

        pub IsPass-stay : place < count → IsPass first u n count (Some car.cell) (Some (car.cell - (car.size - 1))) next away fast × (left u n next < left y n cursor)
        IsPass-stay h =
            let v = with_speed (vehicle_of car) speed in
            let old = cells_at first n count in
            let below = stays_below h in
            let falls_u : IsFalling (cell_at u) count (w.done ++ key ∷ tail.0) =
            falling-join (cell_at u) count (low_of ahead count) w.done (key ∷ tail.0) (done_falls u cars_u) (done_over u cars_u) within
            ((let e = cell_key in let g : cell_at u key < low_of ahead count = omega arith in g), falling-wider (cell_at u) car.cell (cell_at u key) tail.0 (let e = cell_key in omega arith) (tail_falls u cars_u)) in
            let lane_u : IsFalling (cell_at u) count (list_at u n) = subst (IsFalling (cell_at u) count) (sym list_u) falls_u in
            let at_place : key_at (cell_at u) (list_at u n) (car.cell + speed) ≡ Some key =
            ap (λ l. key_at (cell_at u) l (car.cell + speed)) list_u ∙ ap (key_at (cell_at u) (w.done ++ key ∷ tail.0)) (sym place_is ∙ sym cell_key) ∙ key_at-split (cell_at u) count w.done key tail.0 falls_u in
            let step_u : list_at u n ≡ (w.done ++ key ∷ []) ++ tail.0 = list_u ∙ sym (append_assoc w.done (key ∷ []) tail.0) in
            let short : car.cell + speed < length old = rw size (omega arith) in
            let goes_on : leaver_from drive old closed car.cell ≡ leaver_from drive old closed (low_of ahead count) = leaver_from-stays drive old closed car.cell v inside moved_here short ∙ skipped.1 in
            let away_same : option_and_then (vehicle_with u) away ≡ option_and_then (vehicle_with y) away =
            elim (none-or-some away) as (λ _. option_and_then (vehicle_with u) away ≡ option_and_then (vehicle_with y) away) [
              | inl e ↦ ap (option_and_then (vehicle_with u)) e ∙ sym (ap (option_and_then (vehicle_with y)) e)
              | inr s ↦ ap (option_and_then (vehicle_with u)) s.1 ∙ ap (option_map vehicle_of) (cars_u s.0 (not_away s.0 s.1)) ∙ sym (ap (option_and_then (vehicle_with y)) s.1)
            ] in (
              record {
                was = w.was ++ key ∷ [];
                done = w.done ++ key ∷ [];
                rest = tail.0;
                before = old_step;
                split = step_u;
                at_cursor = is_next;
                at_ahead = ahead_step;
                at_rear = rear_step;
                falls = falling-join (cell_at u) count (low_of ahead count) w.done (key ∷ []) (done_falls u cars_u) (done_over u cars_u) within ((let e = cell_key in let g : cell_at u key < low_of ahead count = omega arith in g), tt);
                over = from-push (cell_at u) car.cell w.done key (from-lower (cell_at u) car.cell (low_of ahead count) w.done (let l = low-above in omega arith) (done_over u cars_u)) (let e = cell_key in omega arith);
                same = tail_agrees u cars_u;
                moved_to = part_moved-vehicle drive old closed car.cell v (cells_at y n count) (cells_at u n count) inside moved_here
                    (cells-length u n count d.whole lane_u ∙ sym (cells-length y n count w.kept.whole lane_y))
                    (λ z ne. reads u d.whole lane_u cars_u z (ap (λ l. key_at (cell_at u) l z) list_u ∙ key_at-drop (cell_at u) w.done key tail.0 z (λ e. ne (sym e ∙ cell_key ∙ place_is))))
                    (λ l. cells-read u n count d.whole lane_u (car.cell + speed) ∙ ap (option_and_then (vehicle_with u)) at_place ∙ ap (option_map vehicle_of) driven)
                    skipped.0;
                out = away_same ∙ w.out ∙ sym goes_on;
                fast_is = w.fast_is ∙ ap (option_map (λ (v : Vehicle). v.speed)) (sym goes_on);
                nobody_yet = λ e. absurd (cc);
                kept = record {
                  lists = d.lists ∙ w.kept.lists;
                  count = ap length d.lists ∙ w.kept.count;
                  room = d.room ∙ w.kept.room;
                  others = λ k off. d.others k (off_lane k off) ∙ w.kept.others k off;
                  cars = λ k. stopped_same k ∙ w.kept.cars k;
                  marks = λ k. marks_same k ∙ w.kept.marks k;
                  loose = λ k e. subst (λ o. IsSomeAnd o (λ e. e.list ≡ None)) (sym (d.others k (not_away k e))) (w.kept.loose k e);
                  whole = d.whole;
                };
                whole_first = w.whole_first;
              },
              rw (left-is u n (w.done ++ key ∷ []) tail.0 next d.whole step_u is_next, left-is y n w.done (key ∷ tail.0) cursor w.kept.whole split cur) (omega arith),
            )

        module _ (a : Yard) (l : Leaves u a n key) (inside_lists : n < length first.lists) (past : count ≤ place) where
          nobody : away ≡ None
          nobody = w.nobody_yet (leaves_front past)

          lists_y : y.lists ≡ first.lists
          lists_y = w.kept.lists ∙ ap (left_lists first.lists n) nobody

          list_a : list_at a n ≡ w.done ++ tail.0
          list_a =
              ap (λ ls. get_or ls n []) l.lists
              ∙ get_or-set_same u.lists n _ [] (rw (d.lists, lists_y) inside_lists)
              ∙ ap (without key) list_u ∙ without-split w.done key tail.0 apart.0 apart.1

          cars_a : (k : ℕ) → k ≢ key → car_of a k ≡ car_of y k
          cars_a k ne = ap (option_map (λ (e : YardEntry). e.car)) (l.others k ne) ∙ cars_u k ne

          pub IsPass-leave : IsPass first a n count (Some car.cell) (Some (car.cell - (car.size - 1))) next (Some key) (Some speed) × (left a n next < left y n cursor)
          IsPass-leave =
              let v = with_speed (vehicle_of car) speed in
              let old = cells_at first n count in
              let falls_a : IsFalling (cell_at a) count (w.done ++ tail.0) =
              falling-join (cell_at a) count (low_of ahead count) w.done tail.0 (done_falls a cars_a) (done_over a cars_a) within (falling-wider (cell_at a) car.cell (low_of ahead count) tail.0 (let b = low-above in omega arith) (tail_falls a cars_a)) in
              let lane_a : IsFalling (cell_at a) count (list_at a n) = subst (IsFalling (cell_at a) count) (sym list_a) falls_a in
              let long : length old ≤ car.cell + speed = rw size (omega arith) in
              let goes : leaver_from drive old closed car.cell ≡ Some v = leaver_from-goes drive old closed car.cell v inside moved_here long in (
                record {
                  was = w.was ++ key ∷ [];
                  done = w.done;
                  rest = tail.0;
                  before = old_step;
                  split = list_a;
                  at_cursor = is_next;
                  at_ahead = ahead_step;
                  at_rear = rear_step;
                  falls = done_falls a cars_a;
                  over = from-lower (cell_at a) car.cell (low_of ahead count) w.done (let b = low-above in omega arith) (done_over a cars_a);
                  same = tail_agrees a cars_a;
                  moved_to = part_moved-vehicle drive old closed car.cell v (cells_at y n count) (cells_at a n count) inside moved_here
                      (cells-length a n count l.whole lane_a ∙ sym (cells-length y n count w.kept.whole lane_y))
                      (λ z ne. reads a l.whole lane_a cars_a z (ap (λ l. key_at (cell_at a) l z) list_a))
                      (λ b. absurd (omega arith))
                      skipped.0;
                  out = ap (option_map vehicle_of) (l.car ∙ driven) ∙ sym goes;
                  fast_is = sym (ap (option_map (λ (v : Vehicle). v.speed)) goes);
                  nobody_yet = λ e. absurd (cc);
                  kept = record {
                    lists = l.lists ∙ ap (λ ls. left_lists ls n (Some key)) (d.lists ∙ lists_y);
                    count = ap length l.lists ∙ length-set u.lists n _ ∙ ap length d.lists ∙ w.kept.count;
                    room = l.room ∙ d.room ∙ w.kept.room;
                    others = λ k off. l.others k (off_lane k off) ∙ d.others k (off_lane k off) ∙ w.kept.others k off;
                    cars = λ k. elim (cases_eq k key) as (λ _. option_map stopped (car_of a k) ≡ option_map stopped (car_of first k)) [
                      | inl e ↦ ap (λ j. option_map stopped (car_of a j)) e ∙ ap (option_map stopped) l.car ∙ ap (λ j. option_map stopped (car_of u j)) (sym e) ∙ stopped_same k ∙ w.kept.cars k
                      | inr ne ↦ ap (option_map stopped) (cars_a k ne) ∙ w.kept.cars k
                    ];
                    marks = λ k. elim (cases_eq k key) as (λ _. mark_of a k ≡ mark_of first k) [
                      | inl e ↦ ap (mark_of a) e ∙ l.mark ∙ ap (mark_of u) (sym e) ∙ marks_same k ∙ w.kept.marks k
                      | inr ne ↦ ap (option_map (λ (e : YardEntry). e.mark)) (l.others k ne) ∙ marks_same k ∙ w.kept.marks k
                    ];
                    loose = λ k e. (let same : key ≡ k = cc in subst (IsLoose a) same l.loose);
                    whole = l.whole;
                  };
                  whole_first = w.whole_first;
                },
                rw (left-is a n w.done tail.0 next l.whole list_a is_next, left-is y n w.done (key ∷ tail.0) cursor w.kept.whole split cur) (omega arith),
              )
