use Rattle.std.proofs.Common.{◌≡◌, ◌≢◌, ℕ, ◌-◌, ◌<◌, List, [], ◌∷◌, ◌++◌, length, Option, Some, None, false, refl, sym, ap, subst, ◌∙◌, inl, inr, arith, ◌⊎◌, slice_set, slice_index_or, option_map, option_and_then, unwrap_or}
use Rattle.std.proofs.lemmas.Bool.{cases_eq}
use Rattle.std.proofs.lemmas.List.{length-set, append-nil}
use Rattle.street_base.specs.declared.car.Car.{Car}
use Rattle.street_base.specs.Prelude.{Vehicle, vehicle_of, vehicle_at, rear, AreDisjoint}
use Rattle.street_base.proofs.CoverLemmas.{rear-le}
use Rattle.street_yard.specs.Prelude.{YardEntry, Yard, list_at, entry_at, car_of, list_on, list_set, Has, IsWhole, Updates, cell_at, rear_at, vehicle_with, key_at, seen_at, cells_at, AllAbove, IsFalling, IsLane}
use Rattle.street_yard.proofs.Keys.{has-later}
use Rattle.street_yard.proofs.YardLemmas.{AllAbove-lower, AllAbove-push, car_of-list_set, cell_is, list-written}
use Rattle.street_yard.proofs.FallingLists.{falling-push, falling-agree, found-agree, key_at-drop, key_at-is, cells-read, stands-key, rear-under}
use Rattle.street_part_tests.proofs.motion.put.Goals as goal

above-agree : (f g : ℕ → ℕ) (cell : ℕ) (xs : List ℕ) → ((k : ℕ) → Has xs k → f k ≡ g k) → AllAbove f cell xs → AllAbove g cell xs
above-agree f g cell [] same above = tt
above-agree f g cell (x ∷ xs) same above =
    ((let e = same x ([], xs, refl) in let h = above.0 in omega arith), above-agree f g cell xs (λ k on. same k (has-later x k xs on)) above.1)

-- who lies above a cell with its rear does so with its front
fronts-above : (y : Yard) (cell : ℕ) (xs : List ℕ) → AllAbove (rear_at y) cell xs → AllAbove (cell_at y) cell xs
fronts-above y cell [] above = tt
fronts-above y cell (x ∷ xs) above = ((let under = rear-under y x in let h = above.0 in omega arith), fronts-above y cell xs above.1)

above-has : (f : ℕ → ℕ) (cell : ℕ) (xs : List ℕ) (k : ℕ) → AllAbove f cell xs → Has xs k → cell < f k
above-has f cell xs k above (us, vs, split) = above-in us (subst (AllAbove f cell) split above)
  where
    above-in : (us : List ℕ) → AllAbove f cell (us ++ k ∷ vs) → cell < f k
    above-in [] a = a.0
    above-in (u ∷ us) a = above-in us a.1

-- where a list stands for a lane and all rears on it lie above a cell, so does the rear of whoever is seen
seen-above : (y : Yard) (n count : ℕ) → IsWhole y → IsLane y n count → (cell : ℕ) → AllAbove (rear_at y) cell (list_at y n) → (x : ℕ) (v : Vehicle) → vehicle_at (cells_at y n count) x ≡ Some v → cell < rear x v
seen-above y n count whole lane cell above x v is = by (key_at (cell_at y) (list_at y n) x) refl
  where
    by : (o : Option ℕ) → key_at (cell_at y) (list_at y n) x ≡ o → cell < rear x v
    by None e =
        let bad : ◌≡◌ {A = Option Vehicle} None (Some v) = sym (ap (option_and_then (vehicle_with y)) e) ∙ sym (cells-read y n count whole lane.falls x) ∙ is in
        absurd (cc)
    by (Some k) e =
        let s = stands-key y n count whole lane.falls x k e in
        let both : Some s.0 ≡ Some v = sym s.1 ∙ is in
        let same : s.0 ≡ v = cc in
        let over = above-has (rear_at y) cell (list_at y n) k above (key_at-is (cell_at y) (list_at y n) x k e).1 in
        subst (λ (u : Vehicle). cell < rear x u) same (let r = s.2 in omega (arith, over, r))

-- more room changes no list
was-whole : (old room : Yard) → room ≡ record old { room = room.room } → IsWhole room → IsWhole old
was-whole old room reserved w =
    let v : IsWhole (record old { room = room.room }) = subst IsWhole reserved w in
    record { listed = v.listed; names = v.names; apart = v.apart }

module _ (old room mid new : Yard) (key : ℕ) (car : Car) (some : 0 < length old.lists) (whole : IsWhole old) (reserved : room ≡ record old { room = room.room }) (vacant : entry_at room key ≡ None)
    (admits : Updates room mid key (Some (record { car = car; mark = false; list = None }))) (lists : mid.lists ≡ room.lists)
    (pushed : new ≡ record mid { lists = slice_set mid.lists 0 (list_at mid 0 ++ key ∷ []); kept = list_set mid.kept key (Some 0) }) where
  lists-same : mid.lists ≡ old.lists
  lists-same = lists ∙ ap (λ (y : Yard). y.lists) reserved

  entries-same : (k : ℕ) → entry_at room k ≡ entry_at old k
  entries-same k = ap (λ (y : Yard). entry_at y k) reserved

  count-same : length new.lists ≡ length old.lists
  count-same = ap (λ (y : Yard). length y.lists) pushed ∙ length-set mid.lists 0 (list_at mid 0 ++ key ∷ []) ∙ ap length lists-same

  list-is : list_at new 0 ≡ list_at old 0 ++ key ∷ []
  list-is =
      ap (λ (y : Yard). list_at y 0) pushed
      ∙ list-written mid.lists 0 (list_at mid 0 ++ key ∷ []) (subst (λ (ls : List (List ℕ)). 0 < length ls) (sym lists-same) some)
      ∙ ap (λ (ls : List (List ℕ)). slice_index_or ls 0 [] ++ key ∷ []) lists-same

  car-mid : (k : ℕ) → car_of new k ≡ car_of mid k
  car-mid k = ap (λ (y : Yard). car_of y k) pushed ∙ car_of-list_set mid.kept key (Some 0) k

  cell-new : cell_at new key ≡ car.cell
  cell-new = cell_is new key car (car-mid key ∙ ap (option_map (λ (e : YardEntry). e.car)) admits.changed)

  rear-new : rear_at new key ≡ car.cell - (car.size - 1)
  rear-new = ap (λ (o : Option Car). unwrap_or (option_map (λ (c : Car). c.cell - (c.size - 1)) o) 0) (car-mid key ∙ ap (option_map (λ (e : YardEntry). e.car)) admits.changed)

  listed-other : (k : ℕ) → Has (list_at old 0) k → k ≢ key
  listed-other k on same =
      let place = whole.names k 0 on in
      let none : list_on old k ≡ None = ap (list_on old) same ∙ ap (option_and_then (λ (e : YardEntry). e.list)) (sym (entries-same key) ∙ vacant) in
      let bad : ◌≡◌ {A = Option ℕ} (Some 0) None = sym place ∙ none in
      cc

  car-same : (k : ℕ) → Has (list_at old 0) k → car_of new k ≡ car_of old k
  car-same k on = car-mid k ∙ ap (option_map (λ (e : YardEntry). e.car)) (admits.others k (listed-other k on) ∙ entries-same k)

  cell-same : (k : ℕ) → Has (list_at old 0) k → cell_at old k ≡ cell_at new k
  cell-same k on = ap (λ (o : Option Car). unwrap_or (option_map (λ (c : Car). c.cell) o) 0) (sym (car-same k on))

  rear-same : (k : ℕ) → Has (list_at old 0) k → rear_at old k ≡ rear_at new k
  rear-same k on = ap (λ (o : Option Car). unwrap_or (option_map (λ (c : Car). c.cell - (c.size - 1)) o) 0) (sym (car-same k on))

  put-above : (cell : ℕ) → cell < car.cell - (car.size - 1) → AllAbove (rear_at old) car.cell (list_at old 0) → AllAbove (rear_at new) cell (list_at new 0)
  put-above cell lower above =
      let old_ones = above-agree (rear_at old) (rear_at new) car.cell (list_at old 0) rear-same above in
      let ahead = AllAbove-lower (rear_at new) cell car.cell (list_at old 0) (omega arith) old_ones in
      subst (AllAbove (rear_at new) cell) (sym list-is) (AllAbove-push (rear_at new) cell (list_at old 0) key ahead (omega (arith, rear-new)))

  module _ (count : ℕ) (within : car.cell < count) (lane : IsLane old 0 count) (above : AllAbove (rear_at old) car.cell (list_at old 0)) (still : IsWhole new) where
    put-falls : IsFalling (cell_at new) count (list_at new 0)
    put-falls =
        let old_ones = above-agree (cell_at old) (cell_at new) car.cell (list_at old 0) cell-same (fronts-above old car.cell (list_at old 0) above) in
        let falls = falling-agree (cell_at old) (cell_at new) count (list_at old 0) cell-same lane.falls in
        subst (IsFalling (cell_at new) count) (sym list-is) (falling-push (cell_at new) count (list_at old 0) key falls (subst (λ n. AllAbove (cell_at new) n (list_at old 0)) (sym cell-new) old_ones) (omega (arith, cell-new)))

    elsewhere : (z : ℕ) → z ≢ car.cell → seen_at new 0 z ≡ seen_at old 0 z
    elsewhere z ne =
        ap (λ l. option_and_then (vehicle_with new) (key_at (cell_at new) l z)) list-is
        ∙ ap (option_and_then (vehicle_with new)) (key_at-drop (cell_at new) (list_at old 0) key [] z (λ e. ne (sym e ∙ cell-new)))
        ∙ ap (λ l. option_and_then (vehicle_with new) (key_at (cell_at new) l z)) (append-nil (list_at old 0))
        ∙ found-agree (cell_at new) (cell_at old) (vehicle_with new) (vehicle_with old) (list_at old 0) z (λ k on. sym (cell-same k on)) (λ k on. ap (option_map vehicle_of) (car-same k on))

    -- who is seen is the new one or was seen before
    old-or-new : (z : ℕ) (u : Vehicle) → vehicle_at (cells_at new 0 count) z ≡ Some u → (z ≡ car.cell) ⊎ (vehicle_at (cells_at old 0 count) z ≡ Some u)
    old-or-new z u is = elim (cases_eq z car.cell) as (λ _. (z ≡ car.cell) ⊎ (vehicle_at (cells_at old 0 count) z ≡ Some u)) [
      | inl here ↦ inl here
      | inr ne ↦ inr (cells-read old 0 count whole lane.falls z ∙ sym (elsewhere z ne) ∙ sym (cells-read new 0 count still put-falls z) ∙ is)
    ]

    over : (z : ℕ) (u : Vehicle) → vehicle_at (cells_at old 0 count) z ≡ Some u → car.cell < rear z u
    over = seen-above old 0 count whole lane car.cell above

    put-disjoint : AreDisjoint (cells_at new 0 count)
    put-disjoint x y v w less at_x at_y = elim (old-or-new y w at_y) as (λ _. x < rear y w) [
      | inl new_y ↦ elim (old-or-new x v at_x) as (λ _. x < rear y w) [
        | inl new_x ↦ absurd (omega arith)
        | inr old_x ↦ (let o = over x v old_x in let le = rear-le x v in absurd (omega arith))
      ]
      | inr old_y ↦ elim (old-or-new x v at_x) as (λ _. x < rear y w) [
        | inl new_x ↦ (let o = over y w old_y in omega arith)
        | inr old_x ↦ lane.disjoint x y v w less old_x old_y
      ]
    ]

    put-lane : IsLane new 0 count
    put-lane = record { falls = put-falls; disjoint = put-disjoint }

pub returns-clause-list : goal.returns-clause-list
returns-clause-list c =
    count-same c.args.yard.now c.reserve.new.self c.admit_reserved-key.new.self c.push_back.new.self _ _ c.requires.list (was-whole _ _ c.reserve.ensures.rest_kept c.admit_reserved-key.ensures.was_whole) c.reserve.ensures.rest_kept c.admit_reserved-key.ensures.was_vacant c.admit_reserved-key.ensures.updates c.admit_reserved-key.ensures.lists c.push_back.ensures.after

pub returns-clause-lane : goal.returns-clause-lane
returns-clause-lane c =
    put-lane c.args.yard.now c.reserve.new.self c.admit_reserved-key.new.self c.push_back.new.self _ _ c.requires.list (was-whole _ _ c.reserve.ensures.rest_kept c.admit_reserved-key.ensures.was_whole) c.reserve.ensures.rest_kept c.admit_reserved-key.ensures.was_vacant c.admit_reserved-key.ensures.updates c.admit_reserved-key.ensures.lists c.push_back.ensures.after 40 c.requires.within c.requires.lane c.requires.below c.push_back.ensures.whole

pub returns-clause-below : goal.returns-clause-below
returns-clause-below c =
    λ cell lower. put-above c.args.yard.now c.reserve.new.self c.admit_reserved-key.new.self c.push_back.new.self _ _ c.requires.list (was-whole _ _ c.reserve.ensures.rest_kept c.admit_reserved-key.ensures.was_whole) c.reserve.ensures.rest_kept c.admit_reserved-key.ensures.was_vacant c.admit_reserved-key.ensures.updates c.admit_reserved-key.ensures.lists c.push_back.ensures.after cell lower c.requires.below
