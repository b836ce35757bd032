-- What detectors note while the vehicles are moved from the end of the lane to its begin.
use Rattle.std.proofs.Common.{◌≡◌, ℕ, zero, suc, ◌+◌, ◌-◌, ◌*◌, ◌<◌, ◌≤◌, Bool, true, false, List, length, map, get_or, Option, Some, None, refl, sym, ap, ◌∙◌, inl, inr, arith, nat_lt, ◌&&◌, sum_by, if◌then◌else◌, All}
use Rattle.std.specs.Option.{option_map_or}
use Rattle.std.specs.List.{range_with_len}
use Rattle.std.proofs.lemmas.Bool.{cases_lt, lt-ltb, le-ltb, le-leb, lt-leb}
use Rattle.std.proofs.lemmas.List.{length-map, get_or-map, ext_get_or}
use Rattle.std.proofs.lemmas.List.Elements.{All-get_or}
use Rattle.std.proofs.lemmas.List.Sums.{sum_by-cons}
use Rattle.std.proofs.Math.Path.{fun_ext}
use Rattle.street_base.specs.Prelude.{Vehicle, Cells, vehicle_at, Drive, moved, of_passing, triple}
use Rattle.street_rule.specs.declared.watch.Watch.{Watch}
use Rattle.street_rule.specs.Prelude.{watched, noted, HasRoom, IsReady}
use Rattle.street_base.proofs.DrivingLemmas.{moves-within_limit}

module _ (drive : Drive) (old : Cells) (closed : List Bool) where
  -- the vehicles of the cells from low up to c that went past c
  abbrev pub passing_from : (Vehicle → ℕ) → ℕ → ℕ → ℕ
  passing_from f low c = sum_by (of_passing f drive old closed c) (range_with_len low (c + 1 - low))

  from-past : (f : Vehicle → ℕ) (low c : ℕ) → c < low → passing_from f low c ≡ 0
  from-past f low c h = let e : c + 1 - low ≡ 0 = omega arith in rw e refl

  from-step : (f : Vehicle → ℕ) (x c : ℕ) → x ≤ c → passing_from f x c ≡ of_passing f drive old closed c x + passing_from f (x + 1) c
  from-step f x c h = let e : c + 1 - x ≡ suc (c + 1 - (x + 1)) = omega arith in ap (λ n. sum_by (of_passing f drive old closed c) (range_with_len x n)) e ∙ sum_by-cons (of_passing f drive old closed c) x (range_with_len (x + 1) (c + 1 - (x + 1)))

  none-passes : (f : Vehicle → ℕ) (c x : ℕ) → vehicle_at old x ≡ None → of_passing f drive old closed c x ≡ 0
  unfolding moved
  none-passes f c x e = rw e refl

  some-passes : (f : Vehicle → ℕ) (c x : ℕ) (v : Vehicle) → moved drive old closed x ≡ Some v → of_passing f drive old closed c x ≡ (if nat_lt c (x + v.speed) then f v else 0)
  some-passes f c x v e = rw e refl

  from-empty : (f : Vehicle → ℕ) (x c : ℕ) → vehicle_at old x ≡ None → passing_from f x c ≡ passing_from f (x + 1) c
  from-empty f x c e = elim (cases_lt c x) as (λ _. passing_from f x c ≡ passing_from f (x + 1) c) [
    | inl h ↦ from-past f x c h ∙ sym (from-past f (x + 1) c (omega arith))
    | inr h ↦ from-step f x c h ∙ ap (λ n. n + passing_from f (x + 1) c) (none-passes f c x e) ∙ (let z : 0 + passing_from f (x + 1) c ≡ passing_from f (x + 1) c = omega arith in z)
  ]

  skip : (f : Vehicle → ℕ) (d low x c : ℕ) → x + d ≡ low → ((z : ℕ) → x ≤ z → z < low → vehicle_at old z ≡ None) → passing_from f x c ≡ passing_from f low c
  skip f zero low x c e empty = let same : x ≡ low = omega arith in ap (λ l. passing_from f l c) same
  skip f (suc d) low x c e empty = from-empty f x c (empty x (omega arith) (omega arith)) ∙ skip f d low (x + 1) c (omega arith) (λ z a b. empty z (omega arith) b)

  pub from-skip : (f : Vehicle → ℕ) (low x c : ℕ) → x ≤ low → ((z : ℕ) → x ≤ z → z < low → vehicle_at old z ≡ None) → passing_from f x c ≡ passing_from f low c
  from-skip f low x c h empty = skip f (low - x) low x c (omega arith) empty

  -- a watch when the cells from low on are done
  abbrev pub watched_from : ℕ → Watch → Watch
  watched_from low w = record w {
    passes = w.passes + passing_from (λ v. 1) low w.cell;
    speeds = w.speeds + passing_from (λ v. v.speed) low w.cell;
  }

  with-sums : (w : Watch) (a b : ℕ) → a ≡ 0 → b ≡ 0 → ◌≡◌ {A = Watch} (record w { passes = w.passes + a; speeds = w.speeds + b }) w
  with-sums w a b e f =
      let p : w.passes + a ≡ w.passes = omega arith in
      let s : w.speeds + b ≡ w.speeds = omega arith in
      rw (p, s) refl

  pub watched-past : (low : ℕ) (w : Watch) → w.cell < low → watched_from low w ≡ w
  watched-past low w h = with-sums w _ _ (from-past (λ v. 1) low w.cell h) (from-past (λ v. v.speed) low w.cell h)

  pub watched-skip : (low x : ℕ) (w : Watch) → x ≤ low → ((z : ℕ) → x ≤ z → z < low → vehicle_at old z ≡ None) → watched_from x w ≡ watched_from low w
  watched-skip low x w h empty =
      ap (λ (a : ℕ). record w { passes = w.passes + a; speeds = w.speeds + passing_from (λ v. v.speed) x w.cell }) (from-skip (λ v. 1) low x w.cell h empty)
      ∙ ap (λ (b : ℕ). record w { passes = w.passes + passing_from (λ v. 1) low w.cell; speeds = w.speeds + b }) (from-skip (λ v. v.speed) low x w.cell h empty)

  -- past a vehicle
  noted-below : (x place speed : ℕ) (w : Watch) → w.cell < x → noted x place speed w ≡ w
  noted-below x place speed w h = ap (λ (b : Bool). if b && nat_lt w.cell place then record w { passes = w.passes + 1; speeds = w.speeds + speed } else w) (lt-leb x w.cell h)

  noted-short : (x place speed : ℕ) (w : Watch) → x ≤ w.cell → place ≤ w.cell → noted x place speed w ≡ w
  noted-short x place speed w h g =
      ap (λ (b : Bool). if b && nat_lt w.cell place then record w { passes = w.passes + 1; speeds = w.speeds + speed } else w) (le-leb x w.cell h)
      ∙ ap (λ (b : Bool). if b then record w { passes = w.passes + 1; speeds = w.speeds + speed } else w) (le-ltb w.cell place g)

  noted-past : (x place speed : ℕ) (w : Watch) → x ≤ w.cell → w.cell < place → ◌≡◌ {A = Watch} (noted x place speed w) (record w { passes = w.passes + 1; speeds = w.speeds + speed })
  noted-past x place speed w h g =
      ap (λ (b : Bool). if b && nat_lt w.cell place then record w { passes = w.passes + 1; speeds = w.speeds + speed } else w) (le-leb x w.cell h)
      ∙ ap (λ (b : Bool). if b then record w { passes = w.passes + 1; speeds = w.speeds + speed } else w) (lt-ltb w.cell place g)

  sums-same : (w : Watch) (a b d e : ℕ) → a ≡ d → b ≡ e → ◌≡◌ {A = Watch} (record w { passes = a; speeds = b }) (record w { passes = d; speeds = e })
  sums-same w a b d e p q = rw (p, q) refl

  from-vehicle : (f : Vehicle → ℕ) (x c : ℕ) (v : Vehicle) → x ≤ c → moved drive old closed x ≡ Some v → passing_from f x c ≡ (if nat_lt c (x + v.speed) then f v else 0) + passing_from f (x + 1) c
  from-vehicle f x c v h is = from-step f x c h ∙ ap (λ n. n + passing_from f (x + 1) c) (some-passes f c x v is)

  from-here : (f : Vehicle → ℕ) (x c : ℕ) (v : Vehicle) → x ≤ c → c < x + v.speed → moved drive old closed x ≡ Some v → passing_from f x c ≡ f v + passing_from f (x + 1) c
  from-here f x c v h l is = from-vehicle f x c v h is ∙ ap (λ (b : Bool). (if b then f v else 0) + passing_from f (x + 1) c) (lt-ltb c (x + v.speed) l)

  from-short : (f : Vehicle → ℕ) (x c : ℕ) (v : Vehicle) → x ≤ c → x + v.speed ≤ c → moved drive old closed x ≡ Some v → passing_from f x c ≡ passing_from f (x + 1) c
  from-short f x c v h l is = from-vehicle f x c v h is ∙ ap (λ (b : Bool). (if b then f v else 0) + passing_from f (x + 1) c) (le-ltb c (x + v.speed) l) ∙ (let z : 0 + passing_from f (x + 1) c ≡ passing_from f (x + 1) c = omega arith in z)

  pub watched-noted : (x : ℕ) (v : Vehicle) (w : Watch) → moved drive old closed x ≡ Some v → noted x (x + v.speed) v.speed (watched_from (x + 1) w) ≡ watched_from x w
  watched-noted x v w is = elim (cases_lt w.cell x) as (λ _. noted x (x + v.speed) v.speed (watched_from (x + 1) w) ≡ watched_from x w) [
    | inl h ↦ noted-below x (x + v.speed) v.speed (watched_from (x + 1) w) h ∙ watched-past (x + 1) w (omega arith) ∙ sym (watched-past x w h)
    | inr h ↦ elim (cases_lt w.cell (x + v.speed)) as (λ _. noted x (x + v.speed) v.speed (watched_from (x + 1) w) ≡ watched_from x w) [
      | inl l ↦ (
          let p = from-here (λ u. 1) x w.cell v h l is in
          let q = from-here (λ u. u.speed) x w.cell v h l is in
          noted-past x (x + v.speed) v.speed (watched_from (x + 1) w) h l ∙ sums-same w _ _ _ _ (omega (arith, p)) (omega (arith, q)))
      | inr g ↦ (
          let p = from-short (λ u. 1) x w.cell v h g is in
          let q = from-short (λ u. u.speed) x w.cell v h g is in
          noted-short x (x + v.speed) v.speed (watched_from (x + 1) w) h g ∙ sums-same w _ _ _ _ (omega (arith, p)) (omega (arith, q)))
    ]
  ]

  passes-most : (f : Vehicle → ℕ) (most c x : ℕ) (o : Option Vehicle) → ((v : Vehicle) → o ≡ Some v → f v ≤ most) → option_map_or (λ v. if nat_lt c (x + v.speed) then f v else 0) o 0 ≤ most
  passes-most f most c x None each = omega arith
  passes-most f most c x (Some v) each = elim (nat_lt c (x + v.speed)) as (λ b. (if b then f v else 0) ≤ most) [ true ↦ each v refl | false ↦ omega arith ]

  from-most : (f : Vehicle → ℕ) (most : ℕ) → ((x : ℕ) (v : Vehicle) → moved drive old closed x ≡ Some v → f v ≤ most) → (c n x : ℕ) → sum_by (of_passing f drive old closed c) (range_with_len x n) ≤ most * n
  from-most f most each c zero x = omega arith
  from-most f most each c (suc n) x =
      let h = from-most f most each c n (x + 1) in
      let p : of_passing f drive old closed c x ≤ most = passes-most f most c x (moved drive old closed x) (each x) in
      let e : sum_by (of_passing f drive old closed c) (range_with_len x (suc n)) ≡ of_passing f drive old closed c x + sum_by (of_passing f drive old closed c) (range_with_len (x + 1) n) = sum_by-cons (of_passing f drive old closed c) x (range_with_len (x + 1) n) in
      let m : most * suc n ≡ most + most * n = omega arith in
      rw (e, m) (omega (arith, h, p))

  pub watched-room : (count low : ℕ) (w : Watch) → drive.limit ≤ 255 → count ≤ 1000000 → IsReady count w → HasRoom (watched_from low w)
  watched-room count low w slow short ready =
      let a = ready.cell in
      let b = ready.passes in
      let d = ready.speeds in
      let n : w.cell + 1 - low ≤ 1000000 = omega arith in
      let p : passing_from (λ v. 1) low w.cell ≤ 1 * (w.cell + 1 - low) = from-most (λ v. 1) 1 (λ x v is. omega arith) w.cell (w.cell + 1 - low) low in
      let q : passing_from (λ v. v.speed) low w.cell ≤ 255 * (w.cell + 1 - low) = from-most (λ v. v.speed) 255 (λ x v is. let s = moves-within_limit drive old closed x v is in omega arith) w.cell (w.cell + 1 - low) low in
      record { passes = omega (arith, p, n); speeds = omega (arith, q, n) }

  -- all cells done: what the detector's triple says
  pub watched-all : (w : Watch) → watched_from 0 w ≡ watched drive (record { cells = old; closed = closed }) w
  unfolding triple
  watched-all w =
      let e : w.cell + 1 - 0 ≡ w.cell + 1 = omega arith in
      sums-same w _ _ _ _ (ap (λ (n : ℕ). w.passes + sum_by (of_passing (λ v. 1) drive old closed w.cell) (range_with_len 0 n)) e) (ap (λ (n : ℕ). w.speeds + sum_by (of_passing (λ v. v.speed) drive old closed w.cell) (range_with_len 0 n)) e)

-- ---- all watches of a lane

no_watch : Watch
no_watch = record { cell = 0; passes = 0; speeds = 0 }

pub map-agree : (f g : Watch → Watch) (ws : List Watch) → ((w : Watch) → f w ≡ g w) → map f ws ≡ map g ws
map-agree f g ws each = ap (λ (h : Watch → Watch). map h ws) (fun_ext each)

pub map-kept : (P : Watch → Type 0) (f : Watch → Watch) → ((w : Watch) → P w → f w ≡ w) → (ws : List Watch) → All P ws → map f ws ≡ ws
map-kept P f each ws all = ext_get_or no_watch (map f ws) ws (length-map ws f) (λ i h. let inside : i < length ws = (let same = length-map ws f in omega arith) in get_or-map f ws i no_watch no_watch inside ∙ each (get_or ws i no_watch) (All-get_or P ws i no_watch inside all))
