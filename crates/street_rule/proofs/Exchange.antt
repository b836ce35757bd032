-- Two lists whose marked keys change places, by who is in each cell.
use Rattle.std.proofs.Common.{◌≡◌, ◌≢◌, ◌⊎◌, ℕ, ◌<◌, Bool, true, false, not, cond, List, [], ◌∷◌, Option, Some, None, refl, sym, ap, subst, ◌∙◌, inl, inr, arith, nat_le, ◌==◌, filter}
use Rattle.std.proofs.lemmas.Bool.{cases_eq, cases_Bool, cases_lt, cond-true, cond-false, eq-eqb, ne_eqb, le-leb, lt-leb}
use Rattle.street_yard.specs.Prelude.{Has, key_at, IsFalling}
use Rattle.street_rule.specs.Prelude.{put_falling, put_all}
use Rattle.street_rule.proofs.RelinkWalk.{put_falling-same}
use Rattle.street_yard.proofs.FallingLists.{falling-below, falling-wider, key_at-is}

abbrev pub or_else : Option ℕ → Option ℕ → Option ℕ
or_else None q = q
or_else (Some p) q = Some p

abbrev pub filtered : (ℕ → Bool) → Option ℕ → Option ℕ
filtered p None = None
filtered p (Some k) = cond (p k) (Some k) None

abbrev pub not_at : (ℕ → Bool) → ℕ → Bool
not_at p k = not (p k)

pub none-or-key : (o : Option ℕ) → (o ≡ None) ⊎ ((k : ℕ) × (o ≡ Some k))
none-or-key None = inl refl
none-or-key (Some k) = inr (k, refl)

pub put_all-same : (f g : ℕ → ℕ) (ks xs : List ℕ) → ((k : ℕ) → f k ≡ g k) → put_all f ks xs ≡ put_all g ks xs
put_all-same f g [] xs same = refl
put_all-same f g (k ∷ ks) xs same = put_all-same f g ks (put_falling f k xs) same ∙ ap (put_all g ks) (put_falling-same f g k xs same)

module _ (cell : ℕ → ℕ) where
  pub falling-filter : (p : ℕ → Bool) (bound : ℕ) (xs : List ℕ) → IsFalling cell bound xs → IsFalling cell bound (filter p xs)
  falling-filter p bound [] f = tt
  falling-filter p bound (x ∷ xs) f =
      let rest = falling-filter p (cell x) xs f.1 in
      elim (cases_Bool (p x)) as (λ _. IsFalling cell bound (filter p (x ∷ xs))) [
        | inl t ↦ subst (IsFalling cell bound) (sym (cond-true (p x) (x ∷ filter p xs) (filter p xs) t)) (f.0, rest)
        | inr n ↦ subst (IsFalling cell bound) (sym (cond-false (p x) (x ∷ filter p xs) (filter p xs) n)) (falling-wider cell (cell x) bound (filter p xs) (let a = f.0 in omega arith) rest)
      ]

  pub key_at-filter : (p : ℕ → Bool) (bound : ℕ) (xs : List ℕ) (x : ℕ) → IsFalling cell bound xs → key_at cell (filter p xs) x ≡ filtered p (key_at cell xs x)
  key_at-filter p bound [] x f = refl
  key_at-filter p bound (k ∷ ks) x f =
      let rest = key_at-filter p (cell k) ks x f.1 in
      elim (cases_eq (cell k) x) as (λ _. key_at cell (filter p (k ∷ ks)) x ≡ filtered p (key_at cell (k ∷ ks) x)) [
        | inl e ↦ (
            let here : key_at cell (k ∷ ks) x ≡ Some k = cond-true _ _ _ (eq-eqb (cell k) x e) in
            elim (cases_Bool (p k)) as (λ _. key_at cell (filter p (k ∷ ks)) x ≡ filtered p (key_at cell (k ∷ ks) x)) [
              | inl t ↦ ap (λ l. key_at cell l x) (cond-true (p k) (k ∷ filter p ks) (filter p ks) t) ∙ cond-true _ _ _ (eq-eqb (cell k) x e) ∙ sym (ap (filtered p) here ∙ cond-true (p k) (Some k) None t)
              | inr n ↦ ap (λ l. key_at cell l x) (cond-false (p k) (k ∷ filter p ks) (filter p ks) n) ∙ falling-below cell (cell k) (filter p ks) x (falling-filter p (cell k) ks f.1) (omega arith) ∙ sym (ap (filtered p) here ∙ cond-false (p k) (Some k) None n)
            ])
        | inr ne ↦ (
            let later : key_at cell (k ∷ ks) x ≡ key_at cell ks x = cond-false _ _ _ (ne_eqb (cell k) x ne) in
            elim (cases_Bool (p k)) as (λ _. key_at cell (filter p (k ∷ ks)) x ≡ filtered p (key_at cell (k ∷ ks) x)) [
              | inl t ↦ ap (λ l. key_at cell l x) (cond-true (p k) (k ∷ filter p ks) (filter p ks) t) ∙ cond-false _ _ _ (ne_eqb (cell k) x ne) ∙ rest ∙ sym (ap (filtered p) later)
              | inr n ↦ ap (λ l. key_at cell l x) (cond-false (p k) (k ∷ filter p ks) (filter p ks) n) ∙ rest ∙ sym (ap (filtered p) later)
            ])
      ]

  pub key_at-put-here : (k : ℕ) (xs : List ℕ) → key_at cell (put_falling cell k xs) (cell k) ≡ Some k
  key_at-put-here k [] = cond-true _ _ _ (eq-eqb (cell k) (cell k) refl)
  key_at-put-here k (u ∷ us) =
      elim (cases_lt (cell k) (cell u)) as (λ _. key_at cell (put_falling cell k (u ∷ us)) (cell k) ≡ Some k) [
        | inl h ↦ ap (λ l. key_at cell l (cell k)) (cond-false _ _ _ (lt-leb (cell u) (cell k) h)) ∙ cond-false _ _ _ (ne_eqb (cell u) (cell k) (λ e. absurd (omega arith))) ∙ key_at-put-here k us
        | inr h ↦ ap (λ l. key_at cell l (cell k)) (cond-true _ _ _ (le-leb (cell u) (cell k) h)) ∙ cond-true _ _ _ (eq-eqb (cell k) (cell k) refl)
      ]

  pub key_at-put-other : (k : ℕ) (xs : List ℕ) (x : ℕ) → cell k ≢ x → key_at cell (put_falling cell k xs) x ≡ key_at cell xs x
  key_at-put-other k [] x ne = cond-false _ _ _ (ne_eqb (cell k) x ne)
  key_at-put-other k (u ∷ us) x ne =
      elim (cases_lt (cell k) (cell u)) as (λ _. key_at cell (put_falling cell k (u ∷ us)) x ≡ key_at cell (u ∷ us) x) [
        | inl h ↦ ap (λ l. key_at cell l x) (cond-false _ _ _ (lt-leb (cell u) (cell k) h)) ∙ ap (cond (cell u == x) (Some u)) (key_at-put-other k us x ne)
        | inr h ↦ ap (λ l. key_at cell l x) (cond-true _ _ _ (le-leb (cell u) (cell k) h)) ∙ cond-false _ _ _ (ne_eqb (cell k) x ne)
      ]

  pub key_at-put_all : (bound : ℕ) (ks xs : List ℕ) (x : ℕ) → IsFalling cell bound ks → key_at cell (put_all cell ks xs) x ≡ or_else (key_at cell ks x) (key_at cell xs x)
  key_at-put_all bound [] xs x f = refl
  key_at-put_all bound (k ∷ ks) xs x f =
      let rest = key_at-put_all (cell k) ks (put_falling cell k xs) x f.1 in
      elim (cases_eq (cell k) x) as (λ _. key_at cell (put_all cell (k ∷ ks) xs) x ≡ or_else (key_at cell (k ∷ ks) x) (key_at cell xs x)) [
        | inl e ↦ rest ∙ ap (λ o. or_else o (key_at cell (put_falling cell k xs) x)) (falling-below cell (cell k) ks x f.1 (omega arith)) ∙ ap (key_at cell (put_falling cell k xs)) (sym e) ∙ key_at-put-here k xs
            ∙ sym (ap (λ o. or_else o (key_at cell xs x)) (cond-true (cell k == x) (Some k) (key_at cell ks x) (eq-eqb (cell k) x e)))
        | inr ne ↦ rest ∙ ap (or_else (key_at cell ks x)) (key_at-put-other k xs x ne) ∙ sym (ap (λ o. or_else o (key_at cell xs x)) (cond-false (cell k == x) (Some k) (key_at cell ks x) (ne_eqb (cell k) x ne)))
      ]

  pub falling-put : (bound k : ℕ) (xs : List ℕ) → IsFalling cell bound xs → cell k < bound → key_at cell xs (cell k) ≡ None → IsFalling cell bound (put_falling cell k xs)
  falling-put bound k [] f h e = (h, tt)
  falling-put bound k (u ∷ us) f h e =
      elim (cases_eq (cell u) (cell k)) as (λ _. IsFalling cell bound (put_falling cell k (u ∷ us))) [
        | inl s ↦ absurd (let bad : ◌≡◌ {A = Option ℕ} (Some u) None = sym (cond-true (cell u == cell k) (Some u) (key_at cell us (cell k)) (eq-eqb (cell u) (cell k) s)) ∙ e in cc)
        | inr ne ↦ elim (cases_lt (cell k) (cell u)) as (λ _. IsFalling cell bound (put_falling cell k (u ∷ us))) [
          | inl l ↦ subst (IsFalling cell bound) (sym (cond-false (nat_le (cell u) (cell k)) (k ∷ u ∷ us) (u ∷ put_falling cell k us) (lt-leb (cell u) (cell k) l)))
              (f.0, falling-put (cell u) k us f.1 l (sym (cond-false (cell u == cell k) (Some u) (key_at cell us (cell k)) (ne_eqb (cell u) (cell k) ne)) ∙ e))
          | inr g ↦ subst (IsFalling cell bound) (sym (cond-true (nat_le (cell u) (cell k)) (k ∷ u ∷ us) (u ∷ put_falling cell k us) (le-leb (cell u) (cell k) g)))
              (h, ((let l : cell u < cell k = omega arith in l), f.1))
        ]
      ]

  pub falling-put_all : (bound : ℕ) (ks xs : List ℕ) → IsFalling cell bound ks → IsFalling cell bound xs → ((x k : ℕ) → key_at cell ks x ≡ Some k → key_at cell xs x ≡ None) → IsFalling cell bound (put_all cell ks xs)
  falling-put_all bound [] xs f g apart = g
  falling-put_all bound (k ∷ ks) xs f g apart =
      let free : key_at cell xs (cell k) ≡ None = apart (cell k) k (cond-true (cell k == cell k) (Some k) (key_at cell ks (cell k)) (eq-eqb (cell k) (cell k) refl)) in
      let h : cell k < bound = f.0 in
      falling-put_all bound ks (put_falling cell k xs) (falling-wider cell (cell k) bound ks (omega arith) f.1) (falling-put bound k xs g h free) (λ x j e.
      elim (cases_eq (cell k) x) as (λ _. key_at cell (put_falling cell k xs) x ≡ None) [
        | inl s ↦ absurd (let bad : ◌≡◌ {A = Option ℕ} (Some j) None = sym e ∙ falling-below cell (cell k) ks x f.1 (omega arith) in cc)
        | inr ne ↦ key_at-put-other k xs x ne ∙ apart x j (cond-false (cell k == x) (Some k) (key_at cell ks x) (ne_eqb (cell k) x ne) ∙ e)
      ])

-- who is in one cell of each lane
table : (p q : ℕ → Bool) (a b : Option ℕ) (sa sb : Bool) → ((k : ℕ) → a ≡ Some k → p k ≡ sa) → ((k : ℕ) → b ≡ Some k → p k ≡ sb) → ((k : ℕ) → a ≡ Some k → q k ≡ false) → ((k : ℕ) → b ≡ Some k → q k ≡ sb)
    → (sa ≡ true → b ≡ None) → (sb ≡ true → a ≡ None) → (a ≡ None → sa ≡ false) → (b ≡ None → sb ≡ false)
    → (or_else (filtered q (or_else (filtered p a) b)) (filtered (not_at p) a) ≡ cond sb b (cond sa None a)) × (filtered (not_at q) (or_else (filtered p a) b) ≡ cond sa a (cond sb None b))
table p q None None sa sb pa pb qa qb ea eb va vb = rw (va refl, vb refl) (refl, refl)
table p q (Some k) None true sb pa pb qa qb ea eb va vb = rw (pa k refl, vb refl, qa k refl) (refl, refl)
table p q (Some k) None false sb pa pb qa qb ea eb va vb = rw (pa k refl, vb refl) (refl, refl)
table p q None (Some j) sa true pa pb qa qb ea eb va vb = rw (va refl, qb j refl) (refl, refl)
table p q None (Some j) sa false pa pb qa qb ea eb va vb = rw (va refl, qb j refl) (refl, refl)
table p q (Some k) (Some j) true sb pa pb qa qb ea eb va vb = absurd (let bad : ◌≡◌ {A = Option ℕ} (Some j) None = ea refl in cc)
table p q (Some k) (Some j) false true pa pb qa qb ea eb va vb = absurd (let bad : ◌≡◌ {A = Option ℕ} (Some k) None = eb refl in cc)
table p q (Some k) (Some j) false false pa pb qa qb ea eb va vb = rw (pa k refl, qb j refl) (refl, refl)

-- the tests of two lanes of keys, and the marks before and after the first of them was relinked
pub record IsExchange (cell : ℕ → ℕ) (count : ℕ) (xs ys : List ℕ) (p q : ℕ → Bool) (cx cy : ℕ → Bool) : Type 0 where
  pub x_falls : IsFalling cell count xs
  pub y_falls : IsFalling cell count ys
  pub x_marks : (k : ℕ) → Has xs k → p k ≡ cx (cell k)
  pub y_marks : (k : ℕ) → Has ys k → p k ≡ cy (cell k)
  pub x_later : (k : ℕ) → Has xs k → q k ≡ false
  pub y_later : (k : ℕ) → Has ys k → q k ≡ cy (cell k)
  pub x_free : (x : ℕ) → cx x ≡ true → key_at cell ys x ≡ None
  pub y_free : (x : ℕ) → cy x ≡ true → key_at cell xs x ≡ None
  pub x_there : (x : ℕ) → key_at cell xs x ≡ None → cx x ≡ false
  pub y_there : (x : ℕ) → key_at cell ys x ≡ None → cy x ≡ false

module _ (cell : ℕ → ℕ) (count : ℕ) (xs ys : List ℕ) (p q : ℕ → Bool) (cx cy : ℕ → Bool) (w : IsExchange cell count xs ys p q cx cy) where
  abbrev pub y_mid : List ℕ
  y_mid = put_all cell (filter p xs) ys

  abbrev pub x_mid : List ℕ
  x_mid = filter (not_at p) xs

  abbrev pub x_end : List ℕ
  x_end = put_all cell (filter q y_mid) x_mid

  abbrev pub y_end : List ℕ
  y_end = filter (not_at q) y_mid

  passes : (p : ℕ → Bool) (o : Option ℕ) (k : ℕ) → filtered p o ≡ Some k → (o ≡ Some k) × (p k ≡ true)
  passes p None k e = absurd (cc)
  passes p (Some j) k e = elim (cases_Bool (p j)) as (λ _. (◌≡◌ {A = Option ℕ} (Some j) (Some k)) × (p k ≡ true)) [
    | inl t ↦ (let same : ◌≡◌ {A = Option ℕ} (Some j) (Some k) = sym (cond-true (p j) (Some j) None t) ∙ e in let s : j ≡ k = cc in (same, ap p (sym s) ∙ t))
    | inr n ↦ absurd (let bad : ◌≡◌ {A = Option ℕ} None (Some k) = sym (cond-false (p j) (Some j) None n) ∙ e in cc)
  ]

  key-y_mid : (x : ℕ) → key_at cell y_mid x ≡ or_else (filtered p (key_at cell xs x)) (key_at cell ys x)
  key-y_mid x = key_at-put_all cell count (filter p xs) ys x (falling-filter cell p count xs w.x_falls) ∙ ap (λ o. or_else o (key_at cell ys x)) (key_at-filter cell p count xs x w.x_falls)

  pub y_mid-falls : IsFalling cell count y_mid
  y_mid-falls = falling-put_all cell count (filter p xs) ys (falling-filter cell p count xs w.x_falls) w.y_falls (λ x k e.
      let s = passes p (key_at cell xs x) k (sym (key_at-filter cell p count xs x w.x_falls) ∙ e) in
      let at = key_at-is cell xs x k s.0 in
      w.x_free x (sym (ap cx at.0) ∙ sym (w.x_marks k at.1) ∙ s.1))

  at-x : (x k : ℕ) → key_at cell xs x ≡ Some k → p k ≡ cx x
  at-x x k e = (let at = key_at-is cell xs x k e in w.x_marks k at.1 ∙ ap cx at.0)

  at-y : (x k : ℕ) → key_at cell ys x ≡ Some k → p k ≡ cy x
  at-y x k e = (let at = key_at-is cell ys x k e in w.y_marks k at.1 ∙ ap cy at.0)

  later-x : (x k : ℕ) → key_at cell xs x ≡ Some k → q k ≡ false
  later-x x k e = (let at = key_at-is cell xs x k e in w.x_later k at.1)

  later-y : (x k : ℕ) → key_at cell ys x ≡ Some k → q k ≡ cy x
  later-y x k e = (let at = key_at-is cell ys x k e in w.y_later k at.1 ∙ ap cy at.0)

  both : (x : ℕ) → (or_else (filtered q (or_else (filtered p (key_at cell xs x)) (key_at cell ys x))) (filtered (not_at p) (key_at cell xs x)) ≡ cond (cy x) (key_at cell ys x) (cond (cx x) None (key_at cell xs x)))
      × (filtered (not_at q) (or_else (filtered p (key_at cell xs x)) (key_at cell ys x)) ≡ cond (cx x) (key_at cell xs x) (cond (cy x) None (key_at cell ys x)))
  both x = table p q (key_at cell xs x) (key_at cell ys x) (cx x) (cy x) (at-x x) (at-y x) (later-x x) (later-y x) (w.x_free x) (w.y_free x) (w.x_there x) (w.y_there x)

  key-from_y : (x : ℕ) → key_at cell (filter q y_mid) x ≡ filtered q (or_else (filtered p (key_at cell xs x)) (key_at cell ys x))
  key-from_y x = key_at-filter cell q count y_mid x y_mid-falls ∙ ap (filtered q) (key-y_mid x)

  pub key-x_end : (x : ℕ) → key_at cell x_end x ≡ cond (cy x) (key_at cell ys x) (cond (cx x) None (key_at cell xs x))
  key-x_end x =
      key_at-put_all cell count (filter q y_mid) x_mid x (falling-filter cell q count y_mid y_mid-falls)
      ∙ ap (λ o. or_else o (key_at cell x_mid x)) (key-from_y x) ∙ ap (or_else (filtered q (or_else (filtered p (key_at cell xs x)) (key_at cell ys x)))) (key_at-filter cell (not_at p) count xs x w.x_falls)
      ∙ (both x).0

  pub key-y_end : (x : ℕ) → key_at cell y_end x ≡ cond (cx x) (key_at cell xs x) (cond (cy x) None (key_at cell ys x))
  key-y_end x = key_at-filter cell (not_at q) count y_mid x y_mid-falls ∙ ap (filtered (not_at q)) (key-y_mid x) ∙ (both x).1

  pub y_end-falls : IsFalling cell count y_end
  y_end-falls = falling-filter cell (not_at q) count y_mid y_mid-falls

  from_which : (p q : ℕ → Bool) (a b : Option ℕ) (k : ℕ) → ((j : ℕ) → a ≡ Some j → q j ≡ false) → filtered q (or_else (filtered p a) b) ≡ Some k → (b ≡ Some k) × (q k ≡ true)
  from_which p q None b k h e = passes q b k e
  from_which p q (Some j) b k h e = elim (cases_Bool (p j)) as (λ _. (b ≡ Some k) × (q k ≡ true)) [
    | inl t ↦ absurd (let bad : ◌≡◌ {A = Option ℕ} None (Some k) = sym (ap (λ o. filtered q (or_else o b)) (cond-true (p j) (Some j) None t) ∙ cond-false (q j) (Some j) None (h j refl)) ∙ e in cc)
    | inr n ↦ passes q b k (sym (ap (λ o. filtered q (or_else o b)) (cond-false (p j) (Some j) None n)) ∙ e)
  ]

  pub x_end-falls : IsFalling cell count x_end
  x_end-falls = falling-put_all cell count (filter q y_mid) x_mid (falling-filter cell q count y_mid y_mid-falls) (falling-filter cell (not_at p) count xs w.x_falls) (λ x k e.
      let s = from_which p q (key_at cell xs x) (key_at cell ys x) k (later-x x) (sym (key-from_y x) ∙ e) in
      let none : key_at cell xs x ≡ None = w.y_free x (sym (later-y x k s.0) ∙ s.1) in
      key_at-filter cell (not_at p) count xs x w.x_falls ∙ ap (filtered (not_at p)) none)
