-- What opening some cells does.
use Rattle.std.proofs.Common.{◌≡◌, ℕ, ◌+◌, ◌-◌, ◌<◌, ◌≤◌, Bool, true, false, List, [], ◌∷◌, ◌++◌, refl, sym, ap, subst, ◌∙◌, inl, inr, arith, nat_le, nat_lt, not, ◌&&◌, ◌||◌, if◌then◌else◌}
use Rattle.std.proofs.lemmas.Bool.{cases_lt, lt-ltb, le-ltb, cond-true, cond-false, or_from}
use Rattle.std.proofs.lemmas.Bool.Decides.{nat_tests}
use Rattle.street_gap.specs.declared.closures.Stretch.{Stretch}
use Rattle.street_gap.specs.Prelude.{is_between, is_in, RisesFrom}
use Rattle.street_gap.specs.Inside.{Each}
use Rattle.street_gap.proofs.StretchLemmas.{final, end_of, Each-map, is_in-append, is_in-above, is_in-below, between-yes, between-below, between-above, RisesFrom-split, RisesFrom-join, RisesFrom-to, RisesFrom-lower, end_of-within, end_of-final, is_in-front, is_in-back}

-- what is left of a stretch below the first cell, if anything
abbrev pub left_of : ℕ → Stretch → List Stretch
left_of first s = if nat_lt s.first first then record { first = s.first; last = first - 1 } ∷ [] else []

-- what is left of a stretch above the last cell, if anything
abbrev pub right_of : ℕ → Stretch → List Stretch
right_of last s = if nat_lt last s.last then record { first = last + 1; last = s.last } ∷ [] else []

and-not : (p q : Bool) → q ≡ false → (p && not q) ≡ p
and-not true q e = ap not e
and-not false q e = refl

and-off : (p q : Bool) → q ≡ true → (p && not q) ≡ false
and-off true q e = ap not e
and-off false q e = refl

-- nothing to open
module _ (a b : List Stretch) (first last : ℕ) (below : Each (λ t. t.last < first) a) (above : Each (λ t. last < t.first) b) where
  pub apart-kept : (x : ℕ) → is_in (a ++ b) x ≡ (is_in (a ++ b) x && not (is_between first last x))
  apart-kept x = elim (cases_lt x first) as (λ _. is_in (a ++ b) x ≡ (is_in (a ++ b) x && not (is_between first last x))) [
    | inl low ↦ sym (and-not (is_in (a ++ b) x) _ (between-below first last x low))
    | inr from ↦ elim (cases_lt last x) as (λ _. is_in (a ++ b) x ≡ (is_in (a ++ b) x && not (is_between first last x))) [
      | inl high ↦ sym (and-not (is_in (a ++ b) x) _ (between-above first last x high))
      | inr to ↦ (
          is_in-append a b x ∙ or_from (is_in a x) (is_in b x)
          (is_in-above a x (Each-map (λ t. t.last < first) (λ t. t.last < x) (λ t e. omega arith) a below))
          (is_in-below b x (Each-map (λ t. last < t.first) (λ t. x < t.first) (λ t e. omega arith) b above))
          ∙ sym (and-off (is_in (a ++ b) x) _ (between-yes first last x from to)))
    ]
  ]

abbrev left_piece : ℕ → Stretch → Stretch
left_piece first s = record { first = s.first; last = first - 1 }

abbrev right_piece : ℕ → Stretch → Stretch
right_piece last s = record { first = last + 1; last = s.last }

pub left_of-some : (first : ℕ) (s : Stretch) → s.first < first → left_of first s ≡ record { first = s.first; last = first - 1 } ∷ []
left_of-some first s h = cond-true (nat_lt s.first first) (left_piece first s ∷ []) [] (lt-ltb s.first first h)

pub left_of-none : (first : ℕ) (s : Stretch) → first ≤ s.first → left_of first s ≡ []
left_of-none first s h = cond-false (nat_lt s.first first) (left_piece first s ∷ []) [] (le-ltb s.first first h)

pub right_of-some : (last : ℕ) (s : Stretch) → last < s.last → right_of last s ≡ record { first = last + 1; last = s.last } ∷ []
right_of-some last s h = cond-true (nat_lt last s.last) (right_piece last s ∷ []) [] (lt-ltb last s.last h)

pub right_of-none : (last : ℕ) (s : Stretch) → s.last ≤ last → right_of last s ≡ []
right_of-none last s h = cond-false (nat_lt last s.last) (right_piece last s ∷ []) [] (le-ltb last s.last h)

left-in : (first : ℕ) (s : Stretch) (x : ℕ) → x < first → is_in (left_of first s) x ≡ nat_le s.first x
left-in first s x h = elim (cases_lt s.first first) as (λ _. is_in (left_of first s) x ≡ nat_le s.first x) [
  | inl some ↦ ap (λ l. is_in l x) (left_of-some first s some) ∙ (let e : (is_between s.first (first - 1) x || false) ≡ nat_le s.first x = grind (arith, nat_tests) in e)
  | inr off ↦ ap (λ l. is_in l x) (left_of-none first s off) ∙ (let e : false ≡ nat_le s.first x = grind (arith, nat_tests) in e)
]

left-out : (first : ℕ) (s : Stretch) (x : ℕ) → first ≤ x → is_in (left_of first s) x ≡ false
left-out first s x h = elim (cases_lt s.first first) as (λ _. is_in (left_of first s) x ≡ false) [
  | inl some ↦ ap (λ l. is_in l x) (left_of-some first s some) ∙ or_from _ _ (between-above s.first (first - 1) x (omega arith)) refl
  | inr off ↦ ap (λ l. is_in l x) (left_of-none first s off)
]

right-in : (last : ℕ) (s : Stretch) (x : ℕ) → last < x → is_in (right_of last s) x ≡ nat_le x s.last
right-in last s x h = elim (cases_lt last s.last) as (λ _. is_in (right_of last s) x ≡ nat_le x s.last) [
  | inl some ↦ ap (λ l. is_in l x) (right_of-some last s some) ∙ (let e : (is_between (last + 1) s.last x || false) ≡ nat_le x s.last = grind (arith, nat_tests) in e)
  | inr off ↦ ap (λ l. is_in l x) (right_of-none last s off) ∙ (let e : false ≡ nat_le x s.last = grind (arith, nat_tests) in e)
]

right-out : (last : ℕ) (s : Stretch) (x : ℕ) → x ≤ last → is_in (right_of last s) x ≡ false
right-out last s x h = elim (cases_lt last s.last) as (λ _. is_in (right_of last s) x ≡ false) [
  | inl some ↦ ap (λ l. is_in l x) (right_of-some last s some) ∙ or_from _ _ (between-below (last + 1) s.last x (omega arith)) refl
  | inr off ↦ ap (λ l. is_in l x) (right_of-none last s off)
]

-- stretches cut
module _ (a b ts : List Stretch) (s : Stretch) (first last : ℕ) (le : first ≤ last) (r : RisesFrom 0 (a ++ ((s ∷ ts) ++ b))) (below : Each (λ t. t.last < first) a) (lower : Each (λ t. first ≤ t.last) (s ∷ ts)) (upper : Each (λ t. t.first ≤ last) (s ∷ ts)) (above : Each (λ t. last < t.first) b) where
  outer : RisesFrom 0 a × RisesFrom (end_of 0 a) ((s ∷ ts) ++ b)
  outer = RisesFrom-split 0 a ((s ∷ ts) ++ b) r

  inner : RisesFrom (end_of 0 a) (s ∷ ts) × RisesFrom (end_of (end_of 0 a) (s ∷ ts)) b
  inner = RisesFrom-split (end_of 0 a) (s ∷ ts) b outer.1

  after-right : RisesFrom (first + 1) (right_of last (final s ts) ++ b)
  after-right = elim (cases_lt last (final s ts).last) as (λ _. RisesFrom (first + 1) (right_of last (final s ts) ++ b)) [
    | inl some ↦ subst (λ l. RisesFrom (first + 1) (l ++ b)) (sym (right_of-some last (final s ts) some)) (omega arith, omega arith, subst (λ e. RisesFrom e b) (end_of-final (end_of 0 a) s ts) inner.1)
    | inr off ↦ subst (λ l. RisesFrom (first + 1) (l ++ b)) (sym (right_of-none last (final s ts) off)) (RisesFrom-to (end_of (end_of 0 a) (s ∷ ts)) (first + 1) b inner.1 (Each-map (λ t. last < t.first) (λ t. first + 1 ≤ t.first) (λ t h. omega arith) b above))
  ]

  after-left : RisesFrom (end_of 0 a) (left_of first s ++ (right_of last (final s ts) ++ b))
  after-left = elim (cases_lt s.first first) as (λ _. RisesFrom (end_of 0 a) (left_of first s ++ (right_of last (final s ts) ++ b))) [
    | inl some ↦ (
        let h = inner.0.0 in
        subst (λ l. RisesFrom (end_of 0 a) (l ++ (right_of last (final s ts) ++ b))) (sym (left_of-some first s some))
        (h, omega arith, RisesFrom-lower (first - 1 + 2) (first + 1) (right_of last (final s ts) ++ b) (omega arith) after-right))
    | inr off ↦ (
        let g = end_of-within 0 (first + 1) a (omega arith) (Each-map (λ t. t.last < first) (λ t. t.last + 2 ≤ first + 1) (λ t h. omega arith) a below) in
        subst (λ l. RisesFrom (end_of 0 a) (l ++ (right_of last (final s ts) ++ b))) (sym (left_of-none first s off))
        (RisesFrom-lower (end_of 0 a) (first + 1) (right_of last (final s ts) ++ b) g after-right))
  ]

  pub opened-rises : RisesFrom 0 (a ++ (left_of first s ++ (right_of last (final s ts) ++ b)))
  opened-rises = RisesFrom-join 0 a (left_of first s ++ (right_of last (final s ts) ++ b)) outer.0 after-left

  parts : (x : ℕ) → is_in (a ++ ((s ∷ ts) ++ b)) x ≡ (is_in a x || (is_in (s ∷ ts) x || is_in b x))
  parts x = is_in-append a ((s ∷ ts) ++ b) x ∙ ap (λ p. is_in a x || p) (is_in-append (s ∷ ts) b x)

  pieces : (x : ℕ) → is_in (a ++ (left_of first s ++ (right_of last (final s ts) ++ b))) x ≡ (is_in a x || (is_in (left_of first s) x || (is_in (right_of last (final s ts)) x || is_in b x)))
  pieces x =
      is_in-append a (left_of first s ++ (right_of last (final s ts) ++ b)) x
      ∙ ap (λ p. is_in a x || p) (is_in-append (left_of first s) (right_of last (final s ts) ++ b) x
      ∙ ap (λ p. is_in (left_of first s) x || p) (is_in-append (right_of last (final s ts)) b x))

  pub opened-in : (x : ℕ) → is_in (a ++ (left_of first s ++ (right_of last (final s ts) ++ b))) x ≡ (is_in (a ++ ((s ∷ ts) ++ b)) x && not (is_between first last x))
  opened-in x = elim (cases_lt x first) as (λ _. is_in (a ++ (left_of first s ++ (right_of last (final s ts) ++ b))) x ≡ (is_in (a ++ ((s ∷ ts) ++ b)) x && not (is_between first last x))) [
    | inl low ↦ (
        let m = is_in-front (end_of 0 a) s ts x inner.0 (let h = lower.0 in omega arith) in
        pieces x
        ∙ ap (λ p. is_in a x || (p || (is_in (right_of last (final s ts)) x || is_in b x))) (left-in first s x low ∙ sym m)
        ∙ ap (λ p. is_in a x || (is_in (s ∷ ts) x || (p || is_in b x))) (right-out last (final s ts) x (omega arith))
        ∙ sym (parts x)
        ∙ sym (and-not (is_in (a ++ ((s ∷ ts) ++ b)) x) (is_between first last x) (between-below first last x low)))
    | inr from ↦ elim (cases_lt last x) as (λ _. is_in (a ++ (left_of first s ++ (right_of last (final s ts) ++ b))) x ≡ (is_in (a ++ ((s ∷ ts) ++ b)) x && not (is_between first last x))) [
      | inl high ↦ (
          let m = is_in-back (end_of 0 a) s ts x inner.0 (Each-map (λ t. t.first ≤ last) (λ t. t.first ≤ x) (λ t h. omega arith) (s ∷ ts) upper) in
          pieces x
          ∙ ap (λ p. is_in a x || (p || (is_in (right_of last (final s ts)) x || is_in b x))) (left-out first s x from)
          ∙ ap (λ p. is_in a x || (p || is_in b x)) (right-in last (final s ts) x high ∙ sym m)
          ∙ sym (parts x)
          ∙ sym (and-not (is_in (a ++ ((s ∷ ts) ++ b)) x) (is_between first last x) (between-above first last x high)))
      | inr to ↦ (
          pieces x
          ∙ or_from (is_in a x) _ (is_in-above a x (Each-map (λ t. t.last < first) (λ t. t.last < x) (λ t e. omega arith) a below))
          (or_from (is_in (left_of first s) x) _ (left-out first s x from)
          (or_from (is_in (right_of last (final s ts)) x) (is_in b x) (right-out last (final s ts) x to)
          (is_in-below b x (Each-map (λ t. last < t.first) (λ t. x < t.first) (λ t e. omega arith) b above))))
          ∙ sym (and-off (is_in (a ++ ((s ∷ ts) ++ b)) x) (is_between first last x) (between-yes first last x from to)))
    ]
  ]
