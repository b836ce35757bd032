-- What closing some cells does.
use Rattle.std.proofs.Common.{◌≡◌, ℕ, ◌+◌, ◌-◌, ◌<◌, ◌≤◌, Bool, true, false, List, [], ◌∷◌, ◌++◌, refl, sym, ap, ◌∙◌, inl, inr, arith, nat_le, min, max, ◌||◌}
use Rattle.std.proofs.lemmas.Bool.{cases_lt, or_from, or_right}
use Rattle.std.proofs.lemmas.Bool.Decides.{nat_tests}
use Rattle.street_gap.specs.declared.closures.Stretch.{Stretch}
use Rattle.street_gap.specs.Prelude.{is_between, is_in, RisesFrom}
use Rattle.street_gap.specs.Inside.{Each}
use Rattle.street_gap.proofs.StretchLemmas.{final, end_of, Each-map, is_in-append, is_in-above, is_in-below, between-yes, RisesFrom-split, RisesFrom-join, RisesFrom-to, end_of-within, end_of-final, is_in-front, is_in-back}

or-last : (p q r t : Bool) → (p || ((q || t) || r)) ≡ ((p || (q || r)) || t)
or-last true q r t = refl
or-last false true r t = refl
or-last false false true true = refl
or-last false false true false = refl
or-last false false false true = refl
or-last false false false false = refl

-- a stretch of its own
module _ (a b : List Stretch) (first last : ℕ) (le : first ≤ last) (r : RisesFrom 0 (a ++ b)) (below : Each (λ t. t.last < first - 1) a) (above : Each (λ t. last < t.first - 1) b) where
  pub apart-rises : RisesFrom 0 (a ++ record { first = first; last = last } ∷ b)
  apart-rises =
      let q = RisesFrom-split 0 a b r in
      RisesFrom-join 0 a (record { first = first; last = last } ∷ b) q.0
      (end_of-within 0 first a (omega arith) (Each-map (λ t. t.last < first - 1) (λ t. t.last + 2 ≤ first) (λ t h. omega arith) a below), le, RisesFrom-to (end_of 0 a) (last + 2) b q.1 (Each-map (λ t. last < t.first - 1) (λ t. last + 2 ≤ t.first) (λ t h. omega arith) b above))

  pub apart-in : (x : ℕ) → is_in (a ++ record { first = first; last = last } ∷ b) x ≡ (is_in (a ++ b) x || is_between first last x)
  apart-in x =
      is_in-append a (record { first = first; last = last } ∷ b) x
      ∙ or-last (is_in a x) false (is_in b x) (is_between first last x)
      ∙ ap (λ p. p || is_between first last x) (sym (is_in-append a b x))

  -- no cell beside it is closed
  pub apart-open : (x : ℕ) → first ≤ x + 1 → x ≤ last + 1 → is_in (a ++ b) x ≡ false
  apart-open x g h =
      is_in-append a b x ∙ or_from (is_in a x) (is_in b x)
      (is_in-above a x (Each-map (λ t. t.last < first - 1) (λ t. t.last < x) (λ t e. omega arith) a below))
      (is_in-below b x (Each-map (λ t. last < t.first - 1) (λ t. x < t.first) (λ t e. omega arith) b above))

-- stretches joined
module _ (a b ts : List Stretch) (s : Stretch) (first last : ℕ) (le : first ≤ last) (r : RisesFrom 0 (a ++ ((s ∷ ts) ++ b))) (below : Each (λ t. t.last < first - 1) a) (lower : Each (λ t. first - 1 ≤ t.last) (s ∷ ts)) (upper : Each (λ t. t.first - 1 ≤ last) (s ∷ ts)) (above : Each (λ t. last < t.first - 1) b) where
  abbrev pub joined : Stretch
  joined = record { first = min first s.first; last = max last (final s ts).last }

  outer : RisesFrom 0 a × RisesFrom (end_of 0 a) ((s ∷ ts) ++ b)
  outer = RisesFrom-split 0 a ((s ∷ ts) ++ b) r

  inner : RisesFrom (end_of 0 a) (s ∷ ts) × RisesFrom (end_of (end_of 0 a) (s ∷ ts)) b
  inner = RisesFrom-split (end_of 0 a) (s ∷ ts) b outer.1

  after : (c : List Stretch) → RisesFrom (end_of (end_of 0 a) (s ∷ ts)) c → Each (λ t. last < t.first - 1) c → RisesFrom (max last (final s ts).last + 2) c
  after [] q e = tt
  after (t ∷ c) q e = let h = q.0 in let g = e.0 in let k = end_of-final (end_of 0 a) s ts in (omega arith, q.1, q.2)

  pub joined-rises : RisesFrom 0 (a ++ joined ∷ b)
  joined-rises =
      let h = inner.0.0 in
      let g = end_of-within 0 first a (omega arith) (Each-map (λ t. t.last < first - 1) (λ t. t.last + 2 ≤ first) (λ t h. omega arith) a below) in
      RisesFrom-join 0 a (joined ∷ b) outer.0 (omega arith, omega arith, after b inner.1 above)

  hull : (x : ℕ) → is_between joined.first joined.last x ≡ (is_in (s ∷ ts) x || is_between first last x)
  hull x = elim (cases_lt x first) as (λ _. is_between joined.first joined.last x ≡ (is_in (s ∷ ts) x || is_between first last x)) [
    | inl low ↦ (
        let m = is_in-front (end_of 0 a) s ts x inner.0 (let h = lower.0 in omega arith) in
        let e : is_between joined.first joined.last x ≡ (nat_le s.first x || is_between first last x) = grind (arith, nat_tests) in
        e ∙ ap (λ p. p || is_between first last x) (sym m))
    | inr from ↦ elim (cases_lt last x) as (λ _. is_between joined.first joined.last x ≡ (is_in (s ∷ ts) x || is_between first last x)) [
      | inl high ↦ (
          let m = is_in-back (end_of 0 a) s ts x inner.0 (Each-map (λ t. t.first - 1 ≤ last) (λ t. t.first ≤ x) (λ t h. omega arith) (s ∷ ts) upper) in
          let e : is_between joined.first joined.last x ≡ (nat_le x (final s ts).last || is_between first last x) = grind (arith, nat_tests) in
          e ∙ ap (λ p. p || is_between first last x) (sym m))
      | inr to ↦ between-yes joined.first joined.last x (omega arith) (omega arith) ∙ sym (or_right (is_in (s ∷ ts) x) (is_between first last x) (between-yes first last x from to))
    ]
  ]

  pub joined-in : (x : ℕ) → is_in (a ++ joined ∷ b) x ≡ (is_in (a ++ ((s ∷ ts) ++ b)) x || is_between first last x)
  joined-in x =
      is_in-append a (joined ∷ b) x
      ∙ ap (λ p. is_in a x || (p || is_in b x)) (hull x)
      ∙ or-last (is_in a x) (is_in (s ∷ ts) x) (is_in b x) (is_between first last x)
      ∙ ap (λ p. p || is_between first last x) (sym (is_in-append a ((s ∷ ts) ++ b) x ∙ ap (λ p. is_in a x || p) (is_in-append (s ∷ ts) b x)))
