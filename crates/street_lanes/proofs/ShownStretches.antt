-- The closed stretches that a lane shows are those that are kept.
use Rattle.std.proofs.Common.{◌≡◌, ℕ, zero, suc, ◌+◌, ◌-◌, ◌<◌, ◌≤◌, Bool, true, false, List, [], ◌∷◌, length, map, Option, refl, sym, ap, subst, ◌∙◌, inl, inr, arith, not, ◌&&◌, ◌||◌, ◌==◌, unwrap_or, filter}
use Rattle.std.specs.List.{range_with_len}
use Rattle.std.proofs.lemmas.Bool.{cases_eq, cases_lt, cond-true, cond-false, or_left, or_right, or_from, eq-eqb, ne_eqb}
use Rattle.std.proofs.lemmas.Bool.Decides.{nat_tests}
use Rattle.street_base.specs.declared.reply.Stretch.{Stretch as StretchEntry}
use Rattle.street_base.specs.Prelude.{is_closed, is_entrance, stretch_from, stretches, least}
use Rattle.street_base.proofs.SearchLemmas.{least-past, least-here, least-skip}
use Rattle.street_gap.specs.declared.closures.Stretch.{Stretch}
use Rattle.street_gap.specs.Prelude.{is_between, is_in, RisesFrom, IsRising, IsWithin, closed_marks}
use Rattle.street_gap.proofs.StretchLemmas.{between-yes, between-above, is_in-before}
use Rattle.street_gap.proofs.Marks.{closed_marks-at, closed_marks-length}
use Rattle.street_lanes.specs.Prelude.{shown_stretch}

-- ---- where stretches begin

abbrev is_entry : List Stretch → ℕ → Bool
is_entry ss x = is_in ss x && (x == 0 || not (is_in ss (x - 1)))

-- one of them begins at the cell
abbrev begins : List Stretch → ℕ → Bool
begins [] x = false
begins (s ∷ ss) x = (s.first == x) || begins ss x

begins-before : (low : ℕ) (ss : List Stretch) (x : ℕ) → RisesFrom low ss → x < low → begins ss x ≡ false
begins-before low [] x r h = refl
begins-before low (s ∷ ss) x r h = (let e = r.0 in let g = r.1 in or_from (s.first == x) (begins ss x) (ne_eqb s.first x (λ f. absurd (omega arith))) (begins-before (s.last + 2) ss x r.2 (omega arith)))

one-entry : (first last x : ℕ) → first ≤ last → (is_between first last x && (x == 0 || not (is_between first last (x - 1)))) ≡ (first == x)
one-entry first last x h = grind (arith, nat_tests)

or-none : (p q : Bool) → q ≡ false → (p || q) ≡ p
or-none true q f = refl
or-none false q f = f

or-first : (p q : Bool) → p ≡ false → (p || q) ≡ q
or-first p q f = ap (λ b. b || q) f

entry-begins : (low : ℕ) (ss : List Stretch) (x : ℕ) → RisesFrom low ss → is_entry ss x ≡ begins ss x
entry-begins low [] x r = refl
entry-begins low (s ∷ ss) x r = elim (cases_lt x (s.last + 2)) as (λ _. is_entry (s ∷ ss) x ≡ begins (s ∷ ss) x) [
  | inl near ↦ (
      let here = or-none (is_between s.first s.last x) (is_in ss x) (is_in-before (s.last + 2) ss x r.2 near) in
      let lower = or-none (is_between s.first s.last (x - 1)) (is_in ss (x - 1)) (is_in-before (s.last + 2) ss (x - 1) r.2 (omega arith)) in
      (λ i. here i && (x == 0 || not (lower i)))
      ∙ one-entry s.first s.last x r.1
      ∙ sym (or-none (s.first == x) (begins ss x) (begins-before (s.last + 2) ss x r.2 near)))
  | inr far ↦ (
      let g = r.1 in
      let here = or-first (is_between s.first s.last x) (is_in ss x) (between-above s.first s.last x (omega arith)) in
      let lower = or-first (is_between s.first s.last (x - 1)) (is_in ss (x - 1)) (between-above s.first s.last (x - 1) (omega arith)) in
      (λ i. here i && (x == 0 || not (lower i)))
      ∙ entry-begins (s.last + 2) ss x r.2
      ∙ sym (or-first (s.first == x) (begins ss x) (ne_eqb s.first x (λ f. absurd (omega arith)))))
]

-- all begin below the bound
abbrev BeginBelow : ℕ → List Stretch → Type 0
BeginBelow bound [] = Unit {0}
BeginBelow bound (s ∷ ss) = (s.first < bound) × BeginBelow bound ss

rises-on : (low : ℕ) (s : Stretch) (ss : List Stretch) → RisesFrom low (s ∷ ss) → low < s.first → RisesFrom (low + 1) (s ∷ ss)
rises-on low s ss r h = (omega arith, r.1, r.2)

rises-lower : (low to : ℕ) (ss : List Stretch) → to ≤ low → RisesFrom low ss → RisesFrom to ss
rises-lower low to [] h r = tt
rises-lower low to (s ∷ ss) h r = ((let e = r.0 in let g : to ≤ s.first = omega arith in g), r.1, r.2)

none-left : (low : ℕ) (ss : List Stretch) → RisesFrom low ss → BeginBelow low ss → ss ≡ []
none-left low [] r b = refl
none-left low (s ∷ ss) r b = absurd (let e = r.0 in let h = b.0 in omega arith)

-- the cells where they begin, of a range that has all of them
firsts : (test : ℕ → Bool) (low count high : ℕ) (ss : List Stretch) → low + count ≡ high → RisesFrom low ss → BeginBelow high ss → ((x : ℕ) → low ≤ x → test x ≡ begins ss x) → filter test (range_with_len low count) ≡ map (λ s. s.first) ss
firsts test low zero high ss e r b is = sym (ap (map (λ s. s.first)) (none-left low ss r (subst (λ k. BeginBelow k ss) (omega (arith, e)) b)))
firsts test low (suc count) high [] to r b is =
    cond-false (test low) (low ∷ filter test (range_with_len (low + 1) count)) (filter test (range_with_len (low + 1) count)) (is low (omega arith))
    ∙ firsts test (low + 1) count high [] (omega (arith, to)) tt tt (λ x h. is x (omega arith))
firsts test low (suc count) high (s ∷ ss) to r b is = elim (cases_eq s.first low) as (λ _. filter test (range_with_len low (suc count)) ≡ map (λ s. s.first) (s ∷ ss)) [
  | inl e ↦ (
      let g = r.1 in
      let more = firsts test (low + 1) count high ss (omega (arith, to)) (rises-lower (s.last + 2) (low + 1) ss (omega arith) r.2) b.1 (λ x h. is x (omega arith) ∙ or-first (s.first == x) (begins ss x) (ne_eqb s.first x (λ f. absurd (omega arith)))) in
      cond-true (test low) (low ∷ filter test (range_with_len (low + 1) count)) (filter test (range_with_len (low + 1) count)) (is low (omega arith) ∙ or_left (s.first == low) (begins ss low) (eq-eqb s.first low e))
      ∙ (λ i. sym e i ∷ more i))
  | inr ne ↦ (
      let g = r.0 in
      let higher : low < s.first = omega arith in
      let on = rises-on low s ss r higher in
      cond-false (test low) (low ∷ filter test (range_with_len (low + 1) count)) (filter test (range_with_len (low + 1) count)) (is low (omega arith) ∙ begins-before (low + 1) (s ∷ ss) low on (omega arith))
      ∙ firsts test (low + 1) count high (s ∷ ss) (omega (arith, to)) on b (λ x h. is x (omega arith)))
]

-- ---- how long they are

-- a search goes past a run of cells at which the test fails
least-run : (test : ℕ → Bool) (low count to high : ℕ) → low + count ≡ to → to ≤ high → ((x : ℕ) → low ≤ x → x < to → test x ≡ false) → least test low high ≡ least test to high
least-run test low zero to high e h fails = (let same : low ≡ to = omega (arith, e) in ap (λ k. least test k high) same)
least-run test low (suc count) to high e h fails = least-skip test low high (omega arith) (fails low (omega arith) (omega arith)) ∙ least-run test (low + 1) count to high (omega (arith, e)) h (λ x a b. fails x (omega arith) b)

module _ (marks : List Bool) (first last : ℕ) (rising : first ≤ last) (on : (x : ℕ) → first ≤ x → x ≤ last → is_closed marks x ≡ true) (off : is_closed marks (last + 1) ≡ false) (inside : last < length marks) where
  run : least (λ x. not (is_closed marks x)) first (length marks) ≡ least (λ x. not (is_closed marks x)) (last + 1) (length marks)
  run =
      let to : first + (last + 1 - first) ≡ last + 1 = omega arith in
      least-run (λ x. not (is_closed marks x)) first (last + 1 - first) (last + 1) (length marks) to (omega (arith, inside)) (λ x a b. ap not (on x a (omega arith)))

  last-is : unwrap_or (least (λ x. not (is_closed marks x)) first (length marks)) (length marks) - 1 ≡ last
  last-is = elim (cases_lt (last + 1) (length marks)) as (λ _. unwrap_or (least (λ x. not (is_closed marks x)) first (length marks)) (length marks) - 1 ≡ last) [
    | inl more ↦ ap (λ (o : Option ℕ). unwrap_or o (length marks) - 1) (run ∙ least-here (λ x. not (is_closed marks x)) (last + 1) (length marks) more (ap not off)) ∙ (let e : last + 1 - 1 ≡ last = omega arith in e)
    | inr all ↦ ap (λ (o : Option ℕ). unwrap_or o (length marks) - 1) (run ∙ least-past (λ x. not (is_closed marks x)) (last + 1) (length marks) all) ∙ omega (arith, all, inside)
  ]

  from-is : stretch_from marks first ≡ record { first = first; last = last }
  from-is = (let make : ℕ → StretchEntry = λ b. record { first = first; last = b } in ap make last-is)

module _ (marks : List Bool) where
  each-is : (low : ℕ) (ss : List Stretch) → RisesFrom low ss → ((x : ℕ) → low ≤ x → is_closed marks x ≡ is_in ss x) → IsWithin ss (length marks) → map (stretch_from marks) (map (λ s. s.first) ss) ≡ map shown_stretch ss
  each-is low [] r is within = refl
  each-is low (s ∷ ss) r is within =
      let a = r.0 in
      let b = r.1 in
      let on : (x : ℕ) → s.first ≤ x → x ≤ s.last → is_in (s ∷ ss) x ≡ true = λ x h g. or_left (is_between s.first s.last x) (is_in ss x) (between-yes s.first s.last x h g) in
      let off : is_in (s ∷ ss) (s.last + 1) ≡ false = or_from (is_between s.first s.last (s.last + 1)) (is_in ss (s.last + 1)) (between-above s.first s.last (s.last + 1) (omega arith)) (is_in-before (s.last + 2) ss (s.last + 1) r.2 (omega arith)) in
      let here = from-is marks s.first s.last r.1 (λ x h g. is x (omega arith) ∙ on x h g) (is (s.last + 1) (omega arith) ∙ off) (within s.last (on s.last b (omega arith))) in
      let more = each-is (s.last + 2) ss r.2 (λ x h. is x (omega arith) ∙ or-first (is_between s.first s.last x) (is_in ss x) (between-above s.first s.last x (omega arith))) (λ x t. within x (or_right (is_between s.first s.last x) (is_in ss x) t)) in
      λ i. here i ∷ more i

begin-below : (low : ℕ) (ss : List Stretch) (count : ℕ) → RisesFrom low ss → IsWithin ss count → BeginBelow count ss
begin-below low [] count r within = tt
begin-below low (s ∷ ss) count r within = (
  within s.first (or_left (is_between s.first s.last s.first) (is_in ss s.first) (between-yes s.first s.last s.first (omega arith) r.1)),
  begin-below (s.last + 2) ss count r.2 (λ x t. within x (or_right (is_between s.first s.last x) (is_in ss x) t)),
)

-- the closed stretches of a lane are its closures'
pub stretches-are : (ss : List Stretch) (count : ℕ) → IsRising ss → IsWithin ss count → map shown_stretch ss ≡ stretches (closed_marks ss count)
unfolding stretches
stretches-are ss count rising within =
    let long = closed_marks-length ss count in
    let marks : (x : ℕ) → is_closed (closed_marks ss count) x ≡ is_in ss x = λ x. closed_marks-at ss count x within in
    let entrance : (x : ℕ) → is_entrance (closed_marks ss count) x ≡ begins ss x = λ x. (λ i. marks x i && (x == 0 || not (marks (x - 1) i))) ∙ entry-begins 0 ss x rising in
    let at = firsts (is_entrance (closed_marks ss count)) 0 (length (closed_marks ss count)) (length (closed_marks ss count)) ss (omega arith) rising (subst (λ k. BeginBelow k ss) (sym long) (begin-below 0 ss count rising within)) (λ x h. entrance x) in
    sym (ap (map (stretch_from (closed_marks ss count))) at ∙ each-is (closed_marks ss count) 0 ss rising (λ x h. marks x) (subst (IsWithin ss) (sym long) within))
