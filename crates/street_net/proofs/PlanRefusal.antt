-- Plans, entry by entry.
use Rattle.std.proofs.Common.{◌≡◌, ℕ, ◌<◌, ◌≤◌, ◌+◌, ◌++◌, true, false, List, [], ◌∷◌, length, get_or, take, sym, ◌∙◌, ap, arith, refl, inl, inr, ◌≢◌, Option, Some, None, filter_map}
use Rattle.std.specs.List.{cons_option}
use Rattle.street_base.specs.declared.net.NetSpec.{NetSpec}
use Rattle.street_base.specs.Prelude.{most_plan, link_of, plan_links, is_bad_entry, first_bad, plan_fault}
use Rattle.std.specs.Option.{option_map_or}
use Rattle.std.proofs.lemmas.Bool.{true≢false, cond-true, cond-false, ne_eqb, le-leb, cases_lt, not-false}
use Rattle.std.proofs.lemmas.List.{take_more, take_all}
use Rattle.std.proofs.lemmas.List.Elements.{filter_map-append}
use Rattle.street_base.proofs.FirstBadLemmas.{first_bad-none as faultless-each}
use Rattle.street_net.specs.declared.faults.PlanFault.{PlanFault}
use Rattle.street_net.specs.declared.faults.PlanFault.TheVariants.{Bad, Lane}
use Rattle.street_net.specs.Prelude.{entry_lanes, lane_refusal, plan_refusal}
use Rattle.street_net.proofs.FirstBad.{NoneBad, first_bad-here, first_bad-none}

module _ (net : NetSpec) (plan : List ℕ) (some : 0 < length plan) where
  by-entries : plan_fault net plan ≡ first_bad (is_bad_entry net plan) plan
  by-entries =
      let not_empty : length plan ≢ 0 = omega arith in
      cond-false _ _ _ (ne_eqb (length plan) 0 not_empty)

  -- no entry is bad
  pub whole-none : NoneBad (is_bad_entry net plan) plan (length plan) → plan_fault net plan ≡ None
  whole-none none = by-entries ∙ first_bad-none (is_bad_entry net plan) plan none

  -- the entry at this position is the first that is bad
  pub whole-at : (at : ℕ) → at < length plan → NoneBad (is_bad_entry net plan) plan at → is_bad_entry net plan at (get_or plan at 0) ≡ true → plan_fault net plan ≡ Some at
  whole-at at within none bad = by-entries ∙ first_bad-here (is_bad_entry net plan) plan at 0 within none bad

-- a plan without a bad entry has a link
pub some-link : (net : NetSpec) (plan : List ℕ) → plan_fault net plan ≡ None → 0 < length (plan_links net plan)
some-link net [] faultless = cc
some-link net (id ∷ more) faultless = by_link (link_of net id) (not-false _ (faultless-each (is_bad_entry net (id ∷ more)) (id ∷ more) (sym (by-entries net (id ∷ more) (omega arith)) ∙ faultless) 0 0 (omega arith)))
  where
    by_link : (o : Option ℕ) → option_map_or (λ _. true) o false ≡ true → 0 < length (cons_option o (plan_links net more))
    by_link None e = cc
    by_link (Some link) e = omega arith

-- and at most as many links as a plan may have
kept-one : {A B : Type 0} (f : A → Option B) (x : A) (xs : List A) (o : Option B) → f x ≡ o → length (filter_map f xs) ≤ length xs → length (filter_map f (x ∷ xs)) ≤ length (x ∷ xs)
kept-one f x xs None e rest = rw e (omega (arith, rest))
kept-one f x xs (Some y) e rest = rw e (omega (arith, rest))

kept-few : {A B : Type 0} (f : A → Option B) (xs : List A) → length (filter_map f xs) ≤ length xs
kept-few f [] = omega arith
kept-few f (x ∷ xs) = kept-one f x xs (f x) refl (kept-few f xs)

pub short-plan : (net : NetSpec) (plan : List ℕ) → plan_fault net plan ≡ None → length (plan_links net plan) ≤ most_plan
short-plan net plan good = elim (cases_lt most_plan (length plan)) [
  | inl more ↦ absurd (
      let some : 0 < length plan = omega (arith, more) in
      let fine : true ≡ false = faultless-each (is_bad_entry net plan) plan (sym (by-entries net plan some) ∙ good) most_plan 0 more in
      true≢false fine)
  | inr few ↦ omega (arith, few, kept-few (link_of net) plan)
]

-- a plan that is not refused has no bad entry
pub not-refused : (fault : Option ℕ) (rest : Option PlanFault) → option_map_or (λ at. Some (Bad at)) fault rest ≡ None → fault ≡ None
not-refused None rest e = refl
not-refused (Some at) rest e = cc

-- and its first link has the lane
pub taken : (net : NetSpec) (plan : List ℕ) (lane : ℕ) → plan_refusal net plan lane ≡ None → (plan_fault net plan ≡ None) × (lane < entry_lanes net plan lane)
taken net plan lane none =
    let faultless = not-refused (plan_fault net plan) (lane_refusal net plan lane) none in
    let no_reason : lane_refusal net plan lane ≡ None = rw faultless at none in (
      faultless,
      elim (cases_lt lane (entry_lanes net plan lane)) as (λ _. lane < entry_lanes net plan lane) [
        | inl low ↦ low
        | inr high ↦ (let some : lane_refusal net plan lane ≡ Some Lane = cond-true _ _ _ (le-leb _ _ high) in let never : ◌≡◌ {A = Option PlanFault} None (Some Lane) = sym no_reason ∙ some in cc)
      ],
    )

-- the links of one more entry
pub links-more : (net : NetSpec) (plan : List ℕ) (i : ℕ) (link : Option ℕ) → i < length plan → link_of net (get_or plan i 0) ≡ link
    → plan_links net (take (i + 1) plan) ≡ plan_links net (take i plan) ++ cons_option link []
links-more net plan i link within is =
    ap (plan_links net) (take_more plan i 0 within)
    ∙ filter_map-append (link_of net) (take i plan) (get_or plan i 0 ∷ [])
    ∙ ap (λ o. plan_links net (take i plan) ++ cons_option o []) is

pub all-taken : (net : NetSpec) (plan : List ℕ) (count : ℕ) → length plan ≤ count → plan_links net (take count plan) ≡ plan_links net plan
all-taken net plan count past = ap (plan_links net) (take_all count plan past)
