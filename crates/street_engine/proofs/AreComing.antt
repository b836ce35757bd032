-- Who is about to arrive was given a number, and has not ended.
use Rattle.std.proofs.Common.{◌≡◌, ℕ, suc, ◌+◌, ◌<◌, ◌≤◌, List, [], ◌∷◌, ◌++◌, length, set, get_or, refl, sym, ◌∙◌, ap, arith, inl, inr, Option, Some, None, nat_lt, slice_get, ◌==◌, if◌then◌else◌, count_by}
use Rattle.std.proofs.lemmas.Bool.{cases_eq, cases_lt, eq-eqb, cond-true, lt-leb}
use Rattle.std.proofs.lemmas.List.{length-set}
use Rattle.std.proofs.lemmas.List.Sums.{sum_by_push}
use Rattle.std.proofs.lemmas.Option.{slice_get-get_or}
use Rattle.street_base.specs.declared.reply.End.{End}
use Rattle.street_base.specs.Prelude.{has_ended, one_if}
use Rattle.street_engine.specs.Prelude.{AreComing}
use Rattle.street_base.proofs.CommandLemmas.{ended-same, ended-other}
use Rattle.street_base.proofs.PlaceOnceLemmas.{one_if-le}

-- how often a number stands in a list
abbrev pub often : ℕ → List ℕ → ℕ
often n numbers = count_by (λ k. k == n) numbers

pub often-push : (n number : ℕ) (rest : List ℕ) → often n (rest ++ number ∷ []) ≡ often n rest + one_if (number == n)
often-push n number rest = sum_by_push (λ (k : ℕ). if k == n then 1 else 0) rest number

-- a number that was given and has not ended
pub going : (n : ℕ) (ends : List (Option End)) → 1 + has_ended n ends ≤ one_if (nat_lt n (length ends)) → slice_get ends n ≡ Some None
going n ends h = elim (cases_lt n (length ends)) as (λ _. slice_get ends n ≡ Some None) [
  | inl there ↦ by_end (get_or ends n None) (slice_get-get_or ends n None there)
  | inr past ↦ absurd (let none : one_if (nat_lt n (length ends)) ≡ 0 = ap one_if (lt-leb (suc n) (length ends) (omega arith)) in omega arith)
]
  where
    by_end : (o : Option End) → slice_get ends n ≡ Some o → slice_get ends n ≡ Some None
    by_end None e = e
    by_end (Some end) e = absurd (let one : has_ended n ends ≡ 1 = rw e refl in let le = one_if-le (nat_lt n (length ends)) in omega arith)

module _ (number : ℕ) (rest : List ℕ) (ends : List (Option End)) (coming : AreComing (rest ++ number ∷ []) ends) where
  pub last-going : slice_get ends number ≡ Some None
  last-going =
      let push = often-push number number rest in
      let one : one_if (number == number) ≡ 1 = cond-true _ _ _ (eq-eqb number number refl) in
      let h = coming number in
      going number ends (omega (arith, push, one, h))

  last-within : number < length ends
  last-within = elim (cases_lt number (length ends)) as (λ _. number < length ends) [
    | inl there ↦ there
    | inr past ↦ absurd (
        let none : one_if (nat_lt number (length ends)) ≡ 0 = ap one_if (lt-leb (suc number) (length ends) (omega arith)) in
        let push = often-push number number rest in
        let one : one_if (number == number) ≡ 1 = cond-true _ _ _ (eq-eqb number number refl) in
        let h = coming number in
        omega (arith, none, push, one, h))
  ]

  -- it has ended, and the others are to come
  pub rest-coming : (end : End) → AreComing rest (set ends number (Some end))
  rest-coming end n =
      let long : one_if (nat_lt n (length (set ends number (Some end)))) ≡ one_if (nat_lt n (length ends)) = ap (λ (k : ℕ). one_if (nat_lt n k)) (length-set ends number (Some end)) in
      let push = often-push n number rest in
      let h = coming n in
      elim (cases_eq n number) as (λ _. often n rest + has_ended n (set ends number (Some end)) ≤ one_if (nat_lt n (length (set ends number (Some end))))) [
        | inl same ↦ (
            let one : one_if (number == n) ≡ 1 = cond-true _ _ _ (eq-eqb number n (sym same)) in
            let ended : has_ended n (set ends number (Some end)) ≡ 1 = ap (λ (k : ℕ). has_ended k (set ends number (Some end))) same ∙ ended-same end ends number last-within in
            omega (arith, long, push, h, one, ended))
        | inr other ↦ (
            let stays = ended-other (Some end) ends n number other in
            omega (arith, long, push, h, stays))
      ]
