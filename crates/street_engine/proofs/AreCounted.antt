-- One more has ended: the counts that are kept.
use Rattle.std.proofs.Common.{◌≡◌, ℕ, ◌+◌, Bool, false, List, set, get_or, refl, subst, ap, ◌∙◌, arith, Option, Some, None, slice_get, count_by}
use Rattle.std.proofs.lemmas.List.{length-set}
use Rattle.std.proofs.lemmas.List.Sums.{sum_by-set}
use Rattle.std.proofs.lemmas.Option.{slice_get_within, get_or_from_slice_get}
use Rattle.street_base.specs.declared.reply.End.{End}
use Rattle.street_base.specs.declared.reply.End.TheVariants.{Arrived, Taken}
use Rattle.street_base.specs.Prelude.{one_if, has_arrived, was_taken}
use Rattle.street_engine.specs.Prelude.{AreCounted}

module _ (ends : List (Option End)) (arrived taken n : ℕ) (counted : AreCounted ends arrived taken) (going : slice_get ends n ≡ Some None) where
  -- among those who have not ended it was not counted
  counts : (f : Option End → Bool) (e : Option End) → f None ≡ false → count_by f (set ends n e) ≡ count_by f ends + one_if (f e)
  counts f e none =
      let sum : count_by f (set ends n e) + one_if (f (get_or ends n None)) ≡ count_by f ends + one_if (f e) = sum_by-set (λ (o : Option End). one_if (f o)) ends n e None (slice_get_within ends n None going) in
      let was : one_if (f (get_or ends n None)) ≡ 0 = ap (λ (o : Option End). one_if (f o)) (get_or_from_slice_get ends n None None going) ∙ ap one_if none in
      omega (arith, sum, was)

  more : (e : Option End) → AreCounted (set ends n e) (arrived + one_if (has_arrived e)) (taken + one_if (was_taken e))
  more e =
      let long = length-set ends n e in
      let few = counted.few in
      let a = counted.arrived_is in
      let t = counted.taken_is in
      record { few = omega (arith, long, few); arrived_is = omega (arith, a, counts has_arrived e refl); taken_is = omega (arith, t, counts was_taken e refl) }

  pub one-arrived : (step : ℕ) → AreCounted (set ends n (Some (Arrived step))) (arrived + 1) taken
  one-arrived step = let e : taken + 0 ≡ taken = omega arith in subst (AreCounted (set ends n (Some (Arrived step))) (arrived + 1)) e (more (Some (Arrived step)))

  pub one-taken : (step : ℕ) → AreCounted (set ends n (Some (Taken step))) arrived (taken + 1)
  one-taken step = let e : arrived + 0 ≡ arrived = omega arith in subst (λ k. AreCounted (set ends n (Some (Taken step))) k (taken + 1)) e (more (Some (Taken step)))
