-- What the phase at a time shows.
use Rattle.std.proofs.Common.{◌≡◌, ℕ, zero, suc, ◌+◌, ◌-◌, ◌<◌, ◌≤◌, Bool, false, List, [], ◌∷◌, length, get_or, drop, refl, sym, ◌∙◌, ap, arith, add-one, inl, inr, nat_lt, slice_get, sum_by, ◌==◌, ◌&&◌, if◌then◌else◌, option_and_then}
use Rattle.std.specs.Option.{option_map_or}
use Rattle.std.proofs.Math.Seq.{drop-cons}
use Rattle.std.proofs.lemmas.Bool.{cases_Bool, cond-true, cond-false, ltb-true, ltb-false, lt-ltb, le-ltb}
use Rattle.std.proofs.lemmas.List.{drop_all}
use Rattle.std.proofs.lemmas.List.Sums.{sum_by_more, sum_by-cons}
use Rattle.std.proofs.lemmas.List.Sorted.{list_any-IsPermutation}
use Rattle.std.proofs.lemmas.Option.{slice_get-get_or}
use Rattle.street_base.specs.Prelude.{least, Phase, Green, time_of, phase_at, lists}
use Rattle.street_base.specs.declared.names.Place.{Place}
use Rattle.street_base.proofs.SearchLemmas.{least-past, least-here, least-skip}
use Rattle.street_node.specs.Prelude.{shown, IsSamePhase}

pub no_phase : Phase
no_phase = record { duration = 0; greens = [] }

module _ (place : Place) (next : ℕ) where
  -- one phase further
  pub shown-step : (phases : List Phase) (k time : ℕ) (d : Phase) → k < length phases → shown place next (drop k phases) time ≡ (if nat_lt time (get_or phases k d).duration then lists (get_or phases k d) place next else shown place next (drop (k + 1) phases) (time - (get_or phases k d).duration))
  shown-step phases k time d h = ap (λ ps. shown place next ps time) (drop-cons phases k d h) ∙ rw add-one refl

  abbrev at_time : List Phase → ℕ → ℕ → Bool
  at_time phases time i = nat_lt time (time_of phases (i + 1))

  time-more : (phases : List Phase) (k : ℕ) (d : Phase) → k < length phases → time_of phases (k + 1) ≡ time_of phases k + (get_or phases k d).duration
  time-more phases k d h = sum_by_more (λ (p : Phase). p.duration) phases k d h

  by-time : (phases : List Phase) (time count k : ℕ) → count ≡ length phases - k → k ≤ length phases → time_of phases k ≤ time → option_map_or (λ phase. lists phase place next) (option_and_then (slice_get phases) (least (at_time phases time) k (length phases))) false ≡ shown place next (drop k phases) (time - time_of phases k)
  by-time phases time zero k e h low =
      let past : length phases ≤ k = omega arith in
      rw (least-past (at_time phases time) k (length phases) past, drop_all k phases past) refl
  by-time phases time (suc count) k e h low =
      let there : k < length phases = omega arith in
      let p : Phase = get_or phases k no_phase in
      let more = time-more phases k no_phase there in
      elim (cases_Bool (at_time phases time k)) as (λ _. option_map_or (λ phase. lists phase place next) (option_and_then (slice_get phases) (least (at_time phases time) k (length phases))) false ≡ shown place next (drop k phases) (time - time_of phases k)) [
        | inl here ↦ (
            let soon = ltb-true time (time_of phases (k + 1)) here in
            ap (λ o. option_map_or (λ phase. lists phase place next) (option_and_then (slice_get phases) o) false) (least-here (at_time phases time) k (length phases) there here)
            ∙ ap (λ o. option_map_or (λ phase. lists phase place next) o false) (slice_get-get_or phases k no_phase there)
            ∙ sym (shown-step phases k (time - time_of phases k) no_phase there ∙ cond-true _ _ _ (lt-ltb (time - time_of phases k) p.duration (omega arith))))
        | inr later ↦ (
            let after = ltb-false time (time_of phases (k + 1)) later in
            let rest : (time - time_of phases k) - p.duration ≡ time - time_of phases (k + 1) = omega arith in
            ap (λ o. option_map_or (λ phase. lists phase place next) (option_and_then (slice_get phases) o) false) (least-skip (at_time phases time) k (length phases) there later)
            ∙ by-time phases time count (k + 1) (omega arith) (omega arith) after
            ∙ sym (shown-step phases k (time - time_of phases k) no_phase there ∙ cond-false _ _ _ (le-ltb (time - time_of phases k) p.duration (omega arith)) ∙ ap (shown place next (drop (k + 1) phases)) rest))
      ]

  -- the phase at a time shows what is shown phase after phase
  pub shown-at : (phases : List Phase) (time : ℕ) → option_map_or (λ phase. lists phase place next) (phase_at phases time) false ≡ shown place next phases time
  shown-at phases time = by-time phases time (length phases) 0 (omega arith) (omega arith) (omega arith) ∙ (let same : time - 0 ≡ time = omega arith in ap (shown place next phases) same)

  -- phases of the same durations and green turns show the same
  pub shown-same : (ps qs : List Phase) → length ps ≡ length qs → ((k : ℕ) (d e : Phase) → k < length ps → IsSamePhase (get_or ps k d) (get_or qs k e)) → (time : ℕ) → shown place next ps time ≡ shown place next qs time
  shown-same [] [] l h time = refl
  shown-same [] (q ∷ qs) l h time = absurd (omega arith)
  shown-same (p ∷ ps) [] l h time = absurd (omega arith)
  shown-same (p ∷ ps) (q ∷ qs) l h time =
      let same = h zero p q (omega arith) in
      let list : lists p place next ≡ lists q place next = sym (list_any-IsPermutation (λ (g : Green). (g.link == place.link) && (g.lane == place.lane) && (g.next == next)) q.greens p.greens same.greens) in
      rw (same.duration, list, shown-same ps qs (omega arith) (λ k d e b. h (suc k) d e (omega arith)) (time - q.duration)) refl

pub durations-same : (ps qs : List Phase) → length ps ≡ length qs → ((k : ℕ) (d e : Phase) → k < length ps → IsSamePhase (get_or ps k d) (get_or qs k e)) → sum_by (λ (p : Phase). p.duration) ps ≡ sum_by (λ (p : Phase). p.duration) qs
durations-same [] [] l h = refl
durations-same [] (q ∷ qs) l h = absurd (omega arith)
durations-same (p ∷ ps) [] l h = absurd (omega arith)
durations-same (p ∷ ps) (q ∷ qs) l h =
    let same = h zero p q (omega arith) in
    sum_by-cons (λ (p : Phase). p.duration) p ps
    ∙ rw (same.duration, durations-same ps qs (omega arith) (λ k d e b. h (suc k) d e (omega arith))) refl
    ∙ sym (sum_by-cons (λ (p : Phase). p.duration) q qs)
