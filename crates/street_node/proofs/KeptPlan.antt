-- A plan that is kept, against the plan that was told.
use Rattle.std.proofs.Common.{◌≡◌, ℕ, zero, suc, ◌+◌, ◌<◌, ◌≤◌, ◌%◌, Bool, true, List, [], ◌∷◌, map, length, get_or, refl, sym, ◌∙◌, ap, subst, arith, inl, inr, None, nat_lt, sum_by, ◌==◌}
use Rattle.std.specs.List.{list_all}
use Rattle.std.proofs.lemmas.Bool.{cases_Bool, cond-true, cond-false, and_parts, or_parts, leb-true, leb-false, ltb-true, ltb-false, both_ways, not-false}
use Rattle.std.proofs.lemmas.List.{length-map, get_or-map}
use Rattle.std.proofs.lemmas.List.Sums.{sum_by-cons}
use Rattle.std.proofs.lemmas.Option.{none-some}
use Rattle.street_base.specs.declared.net.NetSpec.{NetSpec}
use Rattle.street_base.specs.declared.command.GreenSpec.{GreenSpec}
use Rattle.street_base.specs.declared.command.PhaseSpec.{PhaseSpec}
use Rattle.street_base.specs.Prelude.{most_phases, most_duration, first_bad, is_within, is_bad_phase, is_turn_to, offset_fault, signal_fault, network_fault, phase_of_spec, plan_of, Phase, cycle}
use Rattle.street_base.proofs.OptionLemmas.{option_or-none}
use Rattle.street_base.proofs.FirstBadLemmas.{first_bad-none}
use Rattle.street_node.specs.Prelude.{plan_seen, shown, IsSamePhase, ShowsAs}
use Rattle.street_node.proofs.Shown.{shown-at, shown-same, durations-same}
use Rattle.street_node.proofs.GreenTurns.{no-lane}

pub all-at : {A : Type 0} (p : A → Bool) (xs : List A) → list_all p xs ≡ true → (k : ℕ) (d : A) → k < length xs → p (get_or xs k d) ≡ true
all-at p [] e k d h = absurd (omega arith)
all-at p (x ∷ xs) e zero d h = (and_parts (p x) (list_all p xs) e).0
all-at p (x ∷ xs) e (suc k) d h = all-at p xs (and_parts (p x) (list_all p xs) e).1 k d (omega arith)

-- a green turn of the network leaves lane 0 or 1
pub low-lane : (net : NetSpec) (node : ℕ) (green : GreenSpec) → network_fault net ≡ None → is_turn_to net node green ≡ true → green.lane < 2
low-lane net node green faultless e = elim (cases_Bool (nat_lt green.lane 2)) as (λ _. green.lane < 2) [
  | inl low ↦ ltb-true green.lane 2 low
  | inr high ↦ absurd (
      let up : 2 ≤ green.lane = ltb-false green.lane 2 high in
      both_ways _ (no-lane net green faultless up) (and_parts _ _ e).0)
]

-- a phase that is not bad
pub record IsGoodPhase (net : NetSpec) (node at : ℕ) (phase : PhaseSpec) : Type 0 where
  pub early : at < most_phases
  pub short : phase.duration ≤ most_duration
  pub greens : list_all (is_turn_to net node) phase.greens ≡ true

module _ (net : NetSpec) (node : ℕ) (phases : List PhaseSpec) (good : first_bad (is_bad_phase net node) phases ≡ None) where
  pub good-phase : (k : ℕ) (d : PhaseSpec) → k < length phases → IsGoodPhase net node k (get_or phases k d)
  good-phase k d h =
      let p : PhaseSpec = get_or phases k d in
      let last = or_parts _ _ (first_bad-none (is_bad_phase net node) phases good k d h) in
      let third = or_parts _ _ last.0 in
      let second = or_parts _ _ third.0 in
      let within = and_parts _ _ (not-false (is_within 1 most_duration p.duration) second.1) in
      record {
        early = leb-false most_phases k second.0;
        short = leb-true p.duration most_duration within.1;
        greens = not-false (list_all (is_turn_to net node) p.greens) last.1;
      }

  abbrev nothing : PhaseSpec
  nothing = record { duration = 0; greens = [] }

  pub few-phases : length phases ≤ 16
  few-phases = few (length phases) refl
    where
      few : (n : ℕ) → n ≡ length phases → length phases ≤ 16
      few zero e = omega arith
      few (suc n) e = omega (arith, (good-phase n nothing (omega arith)).early)

-- a plan without a fault
pub no-fault : (net : NetSpec) (node offset : ℕ) (phases : List PhaseSpec) → signal_fault net node offset phases ≡ None → (first_bad (is_bad_phase net node) phases ≡ None) × (offset < cycle (plan_of net offset phases))
no-fault net node offset phases e = elim (cases_Bool (length phases == 0)) as (λ _. (first_bad (is_bad_phase net node) phases ≡ None) × (offset < cycle (plan_of net offset phases))) [
  | inl none ↦ absurd (none-some 0 (sym e ∙ cond-true _ _ _ none))
  | inr some ↦ (
      let parts = option_or-none (first_bad (is_bad_phase net node) phases) (offset_fault net offset phases) (sym (cond-false _ _ _ some) ∙ e) in (
        parts.0,
        elim (cases_Bool (nat_lt offset (cycle (plan_of net offset phases)))) as (λ _. offset < cycle (plan_of net offset phases)) [
          | inl low ↦ ltb-true offset (cycle (plan_of net offset phases)) low
          | inr high ↦ absurd (none-some (length phases) (sym parts.1 ∙ cond-false _ _ _ high))
        ],
      ))
]

-- the phases that a plan has last as long as those told
pub told-sum : (net : NetSpec) (phases : List PhaseSpec) → sum_by (λ (p : Phase). p.duration) (map (phase_of_spec net) phases) ≡ sum_by (λ (p : PhaseSpec). p.duration) phases
told-sum net [] = refl
told-sum net (p ∷ ps) = sum_by-cons (λ (p : Phase). p.duration) (phase_of_spec net p) (map (phase_of_spec net) ps) ∙ ap (λ n. p.duration + n) (told-sum net ps) ∙ sym (sum_by-cons (λ (p : PhaseSpec). p.duration) p ps)

-- phases that are kept are the same as those told
module _ (net : NetSpec) (offset : ℕ) (kept : List Phase) (phases : List PhaseSpec) (count : length kept ≡ length phases) (same : (k : ℕ) (d : Phase) (e : PhaseSpec) → k < length phases → IsSamePhase (get_or kept k d) (phase_of_spec net (get_or phases k e))) where
  told : List Phase
  told = map (phase_of_spec net) phases

  as-many : length kept ≡ length (map (phase_of_spec net) phases)
  as-many = count ∙ sym (length-map phases (phase_of_spec net))

  alike : (k : ℕ) (d e : Phase) → k < length kept → IsSamePhase (get_or kept k d) (get_or (map (phase_of_spec net) phases) k e)
  alike k d e h = subst (IsSamePhase (get_or kept k d)) (sym (get_or-map (phase_of_spec net) phases k (record { duration = 0; greens = [] }) e (omega arith))) (same k d (record { duration = 0; greens = [] }) (omega arith))

  pub kept-cycle : cycle (plan_seen offset kept) ≡ cycle (plan_of net offset phases)
  kept-cycle = durations-same kept (map (phase_of_spec net) phases) as-many alike

  pub kept-shows : ShowsAs (plan_seen offset kept) (plan_of net offset phases)
  kept-shows = record {
    cycle_is = kept-cycle;
    green_is = λ place next step.
        shown-at place next kept ((step + offset) % cycle (plan_seen offset kept))
        ∙ ap (λ n. shown place next kept ((step + offset) % n)) kept-cycle
        ∙ shown-same place next kept (map (phase_of_spec net) phases) as-many alike ((step + offset) % cycle (plan_of net offset phases))
        ∙ sym (shown-at place next (map (phase_of_spec net) phases) ((step + offset) % cycle (plan_of net offset phases)));
  }
