-- Meters that note a step, one after another.
use Rattle.std.proofs.Common.{◌≡◌, ℕ, ◌+◌, ◌<◌, ◌≤◌, List, length, set, get_or, refl, sym, ◌∙◌, subst, inl, inr, arith}
use Rattle.std.proofs.lemmas.Bool.{cases_eq}
use Rattle.std.proofs.lemmas.List.{get_or_read, get_or-set_same, get_or-set_other, length-set}
use Rattle.street_base.specs.Prelude.{LaneState}
use Rattle.street_meter.specs.Meter.{Meter}
use Rattle.street_rule.specs.declared.watch.Watch.{Watch}
use Rattle.street_lanes.specs.Prelude.{LaneView, LaneStands, GoesOn, Notes}

module _ (view : LaneView) (ws : List Watch) (olds : List Meter) where
  -- the meters before k have noted the step, and from k on they are as before
  pub record IsNoted (k : ℕ) (now : List Meter) : Type 0 where
    pub even : length now ≡ length olds
    pub goes : (j : ℕ) (x : Meter) → j < k → j < length olds → GoesOn (get_or olds j x) (get_or now j x)
    pub notes : (s : LaneState) → LaneStands view s → (j : ℕ) (x : Meter) (w : Watch) → j < k → j < length olds → Notes s.track.cells (get_or ws j w) (get_or olds j x) (get_or now j x)
    pub rest : (j : ℕ) (x : Meter) → k ≤ j → get_or now j x ≡ get_or olds j x

  pub noted-start : IsNoted 0 olds
  noted-start = record { even = refl; goes = λ j x h. absurd (omega arith); notes = λ s stands j x w h. absurd (omega arith); rest = λ j x h. refl }

  module _ (k : ℕ) (now : List Meter) (n : IsNoted k now) (h : k < length olds) (even : length ws ≡ length olds) (x after : Meter) (at : x ≡ get_or now k x) (w : Watch) (seen : w ≡ get_or ws k w) where
    within : k < length now
    within = let e = n.even in omega arith

    was : (d : Meter) → x ≡ get_or olds k d
    was d = get_or_read now k x within at d ∙ n.rest k d (omega arith)

    saw : (d : Watch) → w ≡ get_or ws k d
    saw d = get_or_read ws k w (omega arith) seen d

    is : (d : Meter) → after ≡ get_or (set now k after) k d
    is d = sym (get_or-set_same now k after d within)

    pub noted-next : GoesOn x after → ((s : LaneState) → LaneStands view s → Notes s.track.cells w x after) → IsNoted (k + 1) (set now k after)
    noted-next goes notes = record {
      even = length-set now k after ∙ n.even;
      goes = λ j d l there. elim (cases_eq j k) as (λ _. GoesOn (get_or olds j d) (get_or (set now k after) j d)) [
        | inl e ↦ rw e (subst (GoesOn (get_or olds k d)) (is d) (subst (λ (y : Meter). GoesOn y after) (was d) goes))
        | inr ne ↦ subst (GoesOn (get_or olds j d)) (sym (get_or-set_other now k j after d ne)) (n.goes j d (omega arith) there)
      ];
      notes = λ s stands j d v l there. elim (cases_eq j k) as (λ _. Notes s.track.cells (get_or ws j v) (get_or olds j d) (get_or (set now k after) j d)) [
        | inl e ↦ rw e (subst (Notes s.track.cells (get_or ws k v) (get_or olds k d)) (is d)
            (subst (λ (y : Meter). Notes s.track.cells (get_or ws k v) y after) (was d)
            (subst (λ (u : Watch). Notes s.track.cells u x after) (saw v) (notes s stands))))
        | inr ne ↦ subst (Notes s.track.cells (get_or ws j v) (get_or olds j d)) (sym (get_or-set_other now k j after d ne)) (n.notes s stands j d v (omega arith) there)
      ];
      rest = λ j d above. get_or-set_other now k j after d (λ e. absurd (omega arith)) ∙ n.rest j d (omega arith);
    }
