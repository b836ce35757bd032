-- Mouths that close behind those who go, buffer after buffer of a walk.
use Rattle.std.proofs.Common.{◌≡◌, ℕ, ◌+◌, ◌<◌, Bool, true, false, List, length, take, refl, sym, ◌∙◌, ap, arith, inl, inr, Option, Some, None, slice_get, slice_set, not, ◌&&◌, ◌||◌}
use Rattle.std.specs.Option.{option_map_or}
use Rattle.std.specs.List.{list_any}
use Rattle.std.proofs.Math.Bool.{or-false}
use Rattle.std.proofs.lemmas.Bool.{cases_Bool, both_ways}
use Rattle.std.proofs.lemmas.List.{get_or-set_same, get_or-set_other}
use Rattle.std.proofs.lemmas.List.Folds.{list_any_more}
use Rattle.std.proofs.lemmas.Option.{slice_get_within, get_or_from_slice_get}
use Rattle.street_base.specs.declared.names.Place.{Place}
use Rattle.street_base.specs.Prelude.{is_place, is_free, Traffic, lane_at, target, may_give, gives}
use Rattle.street_base.proofs.ReleaseLemmas.{same_place, is_place-same, is_place-refl, is_place-swap}
use Rattle.street_net.specs.Prelude.{slot_of, mouth}
use Rattle.street_node.specs.Prelude.{IsWalk, AreShut}
use Rattle.street_node.proofs.BufferWalk.{goes-at}

pub slot-apart : (p q : Place) → p.lane < 2 → q.lane < 2 → is_place p q ≡ false → (slot_of q ≡ slot_of p → ⊥)
slot-apart p q a b other e =
    let link : p.link ≡ q.link = omega arith in
    let lane : p.lane ≡ q.lane = omega arith in
    both_ways (is_place p q) other (ap (is_place p) (sym (same_place p q link lane)) ∙ is_place-refl p)

never : (a b : Bool) → (a && not (b || true)) ≡ false
never true true = refl
never true false = refl
never false b = refl

and_true : (b : Bool) → (b && true) ≡ b
and_true true = refl
and_true false = refl

any-more : (t : Place → Bool) (ps : List Place) (k : ℕ) (p : Place) → slice_get ps k ≡ Some p → list_any t (take (k + 1) ps) ≡ list_any t (take k ps) || t p
any-more t ps k p at = list_any_more t ps k p (slice_get_within ps k p at) ∙ ap (λ (x : Place). list_any t (take k ps) || t x) (get_or_from_slice_get ps k p p at)

-- before the first buffer the mouths show which lanes are free
pub shut-start : (m : Traffic) (Among : Place → Type 0) (ps : List Place) (mouths : List Bool) → ((p : Place) → Among p → mouth mouths p ≡ is_free (lane_at m p).track 0) → AreShut m Among ps 0 mouths
shut-start m Among ps mouths shown p there = shown p there ∙ sym (and_true (is_free (lane_at m p).track 0))

-- the next buffer of the walk
module _ (m : Traffic) (Among : Place → Type 0) (ps : List Place) (k : ℕ) (from : Place) (at : slice_get ps k ≡ Some from) (mouths : List Bool) (shut : AreShut m Among ps k mouths) where
  shut-led : (p : Place) → may_give m p from ≡ true → is_free (lane_at m p).track 0 && not (list_any (may_give m p) (take (k + 1) ps)) ≡ false
  shut-led p led = rw (any-more (may_give m p) ps k from at, led) (never (is_free (lane_at m p).track 0) (list_any (may_give m p) (take k ps)))

  shut-else : (p : Place) → Among p → may_give m p from ≡ false → mouth mouths p ≡ is_free (lane_at m p).track 0 && not (list_any (may_give m p) (take (k + 1) ps))
  shut-else p there none = shut p there ∙ sym (rw (any-more (may_give m p) ps k from at, none) (ap (λ (b : Bool). is_free (lane_at m p).track 0 && not b) (or-false (list_any (may_give m p) (take k ps)))))

  -- no mouth that is open would have been shut by it
  shut-stays : ((p : Place) → Among p → may_give m p from ≡ true → mouth mouths p ≡ false) → AreShut m Among ps (k + 1) mouths
  shut-stays none p there = elim (cases_Bool (may_give m p from)) as (λ _. mouth mouths p ≡ is_free (lane_at m p).track 0 && not (list_any (may_give m p) (take (k + 1) ps))) [
    | inl leads ↦ none p there leads ∙ sym (shut-led p leads)
    | inr other ↦ shut-else p there other
  ]

  -- its front may go to no lane
  pub shut-none : target m from ≡ None → AreShut m Among ps (k + 1) mouths
  shut-none none = shut-stays (λ p there leads. let h : option_map_or (is_place p) (target m from) false ≡ true = leads in let no : false ≡ true = rw none at h in absurd (both_ways false refl no))

  module _ (to : Place) (is : target m from ≡ Some to) where
    leads-there : (p : Place) → may_give m p from ≡ is_place to p
    leads-there p = ap (λ (o : Option Place). option_map_or (is_place p) o false) is ∙ is_place-swap p to

    -- its front goes if it finds the mouth open
    pub gives-by : IsWalk m ps → Among to → gives m from ≡ mouth mouths to
    gives-by walk there = goes-at m ps walk k from to at is ∙ sym (shut to there)

    -- its front finds the mouth shut
    pub shut-before : mouth mouths to ≡ false → AreShut m Among ps (k + 1) mouths
    shut-before closed = shut-stays (λ p there leads. let same : to ≡ p = is_place-same to p (sym (leads-there p) ∙ leads) in ap (mouth mouths) (sym same) ∙ closed)

    -- its front goes, and the mouth closes behind it
    pub shut-behind : ((p : Place) → Among p → p.lane < 2) → Among to → slot_of to < length mouths → AreShut m Among ps (k + 1) (slice_set mouths (slot_of to) false)
    shut-behind few ahead fits p there = elim (cases_Bool (is_place to p)) as (λ _. mouth (slice_set mouths (slot_of to) false) p ≡ is_free (lane_at m p).track 0 && not (list_any (may_give m p) (take (k + 1) ps))) [
      | inl here ↦ (
          let same : to ≡ p = is_place-same to p here in
          ap (mouth (slice_set mouths (slot_of to) false)) (sym same) ∙ get_or-set_same mouths (slot_of to) false false fits ∙ sym (shut-led p (leads-there p ∙ here)))
      | inr other ↦ get_or-set_other mouths (slot_of to) (slot_of p) false false (slot-apart to p (few to ahead) (few p there) other) ∙ shut-else p there (leads-there p ∙ other)
    ]
