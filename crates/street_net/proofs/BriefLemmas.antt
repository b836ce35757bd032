-- What the brief of a link tells.
use Rattle.std.proofs.Common.{◌≡◌, ℕ, ◌+◌, ◌<◌, List, [], ◌∷◌, ◌++◌, length, get_or, sym, ◌∙◌, ap, subst, arith, inl, inr}
use Rattle.std.proofs.lemmas.Bool.{cases_eq}
use Rattle.std.proofs.lemmas.List.{get_or_append_left, get_or_push}
use Rattle.street_base.specs.declared.net.NetSpec.{NetSpec}
use Rattle.street_net.specs.declared.briefs.Brief.{Brief}
use Rattle.street_net.specs.Prelude.{IsBrief, AreBriefs}

-- a brief that was read from the table
pub told-at : (net seen : NetSpec) → net ≡ seen → (briefs : List Brief) → AreBriefs net briefs → (link at : ℕ) (brief : Brief) → link < length seen.links → at ≡ link → brief ≡ get_or briefs at brief → IsBrief seen link brief
told-at net seen view briefs kept link at brief there same is =
    let within : link < length net.links = subst (λ (n : NetSpec). link < length n.links) (sym view) there in
    subst (λ (n : NetSpec). IsBrief n link brief) view (subst (IsBrief net link) (ap (λ k. get_or briefs k brief) (sym same) ∙ sym is) (kept.told link brief within))

-- the briefs so far, with that of the next link
pub told-more : (net : NetSpec) (briefs : List Brief) (i : ℕ) (brief : Brief) → length briefs ≡ i → ((k : ℕ) (d : Brief) → k < i → IsBrief net k (get_or briefs k d)) → IsBrief net i brief → (k : ℕ) (d : Brief) → k < i + 1 → IsBrief net k (get_or (briefs ++ brief ∷ []) k d)
told-more net briefs i brief one_each before here k d low = elim (cases_eq k i) as (λ _. IsBrief net k (get_or (briefs ++ brief ∷ []) k d)) [
  | inl same ↦ subst (λ j. IsBrief net j (get_or (briefs ++ brief ∷ []) j d)) (sym same) (subst (IsBrief net i) (sym (get_or_push briefs brief d i one_each)) here)
  | inr other ↦ subst (IsBrief net k) (sym (get_or_append_left briefs (brief ∷ []) d k (omega arith))) (before k d (omega arith))
]
