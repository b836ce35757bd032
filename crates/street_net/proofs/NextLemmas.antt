-- The next links that are kept of each link.
use Rattle.std.proofs.Common.{◌≡◌, ℕ, ◌<◌, List, [], ◌∷◌, ◌++◌, length, length-append, get_or, sym, subst, arith, inl, inr}
use Rattle.std.proofs.lemmas.Bool.{cases_eq}
use Rattle.std.proofs.lemmas.List.{get_or_append_left, get_or_push}
use Rattle.street_base.specs.declared.net.NetSpec.{NetSpec}
use Rattle.street_net.specs.declared.nexts.Pair.{Pair}
use Rattle.street_net.specs.Prelude.{IsKept, AreKept}

-- those so far, with those of the next link
pub kept-more : (net : NetSpec) (pairs : List Pair) (i : ℕ) (pair : Pair) → length pairs ≡ i → AreKept net pairs → IsKept net i pair → AreKept net (pairs ++ pair ∷ [])
kept-more net pairs i pair one_each before here k d low = elim (cases_eq k i) as (λ _. IsKept net k (get_or (pairs ++ pair ∷ []) k d)) [
  | inl same ↦ subst (λ j. IsKept net j (get_or (pairs ++ pair ∷ []) j d)) (sym same) (subst (IsKept net i) (sym (get_or_push pairs pair d i one_each)) here)
  | inr other ↦
      let within : k < length pairs = omega (arith, length-append pairs (pair ∷ []), low) in
      subst (IsKept net k) (sym (get_or_append_left pairs (pair ∷ []) d k within)) (before k d within)
]

-- what was read from the table
pub kept-at : (net seen : NetSpec) → net ≡ seen → (pairs : List Pair) → AreKept net pairs → (link at : ℕ) (pair : Pair) → at ≡ link → at < length pairs → pair ≡ get_or pairs at pair → IsKept seen link pair
kept-at net seen view pairs kept link at pair same within is = subst (λ (n : NetSpec). IsKept n link pair) view (subst (λ k. IsKept net k pair) same (subst (IsKept net at) (sym is) (kept at pair within)))
