-- One meter more, and its watch.
use Rattle.std.proofs.Common.{◌≡◌, ℕ, ◌<◌, List, [], ◌∷◌, ◌++◌, length, get_or, sym, ◌∙◌, ap, subst, arith, inl, inr, All}
use Rattle.std.proofs.lemmas.Bool.{cases_eq}
use Rattle.std.proofs.lemmas.List.{length-append, get_or_append_left, get_or_push}
use Rattle.street_meter.specs.Meter.{Meter}
use Rattle.street_rule.specs.declared.watch.Watch.{Watch}

pub even-more : (xs ys : List Meter) (x : Meter) (ws vs : List Watch) (w : Watch) → ys ≡ xs ++ x ∷ [] → vs ≡ ws ++ w ∷ [] → length ws ≡ length xs → length vs ≡ length ys
even-more xs ys x ws vs w meters watches even =
    let one = ap length meters ∙ length-append xs (x ∷ []) in
    let two = ap length watches ∙ length-append ws (w ∷ []) in
    omega arith

pub within-more : (size : ℕ) (xs ys : List Meter) (x : Meter) → ys ≡ xs ++ x ∷ [] → x.cell < size → All (λ y. y.cell < size) xs → All (λ y. y.cell < size) ys
within-more size xs ys x meters below all k d h =
    let long = ap length meters ∙ length-append xs (x ∷ []) in
    elim (cases_eq k (length xs)) as (λ _. (get_or ys k d).cell < size) [
      | inl e ↦ subst (λ (y : Meter). y.cell < size) (sym (ap (λ zs. get_or zs k d) meters ∙ get_or_push xs x d k (sym e))) below
      | inr ne ↦ subst (λ (y : Meter). y.cell < size) (sym (ap (λ zs. get_or zs k d) meters ∙ get_or_append_left xs (x ∷ []) d k (omega arith))) (all k d (omega arith))
    ]
