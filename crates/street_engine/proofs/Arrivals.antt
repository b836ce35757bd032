-- Those who arrive, one after another, the last of a list first.
use Rattle.std.proofs.Common.{◌≡◌, ℕ, ◌+◌, ◌<◌, Bool, true, false, List, [], ◌∷◌, ◌++◌, length, set, get_or, refl, sym, ◌∙◌, ap, arith, inl, inr, Option, Some, None, ◌==◌, ◌||◌, if◌then◌else◌}
use Rattle.std.specs.List.{list_any, enumerate_from}
use Rattle.std.proofs.lemmas.Bool.{cases_eq, ne_eqb, eq-eqb}
use Rattle.std.proofs.lemmas.List.{ext_get_or, get_or-map, get_or-set_same, get_or-set_other, length-map, length-set}
use Rattle.std.proofs.lemmas.List.Folds.{list_any-append}
use Rattle.std.proofs.lemmas.List.FromFn.{length-enumerate_from, get_or-enumerate_from}
use Rattle.street_base.specs.declared.reply.End.{End}
use Rattle.street_base.specs.declared.reply.End.TheVariants.{Arrived}
use Rattle.street_base.specs.Prelude.{with_arrivals}

-- how the vehicle of a number has ended then, by whether it is among those who arrive
abbrev end_then : ℕ → Bool → Option End → Option End
end_then clock arrives end = if arrives then Some (Arrived clock) else end

pub length-arrivals : (clock : ℕ) (numbers : List ℕ) (ends : List (Option End)) → length (with_arrivals clock numbers ends) ≡ length ends
length-arrivals clock numbers ends = length-map (enumerate_from 0 ends) (λ e. end_then clock (list_any (λ m. m == e.0) numbers) e.1) ∙ length-enumerate_from 0 ends

get-arrivals : (clock : ℕ) (numbers : List ℕ) (ends : List (Option End)) (k : ℕ) → k < length ends → get_or (with_arrivals clock numbers ends) k None ≡ end_then clock (list_any (λ m. m == k) numbers) (get_or ends k None)
get-arrivals clock numbers ends k within =
    let at : ◌≡◌ {A = ℕ × Option End} (0 + k, get_or ends k None) (k, get_or ends k None) = (let e : 0 + k ≡ k = omega arith in ap {B = ℕ × Option End} (λ n. (n, get_or ends k None)) e) in
    get_or-map (λ e. end_then clock (list_any (λ m. m == e.0) numbers) e.1) (enumerate_from 0 ends) k (0, None) None (omega (arith, within, length-enumerate_from 0 ends))
    ∙ ap (λ (e : ℕ × Option End). end_then clock (list_any (λ m. m == e.0) numbers) e.1) (get_or-enumerate_from 0 ends k (0, None) within ∙ at)

-- two lists, on ends of vehicles as many: who arrives by one ends as by the other
arrivals-alike : (clock : ℕ) (xs ys : List ℕ) (ends others : List (Option End)) → length others ≡ length ends
    → ((k : ℕ) → k < length ends → end_then clock (list_any (λ m. m == k) xs) (get_or ends k None) ≡ end_then clock (list_any (λ m. m == k) ys) (get_or others k None))
    → with_arrivals clock xs ends ≡ with_arrivals clock ys others
arrivals-alike clock xs ys ends others long alike =
    let xs_long = length-arrivals clock xs ends in
    let ys_long = length-arrivals clock ys others in
    ext_get_or None (with_arrivals clock xs ends) (with_arrivals clock ys others) (omega (arith, long, xs_long, ys_long)) (λ k l.
    get-arrivals clock xs ends k (omega (arith, l, xs_long)) ∙ alike k (omega (arith, l, xs_long)) ∙ sym (get-arrivals clock ys others k (omega (arith, l, xs_long, long))))

-- nobody arrives
pub with_arrivals-none : (clock : ℕ) (ends : List (Option End)) → with_arrivals clock [] ends ≡ ends
with_arrivals-none clock ends =
    let long = length-arrivals clock [] ends in
    ext_get_or None (with_arrivals clock [] ends) ends long (λ k l. get-arrivals clock [] ends k (omega (arith, l, long)))

-- the last of a list arrives, and then the others
pub last-arrives : (clock : ℕ) (rest : List ℕ) (number : ℕ) (ends : List (Option End)) → with_arrivals clock (rest ++ number ∷ []) ends ≡ with_arrivals clock rest (set ends number (Some (Arrived clock)))
last-arrives clock rest number ends = arrivals-alike clock (rest ++ number ∷ []) rest ends (set ends number (Some (Arrived clock))) (length-set ends number (Some (Arrived clock))) (λ k within.
    ap (λ (b : Bool). end_then clock b (get_or ends k None)) (list_any-append (λ m. m == k) rest (number ∷ []))
    ∙ elim (cases_eq k number) as (λ _. end_then clock (list_any (λ m. m == k) rest || ((number == k) || false)) (get_or ends k None) ≡ end_then clock (list_any (λ m. m == k) rest) (get_or (set ends number (Some (Arrived clock))) k None)) [
      | inl here ↦ rw (here, eq-eqb number number refl, get_or-set_same ends number (Some (Arrived clock)) None (omega (arith, within, here))) (either (list_any (λ m. m == number) rest) true (get_or ends number None))
      | inr other ↦ rw (ne_eqb number k (λ same. other (sym same)), get_or-set_other ends number k (Some (Arrived clock)) None other) (either (list_any (λ m. m == k) rest) false (get_or ends k None))
    ])
  where
    either : (a b : Bool) (e : Option End) → end_then clock (a || (b || false)) e ≡ end_then clock a (end_then clock b e)
    either true b e = refl
    either false true e = refl
    either false false e = refl

-- lists with the same numbers
pub with_arrivals-same : (clock : ℕ) (xs ys : List ℕ) (ends : List (Option End)) → ((n : ℕ) → list_any (λ m. m == n) xs ≡ list_any (λ m. m == n) ys) → with_arrivals clock xs ends ≡ with_arrivals clock ys ends
with_arrivals-same clock xs ys ends same = arrivals-alike clock xs ys ends ends refl (λ k within. ap (λ (b : Bool). end_then clock b (get_or ends k None)) (same k))
