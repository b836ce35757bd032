-- Numbers that are counted on, and compared.
use Rattle.std.proofs.Common.{◌≡◌, ℕ, suc, ◌+◌, sym, ◌∙◌, arith, inl, inr, eqb}
use Rattle.std.proofs.lemmas.Bool.{eqb-true, eqb-false, eq-eqb, ne_eqb, cases_Bool}

pub from_zero : (n : ℕ) → 0 + n ≡ n
from_zero n = omega arith

-- one counts on as a first of what follows
pub shift : (n k : ℕ) → n + 1 + k ≡ n + suc k
shift n k = omega arith

pub eqb-sym : (a b : ℕ) → eqb a b ≡ eqb b a
eqb-sym a b = elim (cases_Bool (eqb b a)) as (λ _. eqb a b ≡ eqb b a) [
  | inl t ↦ eq-eqb a b (sym (eqb-true b a t)) ∙ sym t
  | inr f ↦ ne_eqb a b (λ e. eqb-false b a f (sym e)) ∙ sym f
]
