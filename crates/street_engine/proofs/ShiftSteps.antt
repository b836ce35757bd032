-- What steps that were made lead to.
use Rattle.std.proofs.Common.{◌≡◌, ℕ, zero, suc, ◌+◌, ◌<◌, true, false, sym, ◌∙◌, ap, subst, true≢false, arith, Result, Ok, Err, OnOk, OnErr, is_err}
use Rattle.street_base.specs.Prelude.{Traffic, step, steps}
use Rattle.street_engine.specs.Prelude.{StreetsView, StreetsStandFor, StreetsGo}

-- so many steps, and then so many
steps-then : (a b : ℕ) (m : Traffic) → steps (a + b) m ≡ steps b (steps a m)
steps-then zero b m = let e : zero + b ≡ b = omega arith in ap (λ (k : ℕ). steps k m) e
steps-then (suc a) b m = let e : suc a + b ≡ suc (a + b) = omega arith in ap (λ (k : ℕ). steps k m) e ∙ steps-then a b (step m)

pub go-then : (a b : ℕ) (x y z : StreetsView) → StreetsGo (steps a) x y → StreetsGo (steps b) y z → StreetsGo (steps (a + b)) x z
go-then a b x y z first then = λ m s. subst (StreetsStandFor z) (sym (steps-then a b m)) (then (steps a m) (first m s))

pub go-after-none : (a b : ℕ) (x y z : StreetsView) → a ≡ 0 → StreetsGo (steps a) x y → StreetsGo (steps b) y z → StreetsGo (steps b) x z
go-after-none a b x y z none first then = let e : a + b ≡ b = omega (arith, none) in λ m s. subst (λ (k : ℕ). StreetsStandFor z (steps k m)) e (go-then a b x y z first then m s)

-- a step that is refused memory leaves what those before it led to
pub go-refused : {T E : Type 0} (made : ℕ) (x y z : StreetsView) (r : Result T E) → StreetsGo (steps made) x y → is_err r ≡ true → OnErr r (StreetsGo (λ m. m) y z) → StreetsGo (steps made) x z
go-refused made x y z (Ok t) so_far some still = absurd (true≢false (sym some))
go-refused made x y z (Err e) so_far some still = λ m s. still (steps made m) (so_far m s)

-- one that is not is one more
pub go-made : {T E : Type 0} (made : ℕ) (x y z : StreetsView) (r : Result T E) → StreetsGo (steps made) x y → is_err r ≡ false → OnOk r (StreetsGo step y z) → StreetsGo (steps (made + 1)) x z
go-made made x y z (Ok t) so_far none went = go-then made 1 x y z so_far went
go-made made x y z (Err e) so_far none went = absurd (true≢false none)
