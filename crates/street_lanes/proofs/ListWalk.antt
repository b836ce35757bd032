-- A walk down a list of a yard.
use Rattle.std.proofs.Common.{◌≡◌, ℕ, ◌<◌, List, [], ◌∷◌, ◌++◌, Option, Some, None, refl, sym, ap, ◌∙◌, arith}
use Rattle.std.proofs.lemmas.List.{append_assoc}
use Rattle.street_yard.specs.Prelude.{Yard, list_at, list_on, first_or, IsBehind, IsWhole}
use Rattle.street_yard.proofs.YardLemmas.{left, left-is, head_is}

-- the cursor stands at the first key that was not looked at
pub record IsWalk (y : Yard) (list : ℕ) (cursor : Option ℕ) : Type 0 where
  pub done : List ℕ
  pub rest : List ℕ
  pub split : list_at y list ≡ done ++ rest
  pub at_cursor : cursor ≡ first_or rest None

abbrev pub walk-start : (y : Yard) (list : ℕ) (cursor : Option ℕ) → cursor ≡ first_or (list_at y list) None → IsWalk y list cursor
walk-start y list cursor e = record { done = []; rest = list_at y list; split = refl; at_cursor = e }

module _ {y : Yard} {list : ℕ} {cursor : Option ℕ} (key : ℕ) (whole : IsWhole y) (a : IsWalk y list cursor) (is : cursor ≡ Some key) where
  pub head : (tail : List ℕ) × (a.rest ≡ key ∷ tail)
  head = head_is key a.rest cursor is a.at_cursor

  pub listed : list_at y list ≡ a.done ++ key ∷ head.0
  listed = a.split ∙ ap (λ l. a.done ++ l) head.1

  pub walk-on : list_on y key ≡ Some list
  walk-on = whole.names key list (a.done, head.0, listed)

  module _ (next : Option ℕ) (behind : IsBehind y key next) where
    abbrev pub walk-step : IsWalk y list next
    walk-step = record {
      done = a.done ++ key ∷ [];
      rest = head.0;
      split = listed ∙ sym (append_assoc a.done (key ∷ []) head.0);
      at_cursor = behind list a.done head.0 listed;
    }

    pub walk-smaller : left y list next < left y list cursor
    walk-smaller =
        let now = left-is y list a.done (key ∷ head.0) cursor whole listed (is ∙ refl) in
        let then = left-is y list walk-step.done walk-step.rest next whole walk-step.split walk-step.at_cursor in
        omega (arith, now, then)
