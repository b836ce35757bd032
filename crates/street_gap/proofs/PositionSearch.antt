-- A search for the last key above a cell, from a key on.
use Rattle.std.proofs.Common.{◌≡◌, ℕ, ◌<◌, ◌≤◌, List, [], ◌∷◌, ◌++◌, Option, Some, None, MatchOption, sym, ap, subst, ◌∙◌, arith}
use Rattle.std.proofs.lemmas.List.{append_assoc}
use Rattle.street_yard.specs.Prelude.{Yard, list_at, list_on, first_or, last_or, IsWhole, IsBehind, cell_at, AllAbove}
use Rattle.street_yard.proofs.Keys.{last_or-push}
use Rattle.street_gap.specs.Prelude.{IsUpTo, IsPosition, IsNextBehind}
use Rattle.street_yard.proofs.YardLemmas.{left, left-is, head_is, AllAbove-push}

-- the search has come to the cursor, and this is the key above it
pub record IsSeek (y : Yard) (n cell : ℕ) (position cursor : Option ℕ) : Type 0 where
  pub up : List ℕ
  pub down : List ℕ
  pub split : list_at y n ≡ up ++ down
  pub at_position : position ≡ last_or up None
  pub at_cursor : cursor ≡ first_or down None
  pub above : AllAbove (cell_at y) cell up
  pub whole : IsWhole y

pub IsSeek-start : (y : Yard) (n cell : ℕ) (position cursor : Option ℕ) → IsWhole y → IsUpTo y n cell position → IsNextBehind y n position cursor → IsSeek y n cell position cursor
IsSeek-start y n cell position cursor whole w next =
    record { up = w.up; down = w.down; split = w.split; at_position = w.at_position; at_cursor = next w.up w.down w.split w.at_position; above = w.above; whole = whole }

module _ (y : Yard) (n cell key : ℕ) (position cursor : Option ℕ) (cur : cursor ≡ Some key) (w : IsSeek y n cell position cursor) where
  tail : (t : List ℕ) × (w.down ≡ key ∷ t)
  tail = head_is key w.down cursor cur w.at_cursor

  split : list_at y n ≡ w.up ++ key ∷ tail.0
  split = w.split ∙ ap (λ l. w.up ++ l) tail.1

  pub IsSeek-on : list_on y key ≡ Some n
  IsSeek-on = w.whole.names key n (w.up, tail.0, split)

  pub IsSeek-step : (next : Option ℕ) (here : ℕ) → cell_at y key ≡ here → cell < here → IsBehind y key next → IsSeek y n cell cursor next × (left y n next < left y n cursor)
  IsSeek-step next here is over behind =
      let step : list_at y n ≡ (w.up ++ key ∷ []) ++ tail.0 = split ∙ sym (append_assoc w.up (key ∷ []) tail.0) in
      let is_next : next ≡ first_or tail.0 None = behind n w.up tail.0 split in
      let e = is in (
        record {
          up = w.up ++ key ∷ [];
          down = tail.0;
          split = step;
          at_position = cur ∙ sym (last_or-push w.up key None);
          at_cursor = is_next;
          above = AllAbove-push (cell_at y) cell w.up key w.above (omega arith);
          whole = w.whole;
        },
        rw (left-is y n (w.up ++ key ∷ []) tail.0 next w.whole step is_next, left-is y n w.up (key ∷ tail.0) cursor w.whole split cur) (omega arith),
      )

  pub IsSeek-found : (here : ℕ) → cell_at y key ≡ here → here ≤ cell → IsPosition y n cell position
  IsSeek-found here is below =
      let e = is in
      let le : cell_at y key ≤ cell = omega arith in
      record {
        up = w.up;
        down = w.down;
        split = w.split;
        at_position = w.at_position;
        above = w.above;
        below = subst (λ o. MatchOption o (Unit {0}) (λ k. cell_at y k ≤ cell)) (sym cur ∙ w.at_cursor) le;
      }

pub IsSeek-end : (y : Yard) (n cell : ℕ) (position cursor : Option ℕ) → cursor ≡ None → IsSeek y n cell position cursor → IsPosition y n cell position
IsSeek-end y n cell position cursor cur w =
    record {
      up = w.up;
      down = w.down;
      split = w.split;
      at_position = w.at_position;
      above = w.above;
      below = subst (λ o. MatchOption o (Unit {0}) (λ k. cell_at y k ≤ cell)) (sym cur ∙ w.at_cursor) tt;
    }
