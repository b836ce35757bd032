-- A relink pass over a list on which no key has the mark changes nothing.
use Rattle.std.proofs.Common.{◌≡◌, ℕ, false, not, cond, List, [], ◌∷◌, refl, sym, ap, ◌∙◌, inl, filter}
use Rattle.street_yard.specs.Prelude.{Yard, list_at, Has, IsWhole, cell_at}
use Rattle.street_yard.proofs.Keys.{has-later}
use Rattle.street_rule.specs.Prelude.{is_marked, is_unmarked, put_all, HasNoMarks, Relinks}

module _ (y : Yard) where
  all-unmarked : (xs : List ℕ) → ((k : ℕ) → Has xs k → is_marked y k ≡ false) → xs ≡ filter (is_unmarked y) xs
  all-unmarked [] h = refl
  all-unmarked (x ∷ xs) h =
      ap (λ l. x ∷ l) (all-unmarked xs (λ k has. h k (has-later x k xs has)))
      ∙ sym (ap (λ b. cond (not b) (x ∷ filter (is_unmarked y) xs) (filter (is_unmarked y) xs)) (h x ([], xs, refl)))

  none-marked : (xs : List ℕ) → ((k : ℕ) → Has xs k → is_marked y k ≡ false) → filter (is_marked y) xs ≡ []
  none-marked [] h = refl
  none-marked (x ∷ xs) h =
      ap (λ b. cond b (x ∷ filter (is_marked y) xs) (filter (is_marked y) xs)) (h x ([], xs, refl))
      ∙ none-marked xs (λ k has. h k (has-later x k xs has))

  pub Relinks-none : (from to : ℕ) → IsWhole y → HasNoMarks y from → Relinks y y from to
  Relinks-none from to whole none =
      let each : (k : ℕ) → Has (list_at y from) k → is_marked y k ≡ false = λ k has. none k (whole.names k from has) in
      record {
        rest = record { lists = λ n a b. refl; cars = λ k. refl; entries = λ k h. refl; stays = λ k on. inl on; count = refl; room = refl; whole = whole };
        from_list = all-unmarked (list_at y from) each;
        to_list = sym (ap (λ l. put_all (cell_at y) l (list_at y to)) (none-marked (list_at y from) each));
        cleared = λ k on. ap not (none k on);
      }
