-- What holds of each item of a list, item by item.
use Rattle.std.proofs.Common.{ℕ, ◌≡◌, ◌+◌, ◌<◌, ◌≤◌, List, All, Some, take, length, get_or, subst, sym, slice_get}
use Rattle.std.proofs.lemmas.List.{take_more, take_all}
use Rattle.std.proofs.lemmas.List.Elements.{All-push}
use Rattle.std.proofs.lemmas.Option.{get_or_from_slice_get, slice_get_within}

module _ {X : Type 0} (P : X → Type 0) (xs : List X) (i : ℕ) where
  pub one_more : (d : X) → i < length xs → All P (take i xs) → P (get_or xs i d) → All P (take (i + 1) xs)
  one_more d lt before here = subst (All P) (sym (take_more xs i d lt)) (All-push P (take i xs) (get_or xs i d) before here)

  -- an item that was looked up
  pub one_read : (x : X) → slice_get xs i ≡ Some x → All P (take i xs) → P x → All P (take (i + 1) xs)
  one_read x found before here = one_more x (slice_get_within xs i x found) before (subst P (sym (get_or_from_slice_get xs i x x found)) here)

  pub at_end : length xs ≤ i → All P (take i xs) → All P xs
  at_end le all = subst (All P) (take_all i xs le) all
