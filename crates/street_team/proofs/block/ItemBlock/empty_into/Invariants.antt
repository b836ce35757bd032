use Rattle.std.proofs.Common.{◌≡◌, ℕ, ◌+◌, ◌<◌, get_or, vec_len, vec_capacity}
use Rattle.street_team.proofs.block.ItemBlock.empty_into.Given as goal

abbrev pub invariant-loop : goal.invariant-loop
invariant-loop g l = record {
  len : vec_len l.items ≡ vec_len l.fn.items + l.counter;
  left : vec_len l.self.items + l.counter ≡ vec_len l.fn.self.items;
  capacity : vec_capacity l.items ≡ vec_capacity l.fn.items;
  same : (j : ℕ) (d : _) → j < vec_len l.self.items → get_or l.self.items.items j d ≡ get_or l.fn.self.items.items j d;
  front : (i : ℕ) (d : _) → i < vec_len l.fn.items → get_or l.items.items i d ≡ get_or l.fn.items.items i d;
  back : (j k : ℕ) (d : _) → k < l.counter → j + k + 1 ≡ vec_len l.fn.self.items → get_or l.items.items (vec_len l.fn.items + k) d ≡ get_or l.fn.self.items.items j d;
}
