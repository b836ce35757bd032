use Rattle.std.proofs.Common.{◌≡◌, ℕ, ◌+◌, ◌<◌, ◌≤◌, get_or, vec_len, vec_capacity}
use Rattle.street_team.proofs.block.ItemBlock.fill.Given as goal

abbrev pub invariant-loop : goal.invariant-loop
invariant-loop g l = record {
  len : vec_len l.items + l.counter ≡ vec_len l.fn.items;
  taken : vec_len l.self.items ≡ l.counter;
  room : l.count ≤ vec_capacity l.self.items;
  enough : l.count ≤ vec_len l.fn.items;
  capacity : vec_capacity l.items ≡ vec_capacity l.fn.items;
  shown : l.self.shown.items ≡ l.shown;
  front : (i : ℕ) (d : _) → i < vec_len l.items → get_or l.items.items i d ≡ get_or l.fn.items.items i d;
  back : (j k : ℕ) (d : _) → j + k + 1 ≡ l.counter → get_or l.self.items.items j d ≡ get_or l.fn.items.items (vec_len l.items + k) d;
}
