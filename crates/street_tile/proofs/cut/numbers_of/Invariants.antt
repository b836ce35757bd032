use Rattle.std.proofs.Common.{◌≡◌, ℕ, ◌*◌, ◌<◌, length, get_or, Some, slice_get}
use Rattle.street_base.specs.declared.names.Place.{Place}
use Rattle.street_net.specs.Prelude.{slot_of}
use Rattle.street_tile.proofs.cut.numbers_of.Given as goal

abbrev pub invariant-loop-n : goal.invariant-loop-n
invariant-loop-n l = record {
  wide : length l.numbers.items ≡ 2 * l.links;
  at : (k : ℕ) (p : Place) → k < l.n → slice_get l.own k ≡ Some p → get_or l.numbers.items (slot_of p) 0 ≡ k;
}
