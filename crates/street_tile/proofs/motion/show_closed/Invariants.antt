use Rattle.std.proofs.Common.{◌≡◌, length}
use Rattle.street_tile.proofs.ShownLanes.{EachMouth, IsUnclosedTo}
use Rattle.street_tile.proofs.motion.show_closed.Given as goal

abbrev pub invariant-loop-n : goal.invariant-loop-n
invariant-loop-n l = record {
  wide : length l.mouths ≡ length l.fn.mouths;
  shown : EachMouth l.own.places (IsUnclosedTo l.own l.n) l.mouths;
}
