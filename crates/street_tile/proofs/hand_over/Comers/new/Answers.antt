use Rattle.street_tile.proofs.Slots.{marked-none}
use Rattle.street_tile.proofs.hand_over.Comers.new.Goals as goal

pub invariant_of-result : goal.invariant_of-result
invariant_of-result c = rw c.in_ok-by_lane.ensures (marked-none c.args.lanes c.in_ok-full.full c.in_ok-full.ensures.many)
