use Rattle.street_lanes.specs.Prelude.{AllLanes}
use Rattle.street_tile.specs.Prelude.{IsRoads}
use Rattle.street_tile.proofs.HeldMouths.{IsShown, IsHeld}
use Rattle.street_tile.proofs.view.copy_lanes.Given as goal

abbrev pub invariant-loop-n : goal.invariant-loop-n
invariant-loop-n l = (roads : IsRoads l.net) (there : AllLanes l.net l.own.places) → IsShown l.net roads l.own.places there (IsHeld l.mouths) l.fn.shown l.n l.shown
