use Rattle.std.proofs.Common.{◌≡◌, map, take}
use Rattle.street_base.specs.Prelude.{green_of}
use Rattle.street_node.specs.Prelude.{green_seen}
use Rattle.street_node.proofs.plan.green_turns.Given as goal

abbrev pub invariant-loop-green : goal.invariant-loop-green
invariant-loop-green l = map green_seen l.turns.items ≡ map (green_of l.net) (take l.green-index l.greens)
