use Rattle.std.proofs.Common.{◌≡◌, map, take}
use Rattle.street_net.specs.Prelude.{seen_turn}
use Rattle.street_net.proofs.turns.turns_by_position.Given as goal

abbrev pub invariant-loop-turn : goal.invariant-loop-turn
invariant-loop-turn l = l.turns.items ≡ map (seen_turn l.spec) (take l.turn-index l.spec.turns)
