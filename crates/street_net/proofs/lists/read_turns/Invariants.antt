use Rattle.std.proofs.Common.{◌≡◌, take}
use Rattle.street_base.specs.Prelude.{is_bad_turn}
use Rattle.street_net.specs.Prelude.{keys_of_turns}
use Rattle.street_net.proofs.FirstBad.{NoneBad}
use Rattle.street_net.proofs.lists.read_turns.Given as goal

abbrev pub invariant-loop-at : goal.invariant-loop-at
invariant-loop-at l = record { keys : l.seen.keys ≡ keys_of_turns (take l.at l.spec.turns); none_bad : NoneBad (is_bad_turn l.spec) l.spec.turns l.at }
