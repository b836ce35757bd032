use Rattle.std.proofs.Common.{◌≡◌, true, take}
use Rattle.std.specs.List.{list_all}
use Rattle.street_base.specs.Prelude.{is_turn_to}
use Rattle.street_node.proofs.checks.are_turns_to.Given as goal

abbrev pub invariant-loop-green : goal.invariant-loop-green
invariant-loop-green l = list_all (is_turn_to l.net l.node) (take l.green-index l.greens) ≡ true
