use Rattle.std.proofs.Common.{◌≡◌, drop}
use Rattle.street_node.specs.Prelude.{shown}
use Rattle.street_node.proofs.plan.phase_shows.Given as goal

abbrev pub invariant-loop-phase : goal.invariant-loop-phase
invariant-loop-phase l = shown (record { link = l.turn.link; lane = l.turn.lane }) l.turn.next l.phases l.time ≡ shown (record { link = l.turn.link; lane = l.turn.lane }) l.turn.next (drop l.phase-index l.phases) l.rest
