use Rattle.street_yard.proofs.YardLemmas.{left}
use Rattle.street_rule.proofs.RelinkWalk.{IsRelink}
use Rattle.street_rule.proofs.relinks.relink.Given as goal

abbrev pub invariant-loop-cursor : goal.invariant-loop-cursor
invariant-loop-cursor l = IsRelink l.initial.yard l.yard l.from.0 l.to.0 l.position l.cursor

abbrev pub decreases-loop-cursor : goal.decreases-loop-cursor
decreases-loop-cursor l = left l.yard l.from.0 l.cursor
