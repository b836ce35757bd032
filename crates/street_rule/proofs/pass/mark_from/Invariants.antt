use Rattle.std.specs.Prelude.{◌≡◌, ◌-◌}
use Rattle.street_base.specs.Prelude.{changes}
use Rattle.street_rule.specs.Prelude.{lane_of, length_of, track_of, changing_of, odds_of}
use Rattle.street_yard.proofs.YardLemmas.{left}
use Rattle.street_rule.proofs.MarkWalk.{IsMarking}
use Rattle.street_rule.proofs.pass.mark_from.Given as goal

abbrev pub invariant-loop-cursor : goal.invariant-loop-cursor
invariant-loop-cursor l =
    IsMarking l.initial.yard l.yard (lane_of l.road l.lane).list (lane_of l.road (1 - l.lane)).list
    (changes (changing_of l.road l.step) l.lane (track_of l.initial.yard (length_of l.road) (lane_of l.road l.lane)) (track_of l.initial.yard (length_of l.road) (lane_of l.road (1 - l.lane))))
    l.above l.ahead l.cursor l.goes
    × (l.dice ≡ odds_of l.road.network)

abbrev pub decreases-loop-cursor : goal.decreases-loop-cursor
decreases-loop-cursor l = left l.yard (lane_of l.road l.lane).list l.cursor
