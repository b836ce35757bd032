use Rattle.std.proofs.Common.{◌+◌, length, ap, arith}
use Rattle.street_tile.proofs.SameLanes.{same-none, same-then, same-long}
use Rattle.street_tile.proofs.DepartedLanes.{departed-start, departed-next, departed-over}
use Rattle.street_tile.proofs.entries.depart_lanes.Goals as goal

pub loop-n-init : goal.loop-n-init
loop-n-init c =
    let own = c.args.own.now in
    let next = c.next_to_depart-n.ensures in
    record {
      within = next.within;
      same = same-none own;
      done = departed-over c.args.clock own 0 c.next_to_depart-n.result own next.not_before next.passed (departed-start c.args.clock own);
    }

pub loop-n-preserved : goal.loop-n-preserved
loop-n-preserved c =
    let old = c.args.own.now in
    let next = c.next_to_depart-n-in-loop-n.ensures in
    let goes = c.depart.ensures.goes in
    let same = same-then old c.loop-n.own c.depart.new.self c.loop-n.invariant.same goes.same in
    let long = same-long old c.depart.new.self same in
    record {
      within = omega (arith, next.within, long);
      same = same;
      done = departed-over c.args.clock old (c.loop-n.n + 1) c.next_to_depart-n-in-loop-n.result c.depart.new.self next.not_before next.passed (departed-next c.args.clock old c.loop-n.n c.loop-n.own c.depart.new.self c.loop-n.invariant.done goes);
    }

pub returns-clause-same : goal.returns-clause-same
returns-clause-same c = rw c.look_ahead.ensures c.loop-n.invariant.same

pub returns-clause-lanes : goal.returns-clause-lanes
returns-clause-lanes c = λ n s below stands.
    let places = ap length c.loop-n.invariant.same.places in
    rw c.look_ahead.ensures (c.loop-n.invariant.done.done n s (omega (arith, places, below)) stands)
