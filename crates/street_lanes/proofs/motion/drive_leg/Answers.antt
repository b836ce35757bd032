use Rattle.std.proofs.Common.{◌<◌, length, sym, ap, subst, arith, All}
use Rattle.street_rule.specs.Prelude.{Road, IsRoadLane, length_of, lane_of, IsReady}
use Rattle.street_yard.proofs.YardLemmas.{head-held}
use Rattle.street_lanes.proofs.ListMotion.{MovesLane-nobody, MovesLane-stays, MovesLane-leaves}
use Rattle.street_lanes.proofs.motion.drive_leg.Goals as goal

pub returns-in_err-front-clause-moves : goal.returns-in_err-front-clause-moves
returns-in_err-front-clause-moves c =
    let leg = c.args.leg.now in
    MovesLane-nobody leg.net.now leg.signal.now leg.clock leg.at leg.closures.now leg.lane c.args.yard.now _ _ c.args.watches.now
    c.cells_list-cells.ensures c.in_err-front.ensures.whole c.requires.lane c.in_err-front.ensures.front c.from_residual.ensures

pub exit_for-exit-requires-clause-front : goal.exit_for-exit-requires-clause-front
exit_for-exit-requires-clause-front c = head-held c.args.yard.now c.cells_list-cells.result.0 c.in_ok-front.front c.in_ok-front.ensures.whole (sym c.in_ok-front.ensures.front)

pub returns-in_err-leaver-clause-moves : goal.returns-in_err-leaver-clause-moves
returns-in_err-leaver-clause-moves c =
    let leg = c.args.leg.now in
    MovesLane-stays leg.net.now leg.signal.now leg.clock leg.at leg.closures.now leg.lane c.args.yard.now _ _ c.in_ok-front.front c.exit_for-exit.result c.new-road.result c.args.dice.now
    c.motion_pass.new.yard c.motion_pass.result c.args.watches.now c.motion_pass.new.watches
    c.cells_list-cells.ensures c.buffer_list-buffer.ensures c.in_ok-front.ensures.front c.in_ok-front.ensures.whole c.requires.lane c.exit_for-exit.ensures c.new-road.ensures c.requires.dice
    c.motion_pass.ensures.moved c.motion_pass.ensures.rest c.motion_pass.ensures.stands
    _ c.in_err-leaver.was c.from_residual-in_err-leaver.ensures

pub returns-clause-moves : goal.returns-clause-moves
returns-clause-moves c =
    let leg = c.args.leg.now in
    MovesLane-leaves leg.net.now leg.signal.now leg.clock leg.at leg.closures.now leg.lane c.args.yard.now _ _ c.in_ok-front.front c.exit_for-exit.result c.new-road.result c.args.dice.now
    c.motion_pass.new.yard c.motion_pass.result c.args.watches.now c.motion_pass.new.watches
    c.cells_list-cells.ensures c.buffer_list-buffer.ensures c.in_ok-front.ensures.front c.in_ok-front.ensures.whole c.requires.lane c.exit_for-exit.ensures c.new-road.ensures c.requires.dice
    c.motion_pass.ensures.moved c.motion_pass.ensures.rest c.motion_pass.ensures.stands
    c.in_ok-leaver.leaver c.in_ok-leaver.was c.end_node-end.result c.end_node-end.ensures.node c.saturating_add-ready.result (λ in_time. omega arith)
    c.settle.new.yard c.settle.result c.settle.ensures.settles c.settle.ensures.none_loose

pub list_front-requires : goal.list_front-requires
list_front-requires c = rw c.cells_list-cells.ensures (omega (arith, c.requires.listed))

pub exit_for-exit-requires-clause-network : goal.exit_for-exit-requires-clause-network
exit_for-exit-requires-clause-network c = ap (λ (r : Road). r.network) c.new-road.ensures

pub exit_for-exit-requires-clause-link : goal.exit_for-exit-requires-clause-link
exit_for-exit-requires-clause-link c = ap (λ (r : Road). r.link) c.new-road.ensures

pub exit_for-exit-requires-clause-list : goal.exit_for-exit-requires-clause-list
exit_for-exit-requires-clause-list c = rw c.buffer_list-buffer.ensures c.requires.listed

pub motion_pass-requires-clause-lane : goal.motion_pass-requires-clause-lane
motion_pass-requires-clause-lane c = subst (λ (r : Road). 0 < length r.lanes) (sym c.new-road.ensures) (omega arith)

pub motion_pass-requires-clause-stands : goal.motion_pass-requires-clause-stands
motion_pass-requires-clause-stands c = subst (λ (r : Road). IsRoadLane c.args.yard.now (length_of r) (lane_of r 0)) (sym c.new-road.ensures) (rw c.cells_list-cells.ensures (record { listed = omega (arith, c.requires.listed); stands = c.requires.lane; within = c.requires.closed }))

pub motion_pass-requires-clause-watches : goal.motion_pass-requires-clause-watches
motion_pass-requires-clause-watches c = subst (λ (r : Road). All (IsReady (length_of r)) c.args.watches.now) (sym c.new-road.ensures) c.requires.watches

pub settle-requires-clause-list : goal.settle-requires-clause-list
settle-requires-clause-list c = rw (c.buffer_list-buffer.ensures, c.motion_pass.ensures.rest.count) c.requires.listed
