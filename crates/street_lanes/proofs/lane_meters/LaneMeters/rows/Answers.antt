use Rattle.std.proofs.Common.{List, sym, ap, subst, arith}
use Rattle.street_meter.specs.Meter.{Meter}
use Rattle.street_lanes.specs.Prelude.{Detectors, MetersStandFor}
use Rattle.street_lanes.proofs.ShownRows.{shown-none, shown-all}
use Rattle.street_lanes.proofs.lane_meters.LaneMeters.rows.Goals as goal

pub returns-then-number-len : goal.returns-then-number-len
returns-then-number-len c ds stand =
    let own : MetersStandFor c.self.inside.meters.items ds = subst (λ (xs : List Meter). MetersStandFor xs ds) (sym (ap (λ (g : Detectors). g.meters) c.self.view_is)) stand in
    shown-none c.self.inside.meters.items ds own c.args.number (omega arith)

pub returns : goal.returns
returns c ds stand =
    let own : MetersStandFor c.self.inside.meters.items ds = subst (λ (xs : List Meter). MetersStandFor xs ds) (sym (ap (λ (g : Detectors). g.meters) c.self.view_is)) stand in
    shown-all c.self.inside.meters.items ds own c.args.number (omega arith) c.index.result.now c.index.ensures c.in_ok-rows.rows.full c.in_ok-rows.rows.running c.in_ok-rows.ensures
