use Rattle.std.proofs.Common.{◌∙◌, map, refl, sym, ap, arith}
use Rattle.street_lanes.specs.Prelude.{place_at, cleared, watch_of}
use Rattle.street_base.specs.Prelude.{lane_at, drive_on}
use Rattle.street_rule.specs.Prelude.{watched}
use Rattle.street_tile.proofs.TileMotion.{of-lane}
use Rattle.std.proofs.lemmas.Simd.{map-map}
use Rattle.street_tile.proofs.motion.move_lane.Goals as goal

pub returns-then-step-clause-drives : goal.returns-then-step-clause-drives
returns-then-step-clause-drives c =
    let d = c.drive_watched.ensures.drives in
    record { same = d.same; others = d.others; room = (let e = d.room in omega arith); stands = λ m of stands. d.goes m (of-lane c.args.step.now m of c.requires.in_time (place_at c.args.own.now c.args.n) c.requires.node c.at.result c.at.ensures c.end_of-node.result c.end_of-node.ensures.position c.position.result c.position.ensures c.new-signal.result c.new-signal.ensures) stands; arrived = λ m of stands. d.arrived m (of-lane c.args.step.now m of c.requires.in_time (place_at c.args.own.now c.args.n) c.requires.node c.at.result c.at.ensures c.end_of-node.result c.end_of-node.ensures.position c.position.result c.position.ensures c.new-signal.result c.new-signal.ensures) stands }

pub returns-then-step-clause-watches : goal.returns-then-step-clause-watches
returns-then-step-clause-watches c = record {
  meters = c.drive_watched.ensures.meters;
  bare = λ none. cc;
  watched = λ m of stands.
      c.drive_watched.ensures.drives.watched m (of-lane c.args.step.now m of c.requires.in_time (place_at c.args.own.now c.args.n) c.requires.node c.at.result c.at.ensures c.end_of-node.result c.end_of-node.ensures.position c.position.result c.position.ensures c.new-signal.result c.new-signal.ensures) stands
      ∙ map-map (watched (drive_on m (place_at c.args.own.now c.args.n)) (lane_at m (place_at c.args.own.now c.args.n)).track) cleared c.args.detectors.now.meters;
}

pub returns-else-step-clause-drives : goal.returns-else-step-clause-drives
returns-else-step-clause-drives c =
    let d = c.drive.ensures in
    record { same = d.same; others = d.others; room = (let e = d.room in omega arith); stands = λ m of stands. d.goes m (of-lane c.args.step.now m of c.requires.in_time (place_at c.args.own.now c.args.n) c.requires.node c.at.result c.at.ensures c.end_of-node.result c.end_of-node.ensures.position c.position.result c.position.ensures c.new-signal.result c.new-signal.ensures) stands; arrived = λ m of stands. d.arrived m (of-lane c.args.step.now m of c.requires.in_time (place_at c.args.own.now c.args.n) c.requires.node c.at.result c.at.ensures c.end_of-node.result c.end_of-node.ensures.position c.position.result c.position.ensures c.new-signal.result c.new-signal.ensures) stands }

pub returns-else-step-clause-watches : goal.returns-else-step-clause-watches
returns-else-step-clause-watches c =
    let none = c.requires.bare c.if-step.false in
    record {
      meters = refl;
      bare = λ _. refl;
      watched = λ m of stands. none.1 ∙ sym (ap (map (watch_of m (place_at c.args.own.now c.args.n))) none.0);
    }
