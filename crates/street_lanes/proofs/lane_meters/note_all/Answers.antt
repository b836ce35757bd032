use Rattle.std.proofs.Common.{get_or, ap, arith}
use Rattle.std.proofs.lemmas.List.{get_or_default}
use Rattle.street_lanes.specs.Prelude.{lane_of}
use Rattle.street_rule.specs.declared.watch.Watch.{Watch}
use Rattle.street_lanes.proofs.NotedMeters.{noted-next}
use Rattle.street_lanes.proofs.lane_meters.note_all.Goals as goal

pub loop-k-preserved : goal.loop-k-preserved
loop-k-preserved c =
    let k = c.loop-k.k in
    let ws = c.args.watches.now in
    let none : Watch = record { cell = 0; passes = 0; speeds = 0 } in
    noted-next (lane_of c.args.own.now c.args.lane) ws c.args.meters.now k c.loop-k.meters c.loop-k.invariant (omega arith) c.requires.even
    (get_or c.loop-k.meters k c.index-meters-k.result) c.note_one.new.meter (ap (λ x. get_or c.loop-k.meters k x) c.index-meters-k.is)
    (get_or ws k none) (get_or_default ws k none (get_or ws k none) (let e = c.requires.even in let long = c.loop-k.invariant.even in omega arith)) c.note_one.ensures.goes c.note_one.ensures.notes
