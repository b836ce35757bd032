use Rattle.std.proofs.Common.{arith}
use Rattle.street_tile.proofs.MetersStand.{bare-noted, noted-next, noted-all, due-early}
use Rattle.street_tile.proofs.meters.note_lanes.Goals as goal

pub note-requires-clause-in_time : goal.note-requires-clause-in_time
note-requires-clause-in_time c = due-early c.requires.in_time.0 c.requires.in_time.1 c.args.own.now c.args.detectors.now c.loop-n.n c.loop-n.detectors c.loop-n.invariant _ (omega arith) c.requires.in_time.2

pub loop-n-preserved : goal.loop-n-preserved
loop-n-preserved c = noted-next c.args.own.now c.args.detectors.now c.loop-n.n c.loop-n.detectors c.loop-n.invariant (omega arith) c.index-detectors-n.result c.note.new.self c.note.ensures.rest c.note.ensures.goes c.note.ensures.notes

pub returns-then-not-has_meters : goal.returns-then-not-has_meters
returns-then-not-has_meters c = bare-noted c.args.own.now c.args.detectors.now (c.requires.bare c.if-not-has_meters.true)

pub returns : goal.returns
returns c = noted-all c.args.own.now c.args.detectors.now c.loop-n.n c.loop-n.detectors c.loop-n.invariant (omega arith)
