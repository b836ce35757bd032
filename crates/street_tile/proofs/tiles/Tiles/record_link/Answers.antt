use Rattle.std.proofs.Common.{refl}
use Rattle.street_base.specs.Prelude.{changed, step}
use Rattle.street_record.proofs.Folds.{folds-more}
use Rattle.street_tile.specs.Record.{step_rows}
use Rattle.street_tile.proofs.Together.{tile-at, owns-here, stands-here}
use Rattle.street_tile.proofs.Stepped.{left-here}
use Rattle.street_tile.proofs.tiles.Tiles.record_link.Goals as goal

pub record-requires-clause-own : goal.record-requires-clause-own
record-requires-clause-own g c =
    let t = tile-at c.self.view_is c.owner_of_link-i.ensures.inside c.deref-in-loop-lane.ensures c.index.ensures in
    owns-here t c.args.link (record { link = c.args.link; lane = c.loop-lane.lane }) c.owner_of_link-i.ensures.own refl

pub loop-lane-preserved : goal.loop-lane-preserved
loop-lane-preserved g c m s =
    let t = tile-at c.self.view_is c.owner_of_link-i.ensures.inside c.deref-in-loop-lane.ensures c.index.ensures in
    let here = stands-here t (step m) s.stand in
    folds-more g.S.RowSink.takes c.args.sink.now c.loop-lane.sink c.record.new.sink (λ k. step_rows m (record { link = c.args.link; lane = k })) c.loop-lane.lane (c.loop-lane.invariant m s)
    (c.record.ensures (changed m) (step m) here.0 here.1 (left-here t m s))
