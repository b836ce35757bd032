use Rattle.std.proofs.Common.{◌≡◌, ℕ, List, arith, length, map, flat_map, subst, ◌∙◌, ap, sym}
use Rattle.std.specs.List.{FoldsTo, range_with_len}
use Rattle.street_base.specs.declared.net.NetSpec.{NetSpec}
use Rattle.street_base.specs.declared.record.RecordRow.{RecordRow}
use Rattle.street_base.specs.Prelude.{changed, step, places}
use Rattle.street_record.specs.Rows.{as_written, rows_at}
use Rattle.street_record.proofs.Folds.{folds-more}
use Rattle.street_record.proofs.Places.{of-places}
use Rattle.street_tile.specs.Record.{link_rows}
use Rattle.street_tile.proofs.tiles.Tiles.record.Goals as goal

pub loop-link-preserved : goal.loop-link-preserved
loop-link-preserved g c m s =
    let rows = link_rows c.args.self.now.network m in
    folds-more g.S.RowSink.takes c.args.sink.now c.loop-link.sink c.record_link.new.sink rows c.loop-link.link (c.loop-link.invariant m s)
    (subst (λ (k : ℕ). FoldsTo g.S.RowSink.takes c.loop-link.sink (rows k) c.record_link.new.sink) c.new.ensures (c.record_link.ensures m s))

pub returns : goal.returns
returns g c m s =
    let rows = rows_at (changed m) (step m) in
    let on = s.stand.lanes.on.network in
    let all : c.loop-link.link ≡ length c.args.self.now.network.links = omega (arith, c.loop-link-test.false, c.loop-link.auto.link-end, c.links-link-end.ensures) in
    subst (λ (l : List RecordRow). FoldsTo g.S.RowSink.takes c.args.sink.now l c.loop-link.sink)
    (of-places c.args.self.now.network as_written rows ∙ ap (λ (net : NetSpec). map as_written (flat_map rows (places net))) (sym on))
    (subst (λ (n : ℕ). FoldsTo g.S.RowSink.takes c.args.sink.now (flat_map (link_rows c.args.self.now.network m) (range_with_len 0 n)) c.loop-link.sink) all (c.loop-link.invariant m s))
