use Rattle.std.proofs.Common.{flat_map}
use Rattle.std.specs.List.{FoldsTo, range_with_len}
use Rattle.street_base.specs.Prelude.{Traffic}
use Rattle.street_tile.specs.Prelude.{HaveStepped}
use Rattle.street_tile.specs.Record.{link_rows}
use Rattle.street_tile.proofs.tiles.Tiles.record.Given as goal

abbrev pub invariant-loop-link : goal.invariant-loop-link
invariant-loop-link g l = (m : Traffic) → HaveStepped l.self m → FoldsTo g.S.RowSink.takes l.fn.sink (flat_map (link_rows l.self.network m) (range_with_len 0 l.link)) l.sink
