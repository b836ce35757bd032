use Rattle.std.proofs.Common.{flat_map}
use Rattle.std.specs.List.{FoldsTo, range_with_len}
use Rattle.street_base.specs.Prelude.{Traffic}
use Rattle.street_tile.specs.Prelude.{HaveStepped}
use Rattle.street_tile.specs.Record.{step_rows}
use Rattle.street_tile.proofs.tiles.Tiles.record_link.Given as goal

abbrev pub invariant-loop-lane : goal.invariant-loop-lane
invariant-loop-lane g l = (m : Traffic) → HaveStepped l.self m → FoldsTo g.S.RowSink.takes l.fn.sink (flat_map (λ k. step_rows m (record { link = l.fn.link; lane = k })) (range_with_len 0 l.lane)) l.sink
