use Rattle.std.proofs.Common.{append-nil, refl}
use Rattle.street_line.proofs.KeptLines.{stops_kept}
use Rattle.street_stream.specs.Lines.{if_any}
use Rattle.street_line.proofs.kept_runs.serve_and_keep_last.Goals as goal

pub returns-clause-stops : goal.returns-clause-stops
returns-clause-stops g c = λ line is.
    let stops = rw (c.as_slice.ensures.value, c.as_slice-2.ensures.value) at c.in-Err-keep_first.ensures.stops in
    rw c.fault_of.ensures (stops_kept g.S.Service.serves g.L.WriteAheadLog.held g.L.WriteAheadLog.synced g.L.WriteAheadLog.has_failed g.W.Write.contents _ _ _ _ _ _ _ _ _ _ c.in-Err-keep_first.fault (c.in-Ok.ensures.served line is) stops)

pub returns-in-Err-clause-stops : goal.returns-in-Err-clause-stops
returns-in-Err-clause-stops g c = λ line is. (refl, refl, refl, rw (append-nil (if_any line)) (c.in-Err.ensures.halted line is))
