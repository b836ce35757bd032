use Rattle.std.proofs.Common.{rules, ◌++◌, arith, length-append}
use Rattle.street_stream.proofs.HandlerReferences.{handles_part}
use Rattle.street_line.proofs.KeptLines.{goes_redo, halts_redo}
use Rattle.street_line.specs.Redo.{RedoLine, RedoStopLine}
use Rattle.street_line.specs.declared.redo.RedoStop.{RedoStop}
use Rattle.street_line.proofs.redo.do_more.Goals as goal

pub returns-in-Ok-clause-done : goal.returns-in-Ok-clause-done
returns-in-Ok-clause-done g c = λ line is.
    let done = c.in-Ok.ensures.handled line is in
    let part = handles_part {Stop = RedoStop} (λ s. s.service.now) (λ s. s.service.ghost_name) (RedoLine g.S.Service.serves) (RedoStopLine g.S.Service.serves) _ _ done.effects _ done.handled in
    let same = part.0 in
    let goes = goes_redo g.S.Service.serves _ _ done.effects _ part.1 in
    let counted = done.counted.lines in
    search rules

pub returns-clause-halted : goal.returns-clause-halted
returns-clause-halted g c = λ line is few.
    let halted = c.in-Err.ensures.halted line is in
    let part = halts_redo g.S.Service.serves (λ s. s.service.now) (λ s. s.service.ghost_name) _ c.args.before (line ++ c.args.bytes.now) _ _ _ _ halted c.fault_of.ensures.fault (omega (arith, few, length-append line c.args.bytes.now, c.requires.few)) in
    let same = part.0 in
    let halts = part.1 in
    search rules
