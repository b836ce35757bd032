use Rattle.street_stream.proofs.HandlerReferences.{whole_part, broke_part}
use Rattle.street_tape.proofs.Replayed.{replays_whole, misses, replay_broke}
use Rattle.street_tape.specs.ReplayHandler.{ReplaysLine, StopsLine}
use Rattle.street_tape.proofs.replays.replay_lines.Goals as goal

pub returns-in-Err-clause-same_reference : goal.returns-in-Err-clause-same_reference
returns-in-Err-clause-same_reference g c =
    (broke_part (λ s. (s.tape.rest, s.engine.now)) (λ s. s.engine.ghost_name) ReplaysLine StopsLine c.args.replayer.now _ _ c.drive_lines.new.handler _ _ _ _ c.in-Err.ensures.runs.broken).0

pub returns-in-Err-clause-stops : goal.returns-in-Err-clause-stops
returns-in-Err-clause-stops g c =
    rw c.fault_of.ensures (replay_broke _ c.requires.tape c.requires.engine _ _ _ _ _ _ _
    (broke_part (λ s. (s.tape.rest, s.engine.now)) (λ s. s.engine.ghost_name) ReplaysLine StopsLine c.args.replayer.now _ _ c.drive_lines.new.handler _ _ _ _ c.in-Err.ensures.runs.broken).1)

pub returns-in-Ok-check_end-clause-same_reference : goal.returns-in-Ok-check_end-clause-same_reference
returns-in-Ok-check_end-clause-same_reference g c =
    (whole_part (λ s. (s.tape.rest, s.engine.now)) (λ s. s.engine.ghost_name) ReplaysLine StopsLine c.args.replayer.now _ _ c.drive_lines.new.handler _ _ _ c.in-Ok.ensures.runs.whole).0

pub returns-in-Ok-check_end-clause-replayed : goal.returns-in-Ok-check_end-clause-replayed
returns-in-Ok-check_end-clause-replayed g c =
    replays_whole _ c.requires.tape c.requires.engine _ _ _ _ _ _
    (whole_part (λ s. (s.tape.rest, s.engine.now)) (λ s. s.engine.ghost_name) ReplaysLine StopsLine c.args.replayer.now _ _ c.drive_lines.new.handler _ _ _ c.in-Ok.ensures.runs.whole).1
    c.in-Ok-check_end.ensures.whole

pub returns-in-Err-check_end-clause-same_reference : goal.returns-in-Err-check_end-clause-same_reference
returns-in-Err-check_end-clause-same_reference g c =
    (whole_part (λ s. (s.tape.rest, s.engine.now)) (λ s. s.engine.ghost_name) ReplaysLine StopsLine c.args.replayer.now _ _ c.drive_lines.new.handler _ _ _ c.in-Ok.ensures.runs.whole).0

pub returns-in-Err-check_end-clause-stops : goal.returns-in-Err-check_end-clause-stops
returns-in-Err-check_end-clause-stops g c =
    misses _ c.requires.tape c.requires.engine _ _ _ _ _ _ _
    (whole_part (λ s. (s.tape.rest, s.engine.now)) (λ s. s.engine.ghost_name) ReplaysLine StopsLine c.args.replayer.now _ _ c.drive_lines.new.handler _ _ _ c.in-Ok.ensures.runs.whole).1
    c.in-Err-check_end.ensures.missing
