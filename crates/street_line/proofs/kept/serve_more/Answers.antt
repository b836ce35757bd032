use Rattle.std.proofs.Common.{rules, ◌≡◌, ◌++◌, ℕ, ap, Vec, Global}
use Rattle.street_base.specs.declared.reply.Starved.{Starved}
use Rattle.street_stream.proofs.HandlerReferences.{handles_part}
use Rattle.street_line.proofs.KeptLines.{KeepsAt, halts_kept, owed_goes}
use Rattle.street_line.specs.Kept.{KeepsLine}
use Rattle.street_line.proofs.kept.serve_more.Goals as goal

pub returns-in-Ok-clause-served : goal.returns-in-Ok-clause-served
returns-in-Ok-clause-served g c = λ line is.
    let done = c.in-Ok.ensures.handled line is in
    let part = handles_part {Stop = Starved} (λ s. ((s.service.now, s.entries.now.items), s.entries.ghost_name)) (λ s. s.service.ghost_name) (KeepsAt g.S.Service.serves) (λ old l stop new. new ≡ old) _ _ done.effects _ done.handled in
    let same = part.0 in
    let both = handles_part {Stop = Starved} (λ p. p.0) (λ p. p.1) (KeepsLine g.S.Service.serves) (λ old l stop new. new ≡ old) _ _ done.effects _ part.1 in
    let noted = both.0 in
    let goes = owed_goes g.S.Service.serves _ _ _ done.effects _ _ _ _ _ both.1 (search rules) (search rules) done.replied
    (ap (λ (v : Vec ℕ Global). v.items) c.into_inner.ensures) in
    search rules

pub returns-in-Err-clause-halted : goal.returns-in-Err-clause-halted
returns-in-Err-clause-halted g c = λ line is.
    let halted = c.in-Err.ensures.halted line is in
    let part = halts_kept g.S.Service.serves (λ s. ((s.service.now, s.entries.now.items), s.entries.ghost_name)) (λ s. s.service.ghost_name) _ (line ++ c.args.bytes.now) _ _ _ halted in
    let same = part.0 in
    let reaches = part.1 in
    search rules
