use Rattle.std.proofs.Common.{◌≡◌, ◌++◌, ap, refl}
use Rattle.street_stream.proofs.CutParts.{cut_alone}
use Rattle.street_stream.proofs.OpenTexts.{halts_at_end, opened}
use Rattle.street_stream.specs.Lines.{lines_of, if_any}
use Rattle.street_stream.proofs.open_text.OpenText.finish.Goals as goal

pub returns-in-Ok-clause-handled : goal.returns-in-Ok-clause-handled
returns-in-Ok-clause-handled g c = λ line is.
    let stands = opened g.H.LineHandler.meaning.takes g.H.LineHandler.meaning.longest _ _ line _ is.part is.inside (record { lines = refl; calls = refl; replies = refl; bytes = refl }) in
    let done = c.in-Ok.ensures.finishes.finishes _ _ line stands in
    let same : lines_of line ≡ if_any line = ap (λ p. p.0 ++ if_any p.1) (cut_alone line is.inside) in
    rw (← same) (record { effects = done.0; handled = done.1; replied = done.2; counted = done.3 })

pub returns-clause-halted : goal.returns-clause-halted
returns-clause-halted g c = λ line is.
    let stands = opened g.H.LineHandler.meaning.takes g.H.LineHandler.meaning.longest c.args.handler.now (g.W.Write.contents c.args.writer.now.stream) line _ is.part is.inside (record { lines = refl; calls = refl; replies = refl; bytes = refl }) in
    let broke = c.in-Err.ensures.finishes.broken c.args.handler.now (g.W.Write.contents c.args.writer.now.stream) line stands in
    halts_at_end g.H.LineHandler.meaning _ _ _ _ _ _ _ is.inside broke
