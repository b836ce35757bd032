use Rattle.std.proofs.Common.{◌≡◌, ◌++◌, List, ℕ, [], refl, append-nil, ap}
use Rattle.street_stream.proofs.CutParts.{parts_inside}
use Rattle.street_stream.proofs.OpenTexts.{halts_in, opened}
use Rattle.street_stream.proofs.open_text.OpenText.feed.Goals as goal

pub returns-in-Ok-clause-handled : goal.returns-in-Ok-clause-handled
returns-in-Ok-clause-handled g c = λ line is.
    let stands = opened g.H.LineHandler.meaning.takes g.H.LineHandler.meaning.longest c.args.handler.now (g.W.Write.contents c.args.writer.now.stream) line _ is.part is.inside (record { lines = refl; calls = refl; replies = refl; bytes = refl }) in
    let fed = c.in-Ok.ensures.feeds.feeds c.args.handler.now (g.W.Write.contents c.args.writer.now.stream) line stands in
    record { effects = fed.0; handled = fed.1; replied = fed.2; counted = fed.4 }

pub returns-in-Ok-clause-open : goal.returns-in-Ok-clause-open
returns-in-Ok-clause-open g c = λ line is.
    let stands = opened g.H.LineHandler.meaning.takes g.H.LineHandler.meaning.longest c.args.handler.now (g.W.Write.contents c.args.writer.now.stream) line _ is.part is.inside (record { lines = refl; calls = refl; replies = refl; bytes = refl }) in
    let fed = c.in-Ok.ensures.feeds.feeds c.args.handler.now (g.W.Write.contents c.args.writer.now.stream) line stands in
    record { part = fed.3; inside = (parts_inside (line ++ c.args.bytes.now)).1 }

pub returns-in-Err-clause-halted : goal.returns-in-Err-clause-halted
returns-in-Err-clause-halted g c = λ line is.
    let stands = opened g.H.LineHandler.meaning.takes g.H.LineHandler.meaning.longest c.args.handler.now (g.W.Write.contents c.args.writer.now.stream) line _ is.part is.inside (record { lines = refl; calls = refl; replies = refl; bytes = refl }) in
    let broke = c.in-Err.ensures.feeds.broken c.args.handler.now (g.W.Write.contents c.args.writer.now.stream) line stands [] in
    let same : line ++ (c.args.bytes.now ++ []) ≡ line ++ c.args.bytes.now = ap (λ (b : List ℕ). line ++ b) (append-nil c.args.bytes.now) in
    halts_in g.H.LineHandler.meaning _ _ _ _ _ _ _ (rw same at broke)
