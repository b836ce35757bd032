use Rattle.street_stream.specs.Lines.{lines_of}
use Rattle.street_clients.proofs.Told.{all_told}
use Rattle.street_clients.proofs.callers.serve_both.Goals as goal

pub returns : goal.returns
returns g c =
    let made = c.in_ok-desk in
    let lines = lines_of c.args.lines.now in
    let replied = c.answer_both-one.ensures.replied in
    all_told c.end_desk.result made.desk c.args.calls made.one made.two lines lines _ _ made.ensures.sessions made.ensures.passes.0 made.ensures.passes.1 replied.0 replied.1 c.end_desk.ensures
