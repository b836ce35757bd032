use Rattle.street_stream.specs.Lines.{lines_of}
use Rattle.street_line.proofs.Alone.{goes_desk, went}
use Rattle.street_clients.proofs.callers.serve_lines.Goals as goal

pub returns-in-Ok-clause-desk : goal.returns-in-Ok-clause-desk
returns-in-Ok-clause-desk g c =
    let run = c.in-Ok.ensures.runs.served in
    goes_desk c.args.session.now (lines_of run.text) run.out c.run_lines.new.service run.served

pub returns-in-Err-clause-desk : goal.returns-in-Err-clause-desk
returns-in-Err-clause-desk g c =
    let run = c.in-Err.ensures.runs.broken in
    goes_desk c.args.session.now run.breaks.done run.breaks.out c.run_lines.new.service (went c.args.session.now _ run.text c.run_lines.new.service _ _ _ run.breaks)
