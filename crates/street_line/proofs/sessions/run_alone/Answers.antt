use Rattle.std.proofs.lemmas.Result.{IfOk-weaker, IfErr-weaker}
use Rattle.street_stream.specs.Lines.{lines_of}
use Rattle.street_line.proofs.Alone.{either, goes_desk, goes_alone, goes_still, breaks_alone, went}
use Rattle.street_line.proofs.sessions.run_alone.Goals as goal

pub returns-clause-alone : goal.returns-clause-alone
returns-clause-alone g c =
    let runs = c.run_lines.ensures.runs in
    let old = c.args.session.now in
    let new = c.run_lines.new.service in
    either c.run_lines.result _ _ _ runs.served runs.broken
    (λ tally run. (goes_desk old (lines_of run.text) run.out new run.served, goes_still old (lines_of run.text) run.out new run.served c.requires.alone))
    (λ fault run.
    let all = went old _ run.text new _ _ _ run.breaks in
    (goes_desk old run.breaks.done run.breaks.out new all, goes_still old run.breaks.done run.breaks.out new all c.requires.alone))

pub returns-clause-runs : goal.returns-clause-runs
returns-clause-runs g c =
    let runs = c.run_lines.ensures.runs in
    let new = c.run_lines.new.service in
    record {
      served = IfOk-weaker c.run_lines.result _ _ (λ tally run. record {
        text = run.text;
        out = run.out;
        read = run.read;
        at_end = run.at_end;
        served = goes_alone c.args.session.now (lines_of run.text) run.out new run.served c.requires.alone;
        written = run.written;
        counted = run.counted;
      }) runs.served;
      broken = IfErr-weaker c.run_lines.result _ _ (λ fault run. record {
        text = run.text;
        read = run.read;
        breaks = breaks_alone c.args.session.now _ run.text new _ _ _ run.breaks c.requires.alone;
      }) runs.broken;
      caused = runs.caused;
      bounded = runs.bounded;
    }
