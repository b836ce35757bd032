use Rattle.std.proofs.Common.{[]}
use Rattle.street_clients.proofs.Told.{all_told}
use Rattle.street_clients.proofs.scripts.serve_both_scripts.Goals as goal

pub returns : goal.returns
returns g c =
    let made = c.in_ok-desk in
    let replied = c.in_ok-one.ensures.replied in
    all_told c.end_desk.result made.desk c.args.calls made.one made.two [] [] c.in_ok-one.one c.in_ok-one.two made.ensures.sessions made.ensures.passes.0 made.ensures.passes.1 replied.0 replied.1 c.end_desk.ensures
