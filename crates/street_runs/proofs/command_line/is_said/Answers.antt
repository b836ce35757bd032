use Rattle.std.proofs.Common.{◌∙◌, ap}
use Rattle.street_runs.specs.Parser.{is_said}
use Rattle.street_runs.proofs.Parser.{first_row}
use Rattle.street_runs.proofs.command_line.is_said.Goals as goal

pub returns-in-Some : goal.returns-in-Some
returns-in-Some c = c.eq.ensures ∙ ap is_said (first_row c.args.matches.now c.args.name.now _ c.in-Some.ensures)

pub returns-in-None : goal.returns-in-None
returns-in-None c = ap is_said (first_row c.args.matches.now c.args.name.now _ c.in-None.ensures)
