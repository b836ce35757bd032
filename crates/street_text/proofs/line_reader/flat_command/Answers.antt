use Rattle.std.proofs.Common.{◌≡◌, Some, codes, arith}
use Rattle.serde_json.specs.Find.{as_str}
use Rattle.street_text.specs.FlatLines.{flat_object}
use Rattle.street_text.specs.LineCommands.{field}
use Rattle.street_text.proofs.Texts.{number_command}
use Rattle.street_text.proofs.line_reader.flat_command.Goals as goal

pub returns-in-Ok : goal.returns-in-Ok
returns-in-Ok c =
    let d = flat_object c.in_ok-flat.flat in
    let name = c.in_ok-name.name.now in
    let text : field as_str (codes "cmd") d ≡ Some name = grind arith in
    number_command c.args.line.now d name c.in-Ok.command c.in_ok-flat.ensures text c.in-Ok.ensures
