use Rattle.std.proofs.Common.{arith}
use Rattle.street_text.proofs.Texts.{command_given}
use Rattle.street_text.proofs.line_reader.LineReader.read.Goals as goal

pub returns : goal.returns
returns c = command_given c.args.line.now c.in-Some-flat_command.command (omega arith) c.in-Some-flat_command.ensures
