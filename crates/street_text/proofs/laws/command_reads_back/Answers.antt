use Rattle.std.proofs.Common.{refl, true}
use Rattle.street_text.specs.CommandTexts.{command_data, text_of}
use Rattle.street_text.proofs.CommandData.{shallow_command}
use Rattle.street_text.proofs.Texts.{command_read}
use Rattle.street_text.proofs.Again.{command_again, command_plain}
use Rattle.street_text.proofs.Plain.{plain_read, plain_utf8}
use Rattle.street_text.proofs.laws.command_reads_back.Goals as goal

pub returns : goal.returns
unfolding text_of
returns c = λ command fits short.
    let plain = command_plain command fits in
    command_read (text_of command) (command_data command) command short (plain_utf8 (command_data command) plain) (plain_read (command_data command) plain (shallow_command command)) (command_again true command (λ told. refl))
