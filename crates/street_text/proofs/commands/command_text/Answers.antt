use Rattle.std.proofs.Common.{◌≡◌, ◌≤◌, Some, ap, ◌∙◌, refl, true, false}
use Rattle.serde_json.specs.Data.{depth}
use Rattle.serde_json.specs.Read.{max_depth}
use Rattle.serde_json.specs.Written.{compact_text, has_float}
use Rattle.serde_json.specs.View.{view}
use Rattle.street_text.proofs.Texts.{command_read}
use Rattle.street_text.specs.CommandTexts.{command_data, text_of}
use Rattle.street_text.proofs.Again.{command_again}
use Rattle.street_text.proofs.CommandData.{whole_command, shallow_command}
use Rattle.street_text.proofs.commands.command_text.Goals as goal

pub returns-clause-text : goal.returns-clause-text
unfolding text_of
returns-clause-text c =
    let is = c.in_ok-command_value.ensures in
    let whole : has_float (view c.in_ok-command_value.field-0) ≡ false = rw is (whole_command c.args.command.now) in
    c.in_ok-text.ensures.text whole ∙ ap compact_text is

pub returns-clause-reads : goal.returns-clause-reads
returns-clause-reads c =
    let is = c.in_ok-command_value.ensures in
    let shallow : depth (view c.in_ok-command_value.field-0) ≤ max_depth = rw is (shallow_command c.args.command.now) in
    λ short. command_read c.in_ok-text.text.items (command_data c.args.command.now) c.args.command.now short c.in_ok-text.ensures.utf8
    (c.in_ok-text.ensures.reads_back shallow ∙ ap Some is) (command_again true c.args.command.now (λ told. refl))
