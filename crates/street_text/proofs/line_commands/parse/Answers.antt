use Rattle.std.proofs.Common.{inl, inr}
use Rattle.street_text.proofs.Texts.{value_read, value_refused}
use Rattle.street_text.proofs.line_commands.parse.Goals as goal

pub returns-in-Ok : goal.returns-in-Ok
returns-in-Ok c = value_read c.args.line.now _ c.in-Ok.ensures.ok.0 c.in-Ok.ensures.ok.1

pub returns-in-Err : goal.returns-in-Err
returns-in-Err c = elim c.fault_of.ensures [ inl starved ↦ rw starved.0 tt | inr other ↦ rw other.0 (value_refused c.args.line.now (c.in-Err.ensures.err other.1)) ]
