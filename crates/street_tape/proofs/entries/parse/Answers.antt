use Rattle.std.proofs.Common.{inl, inr, lt-ltb, le-ltb, length, refl}
use Rattle.street_text.proofs.Texts.{value_read, value_refused}
use Rattle.street_tape.specs.Entries.{tape_value, longest_tape_line}
use Rattle.street_tape.proofs.entries.parse.Goals as goal

pub returns-then-line-gt-LONGEST_TAPE_LINE : goal.returns-then-line-gt-LONGEST_TAPE_LINE
unfolding tape_value
returns-then-line-gt-LONGEST_TAPE_LINE c = rw (lt-ltb longest_tape_line (length c.args.line.now) c.if-line-gt-LONGEST_TAPE_LINE.true) refl

pub returns-in-Ok : goal.returns-in-Ok
unfolding tape_value
returns-in-Ok c =
    rw (le-ltb longest_tape_line (length c.args.line.now) c.if-line-gt-LONGEST_TAPE_LINE.false, value_read c.args.line.now _ c.in-Ok.ensures.ok.0 c.in-Ok.ensures.ok.1) refl

pub returns-in-Err : goal.returns-in-Err
unfolding tape_value
returns-in-Err c = elim c.fault_of.ensures [
  | inl starved ↦ rw starved.0 tt
  | inr other ↦ rw (other.0, le-ltb longest_tape_line (length c.args.line.now) c.if-line-gt-LONGEST_TAPE_LINE.false, value_refused c.args.line.now (c.in-Err.ensures.err other.1)) refl
]
