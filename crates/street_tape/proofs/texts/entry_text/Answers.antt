use Rattle.street_tape.proofs.EntryData.{whole_entry}
use Rattle.street_tape.proofs.texts.entry_text.Goals as goal

pub line_text-requires : goal.line_text-requires
line_text-requires c = rw c.in_ok-value.ensures (whole_entry c.args.entry.now)
