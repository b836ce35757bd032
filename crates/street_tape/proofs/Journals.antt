-- The calls of a journal fit a tape.
use Rattle.std.proofs.Common.{◌≡◌, List, All, true, length}
use Rattle.street_desk.specs.declared.journal.Entry.{Entry}
use Rattle.street_text.specs.Fits.{IsWord}
use Rattle.street_tape.specs.Entries.{is_part, IsOfWords, HasTapeLine, TapeFits}

pub tape_fits : (es : List Entry) → IsWord (length es) → All IsOfWords es → All (λ e. is_part e.command e.outcome ≡ true) es → All HasTapeLine es → TapeFits es
tape_fits es few words parts lines = record {
  few = few;
  each = λ k d lt. let w = words k d lt in record {
    session = w.session;
    command = w.command;
    outcome = w.outcome;
    part = parts k d lt;
    line = lines k d lt;
  };
}
