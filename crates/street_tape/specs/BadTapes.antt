-- Texts that are no tapes, and tapes with a line that is bad or missing.
use Rattle.std.specs.Prelude.{◌≡◌, ℕ, ◌+◌, ◌<◌, ◌⊎◌, List, [], ◌∷◌, ◌++◌, length, Some, None, Ok}
use Rattle.street_desk.specs.declared.journal.Entry.{Entry}
use Rattle.street_stream.specs.HandledLines.{IsNext}
use Rattle.street_stream.specs.Lines.{lines_of}
use Rattle.street_tape.specs.Entries.{head_reading, calls_in, tape_in}
use Rattle.street_tape.specs.declared.head.TapeHead.{TapeHead}

-- that the text is no tape: its first line, read to its end, is not the first line of a tape of a known version, or the
-- text has ended, as `at_end` says, without any line
abbrev pub IsNoTape : Type 0 → List ℕ → Type 0
IsNoTape at_end text =
    ((line : List ℕ) × IsNext at_end text [] line × ((head : TapeHead) → head_reading line ≡ Ok head → ⊥))
    ⊎ (at_end × (lines_of text ≡ []))

-- that these first lines of a tape say the calls es, no more than its first line allows, and that `Good` holds of these
-- calls
pub record SaysCalls (Good : List Entry → Type 0) (ls : List (List ℕ)) (es : List Entry) : Type 0 where
  pub says : calls_in ls ≡ Some es
  pub good : Good es

-- that the line after the lines `done`, read to its end, makes with them no calls of which `Good` holds; or that the
-- text has ended, as `at_end` says, behind `done`, which is no whole tape, as with fewer calls than its first line
-- tells
abbrev pub IsBadAfter : Type 0 → (List Entry → Type 0) → List ℕ → List (List ℕ) → Type 0
IsBadAfter at_end Good text done =
    ((line : List ℕ) × IsNext at_end text done line × ((es : List Entry) → SaysCalls Good (done ++ line ∷ []) es → ⊥))
    ⊎ (at_end × (lines_of text ≡ done) × (tape_in done ≡ None))

-- that line `number`, counted from 1 with the first line of the tape, is bad or missing (`IsBadAfter`), and the lines
-- before it, at least the first, say the calls es, of which `Good` holds
pub record IsBadAt (at_end : Type 0) (Good : List Entry → Type 0) (text : List ℕ) (es : List Entry) (number : ℕ) : Type 0 where
  pub done : List (List ℕ)
  pub some : 0 < length done
  pub calls : SaysCalls Good done es
  pub bad : IsBadAfter at_end Good text done
  pub number_is : number ≡ length done + 1
