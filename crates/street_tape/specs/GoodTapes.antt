-- What tapes of a legal history are read, replayed and upgraded as.
use Rattle.std.specs.Prelude.{◌≡◌, ◌++◌, ℕ, All, List, [], Option, None, Some, false}
use Rattle.street_desk.specs.declared.journal.Entry.{Entry}
use Rattle.street_engine.specs.Prelude.{EngineView}
use Rattle.street_tape.specs.declared.fault.TapeFault.{TapeFault}
use Rattle.street_tape.specs.Entries.{tape_reading}
use Rattle.street_tape.specs.Faults.{TapeBreaks, IsOfRun}
use Rattle.street_tape.specs.Tapes.{tape_text}
use Rattle.street_tape.specs.Upgrades.{UpgradeBreaks}
use Rattle.street_text.specs.CommandTexts.{tells_size}

-- that no call enters a vehicle of another size than 1, so that a tape of version 1 can say these calls
abbrev pub HaveSizeOne : List Entry → Type 0
HaveSizeOne history = All (λ e. tells_size e.command ≡ false) history

-- that the tape, where it can be read at all, has the calls of this history; where it cannot, nothing is said
abbrev pub SaysOnly : List ℕ → List Entry → Type 0
SaysOnly tape history = (es : List Entry) → tape_reading tape ≡ Some es → es ≡ history

-- that a replay of any beginning of this tape, or all of it, from nothing loaded, which ends with a fault does so for
-- reading, writing or memory (`IsOfRun`): it never tells that the tape is bad or none
abbrev pub IsNeverBad : List ℕ → Type 0
IsNeverBad tape = (text more : List ℕ) → text ++ more ≡ tape
    → (before : Option (List ℕ)) (view : EngineView) (after : Option (List ℕ)) (fault : TapeFault)
    → TapeBreaks (more ≡ []) None before text view after fault → IsOfRun fault

-- that an upgrade of any beginning of this tape, or all of it, which ends with a fault does so for reading, writing or
-- memory (`IsOfRun`): it never tells that the tape is bad or none
abbrev pub IsNeverRefused : List ℕ → Type 0
IsNeverRefused tape = (text more : List ℕ) → text ++ more ≡ tape
    → (before after : Option (List ℕ)) (fault : TapeFault)
    → UpgradeBreaks (more ≡ []) before text after fault → IsOfRun fault

-- that the upgrade of this tape is the text of that history's tape, and can be read as that history; nothing is said
-- where the tape cannot be read
abbrev pub UpgradesTo : List ℕ → List Entry → Type 0
UpgradesTo tape history = (es : List Entry) → tape_reading tape ≡ Some es
    → (tape_text es ≡ tape_text history) × (tape_reading (tape_text es) ≡ Some history)
