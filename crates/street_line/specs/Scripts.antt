-- What became of a script.
use Rattle.std.specs.Prelude.{◌≡◌, ℕ, ◌<◌, List, [], Option, Some, None, ⊤}
use Rattle.std.specs.Io.KnownBytes.{Consumes, IsAtEnd}
use Rattle.street_desk.specs.Passes.{PassView}
use Rattle.street_stream.specs.Lines.{lines_of}
use Rattle.street_stream.specs.declared.counted.Counted.{Counted}
use Rattle.street_stream.specs.declared.tally.FaultKind.{FaultKind}
use Rattle.street_stream.specs.declared.tally.FaultKind.TheVariants.{Read, Write, Starved, Endless}
use Rattle.street_stream.specs.declared.tally.Tally.{Tally}
use Rattle.street_line.specs.Faults.{Breaks}
use Rattle.street_line.specs.Runs.{Goes}
use Rattle.street_line.specs.Sessions.{DeskServes}
use Rattle.street_line.specs.declared.script.Script.{Script}

-- the kind of a fault where the replies are written to memory: a write that failed is then lack of memory; other kinds
-- stay
abbrev pub in_memory : FaultKind → FaultKind
in_memory Read = Read
in_memory Write = Starved
in_memory Starved = Starved
in_memory Endless = Endless

-- that the fault of a script has its cause: a read that failed, or just `reads` reads made, as many as are allowed; for
-- lack of memory none is asked, and a fault of writing never comes
abbrev pub IsCausedInMemory : {R : Type 0} → FaultKind → Counted R → ℕ → Type 0
IsCausedInMemory Read reader reads = 0 < reader.failures
IsCausedInMemory Endless reader reads = reader.calls ≡ reads
IsCausedInMemory Starved reader reads = ⊤
IsCausedInMemory Write reader reads = ⊥

-- that the replies of a script are the output of all lines of this text, served by the desk to its pass, from `old` to
-- `new`; or, with a fault, first bytes, perhaps all or none, of the output of its first lines (`Breaks`)
abbrev pub ScriptServed : PassView → List ℕ → List ℕ → Option FaultKind → PassView → Type 0
ScriptServed old text replies None new = Goes DeskServes old (lines_of text) replies new
ScriptServed old text replies (Some fault) new = (kind : FaultKind) × (tally : Tally)
    × (fault ≡ in_memory kind) × Breaks DeskServes old (Some []) text new (Some replies) kind tally

-- that the replies of a script are the output of the lines read of its text, served to its pass, `old` to `new`: of all
-- lines to the text's end, where no fault ended the script, else first bytes of that of the first (`ScriptServed`)
pub record ReaderServed (old : PassView) (unread left : Option (List ℕ)) (replies : List ℕ) (fault : Option FaultKind) (new : PassView) : Type 0 where
  pub text : List ℕ
  pub read : Consumes unread left text
  pub at_end : fault ≡ None → IsAtEnd left
  pub served : ScriptServed old text replies fault new

-- that a script with a file was served the lines of some text, all or, with a fault, the first (`ScriptServed`); that
-- this text is the file's is not said; with no file, its pass, replies and fault are as they were
abbrev pub IsRunFrom : {F R : Type 0} → Option F → Script R → Script R → Type 0
IsRunFrom None old new = (new.session ≡ old.session) × (new.replies ≡ old.replies) × (new.fault ≡ old.fault)
IsRunFrom (Some file) old new = (text : List ℕ) × ScriptServed old.session text new.replies.items new.fault new.session

-- that a script for which a file was opened was served the lines of some text, all or, with a fault, the first
-- (`IsRunFrom`); without such a file its pass, replies and fault are as they were
abbrev pub IsRun : {R : Type 0} → Script R → Script R → Type 0
IsRun old new = IsRunFrom old.file old new
