-- How the program tells its faults.
use Rattle.std.specs.Prelude.{◌≡◌, ◌++◌, ◌⊎◌, ℕ, List, codes}
use Rattle.std.specs.Fmt.{decimal}
use Rattle.std.specs.Borrow.{Bor}
use Rattle.std.specs.IoError.{error_kind}
use Rattle.std.specs.declared.io.Error.{Error}
use Rattle.std.specs.declared.io.ErrorKind.TheVariants as io
use Rattle.street_stream.specs.declared.tally.FaultKind.{FaultKind}
use Rattle.street_stream.specs.declared.tally.FaultKind.TheVariants as kind
use Rattle.street_line.specs.declared.redo.RedoFault.{RedoFault}
use Rattle.street_line.specs.declared.redo.RedoFault.TheVariants as redo
use Rattle.street_line.specs.declared.kept_file.BeginFault.{BeginFault}
use Rattle.street_line.specs.declared.kept_file.BeginFault.TheVariants as begin
use Rattle.street_line.specs.declared.kept_file.ServeFault.{ServeFault}
use Rattle.street_line.specs.declared.kept_file.ServeFault.TheVariants as serve
use Rattle.street_line.specs.declared.kept_runs.KeptFault.{KeptFault}
use Rattle.street_line.specs.declared.kept_runs.KeptFault.TheVariants as kept
use Rattle.street_tape.specs.declared.fault.TapeFault.{TapeFault}
use Rattle.street_tape.specs.declared.fault.TapeFault.TheVariants as tape
use Rattle.street_runs.specs.declared.fault.ProgramFault.{ProgramFault}
use Rattle.street_runs.specs.declared.kept_records.OpenFault.TheVariants as opens
use Rattle.street_runs.specs.declared.kept_records.RecordedFault.{RecordedFault}
use Rattle.street_runs.specs.declared.kept_records.RecordedFault.TheVariants as recorded
use Rattle.street_runs.specs.declared.fault.ProgramFault.TheVariants.{BadArguments, BadTape, Endless, InUse, OutOfMemory, Read, Write}

-- the exit status of the program for a fault: 2 where the words of the command line are bad, else 1
abbrev pub status_of : ProgramFault → ℕ
status_of BadArguments = 2
status_of _ = 1

-- the text of a fault as the program tells it, with the name of the file, or the number of the tape's line in decimal
abbrev pub text_of : ProgramFault → List ℕ
text_of BadArguments = codes "bad arguments"
text_of (Read name) = codes "cannot read " ++ name.now
text_of (Write name) = codes "cannot write " ++ name.now
text_of (InUse name) = name.now ++ codes " is in use"
text_of OutOfMemory = codes "out of memory"
text_of Endless = codes "endless input"
text_of (BadTape line) = codes "bad tape at line " ++ decimal line

-- the program's fault for a run that read what is named `from` and wrote what is named `to`, by kind: cannot read,
-- cannot write, out of memory, endless input
abbrev pub fault_of_run : FaultKind → Bor (List ℕ) → Bor (List ℕ) → ProgramFault
fault_of_run kind.Read from to = Read from
fault_of_run kind.Write from to = Write to
fault_of_run kind.Starved from to = OutOfMemory
fault_of_run kind.Endless from to = Endless

-- the program's fault for a replay or an upgrade of the tape named `from`, written to `to`: a bad entry by its line's
-- number, a text that is no tape as bad at line 1, others as of a run
abbrev pub fault_of_tape : TapeFault → Bor (List ℕ) → Bor (List ℕ) → ProgramFault
fault_of_tape tape.NotTape from to = BadTape 1
fault_of_tape (tape.BadEntry line) from to = BadTape line
fault_of_tape (tape.Run fault) from to = fault_of_run fault.kind from to

-- the program's fault where the lines of the kept file of this name could not be done again: a bad line by its number,
-- as of a tape, others as of a run that reads and writes this file
abbrev pub redo_fault : RedoFault → Bor (List ℕ) → ProgramFault
redo_fault (redo.Run kind) name = fault_of_run kind name name
redo_fault (redo.BadLine line) name = BadTape line

-- that `fault` is what the program tells of a session kept in the file of this name: a fault of the run by its kind,
-- with `standard input` or `standard output` as name; a failed log as this file that cannot be written
abbrev pub IsKeptFault : KeptFault → Bor (List ℕ) → ProgramFault → Type 0
IsKeptFault (kept.Run kind) name fault = (input : Bor (List ℕ)) × (output : Bor (List ℕ)) × (fault ≡ fault_of_run kind input output)
    × (input.now ≡ codes "standard input") × (output.now ≡ codes "standard output")
IsKeptFault kept.Log name fault = fault ≡ Write name

-- the program's fault where a session did not go on from the kept file of this name: why its lines were not done again
-- (`redo_fault`); no kept line in it, as bad at line 1; or that it cannot be written
abbrev pub begin_fault : BeginFault → Bor (List ℕ) → ProgramFault
begin_fault (begin.Recover fault) name = redo_fault fault name
begin_fault begin.Foreign name = BadTape 1
begin_fault begin.Settle name = Write name

-- that `told` is what the program tells of a session that goes on from the file of this name: a fault before its first
-- line by `begin_fault`, one in it by its kind, or as this file that cannot be written (`IsKeptFault`)
abbrev pub IsServeFault : ServeFault → Bor (List ℕ) → ProgramFault → Type 0
IsServeFault (serve.Begin fault) name told = told ≡ begin_fault fault name
IsServeFault (serve.Session fault) name told = IsKeptFault fault name told

-- that `told` is what the program tells of a session that goes on from file `name` with a record in `second`: as of one
-- without a record; where the record was not opened, that `second` cannot be written, or lack of memory
abbrev pub IsRecordedFault : RecordedFault → Bor (List ℕ) → Bor (List ℕ) → ProgramFault → Type 0
IsRecordedFault (recorded.Begin fault) name second told = told ≡ begin_fault fault name
IsRecordedFault (recorded.Open opens.Output) name second told = told ≡ Write second
IsRecordedFault (recorded.Open opens.Starved) name second told = told ≡ OutOfMemory
IsRecordedFault (recorded.Session fault) name second told = IsKeptFault fault name told

-- that the system's error is lack of memory
abbrev pub LacksMemory : Error → Type 0
LacksMemory error = error_kind error ≡ io.OutOfMemory

-- that `fault` is `otherwise`, the one that is given for a file, or lack of memory
abbrev pub IsFileFault : ProgramFault → ProgramFault → Type 0
IsFileFault otherwise fault = (fault ≡ OutOfMemory) ⊎ (fault ≡ otherwise)
