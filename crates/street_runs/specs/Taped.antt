-- A run at a desk, from its session to its tape.
use Rattle.std.specs.Prelude.{◌≡◌, ℕ, List, Option, Some, None, Result, Ok, Err, OnOk, IfErr}
use Rattle.std.specs.Borrow.{Bor}
use Rattle.std.specs.Io.KnownBytes.{Keeps}
use Rattle.street_desk.specs.Passes.{DeskView, PassView, first_pass}
use Rattle.street_line.specs.Streams.{AloneServesLines}
use Rattle.street_stream.specs.Streams.{IsFresh}
use Rattle.street_stream.specs.declared.counted.Counted.{Counted}
use Rattle.street_stream.specs.declared.tally.RunFault.{RunFault}
use Rattle.street_stream.specs.declared.tally.Tally.{Tally}
use Rattle.street_runs.specs.Ends.{IsTaped, StopsTape}
use Rattle.street_runs.specs.Faults.{fault_of_run}
use Rattle.street_runs.specs.Scripts.{ArePlayed}
use Rattle.street_runs.specs.declared.fault.ProgramFault.{ProgramFault}
use Rattle.street_base.specs.Prelude.{most_reads}

-- that the program tells so how a run ended: well, or by its fault's kind, with the names of what was read and written
abbrev pub IsToldOf : Result Tally RunFault → Result (Unit {0}) ProgramFault → Type 0
IsToldOf (Ok tally) told = told ≡ Ok tt
IsToldOf (Err fault) told = (input : Bor (List ℕ)) × (output : Bor (List ℕ)) × (told ≡ Err (fault_of_run fault.kind input output))

-- that of two results the first fault is told, else that both are well
abbrev pub IsFirstOf : Result (Unit {0}) ProgramFault → Result (Unit {0}) ProgramFault → Result (Unit {0}) ProgramFault → Type 0
IsFirstOf (Ok u) second told = told ≡ second
IsFirstOf (Err fault) second told = told ≡ Err fault

module _ {T : Type 0} (contents : T → Option (List ℕ)) (start : Option (List ℕ)) (fails : Bor (List ℕ) → ProgramFault → Type 0) where
  -- what became of the tape of a desk that was to be ended with this pass: where none was asked for, none is there; else
  -- what it is written to was not opened, as `fails` tells, or was opened with contents `start`, and the tape is written
  -- there whole (`IsTaped`), or as far as a fault says (`StopsTape`)
  abbrev pub TapeEnds : PassView → Option (Bor (List ℕ)) → Result (Unit {0}) ProgramFault → Option (Counted T) → Type 0
  TapeEnds pass None taped tape = (taped ≡ Ok tt) × (tape ≡ None)
  TapeEnds pass (Some name) taped None = (fault : ProgramFault) × (taped ≡ Err fault) × fails name fault
  TapeEnds pass (Some name) taped (Some tape) = (opened : Counted T) × IsFresh opened × (contents opened.stream ≡ start)
      × OnOk taped (IsTaped pass (contents opened.stream) (contents tape.stream)) × IfErr taped (StopsTape pass (contents opened.stream) (contents tape.stream) opened tape name)

  -- that a desk's session, which went as `served` says, was ended with this pass and its tape (`TapeEnds`), and the
  -- result is the session's fault, else the tape's
  abbrev pub EndsTaped : Result (Unit {0}) ProgramFault → PassView → Option (Bor (List ℕ)) → Result (Unit {0}) ProgramFault → Option (Counted T) → Type 0
  EndsTaped served pass name told tape = (taped : Result (Unit {0}) ProgramFault) × TapeEnds pass name taped tape × IsFirstOf served taped told

  -- that the lines of the reader were served as the one session of a new desk, with a place for so many calls, and the
  -- writer was flushed behind them; and then the desk was ended with the session's pass and its tape (`EndsTaped`)
  pub record InputTaped {D W : Type 0} (remaining : D → Option (List ℕ)) (outputs : W → Option (List ℕ)) (calls : ℕ) (reader read : Counted D) (writer written : Counted W)
      (name : Option (Bor (List ℕ))) (told : Result (Unit {0}) ProgramFault) (tape : Option (Counted T)) : Type 0 where
    pub desk : DeskView
    pub pass : PassView
    pub run : Result Tally RunFault
    pub served : Result (Unit {0}) ProgramFault
    pub answered : Counted W
    pub places : desk.calls ≡ calls
    pub serves : AloneServesLines remaining outputs most_reads (first_pass desk) reader writer run pass read answered
    pub flushed : Keeps (outputs answered.stream) (outputs written.stream)
    pub is : IsToldOf run served
    pub ends : EndsTaped served pass name told tape

  -- that scripts were played at a new desk (`ArePlayed`), with a place for so many calls, and then the desk was ended
  -- with the pass that has seen what each of them had seen, and its tape (`EndsTaped`)
  pub record ScriptsTaped {W : Type 0} (R : Type 0) (outputs : W → Option (List ℕ)) (calls : ℕ) (names : List (Bor (List ℕ))) (writer written : Counted W)
      (name : Option (Bor (List ℕ))) (told : Result (Unit {0}) ProgramFault) (tape : Option (Counted T)) : Type 0 where
    pub desk : DeskView
    pub pass : PassView
    pub served : Result (Unit {0}) ProgramFault
    pub places : desk.calls ≡ calls
    pub played : ArePlayed R desk names (outputs writer.stream) (outputs written.stream) written served pass
    pub ends : EndsTaped served pass name told tape
