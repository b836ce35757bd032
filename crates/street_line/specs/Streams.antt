-- Lines that are served from one counted stream to another.
use Rattle.std.specs.Prelude.{ℕ, ◌≤◌, List, Option, Result, IfOk, IfErr}
use Rattle.street_base.specs.declared.command.Command.{Command}
use Rattle.street_base.specs.Prelude.{State}
use Rattle.street_desk.specs.Passes.{PassView}
use Rattle.street_stream.specs.Faults.{IsCaused}
use Rattle.street_stream.specs.declared.counted.Counted.{Counted}
use Rattle.street_stream.specs.declared.tally.RunFault.{RunFault}
use Rattle.street_stream.specs.declared.tally.Tally.{Tally}
use Rattle.street_line.specs.declared.service.Served.{Served}
use Rattle.street_line.specs.Engines.{MachineServes}
use Rattle.street_line.specs.Faults.{ServedInPart}
use Rattle.street_line.specs.Runs.{ServedWhole}
use Rattle.street_line.specs.Sessions.{AloneServes}

module _ {S D W : Type 0} (serves : S → Command → Served → S → Type 0) (remaining : D → Option (List ℕ)) (contents : W → Option (List ℕ)) where
  -- that the reader was read to its end, all of its lines were served, from `old` to `new`, their whole output is in
  -- the writer, and `tally` counts lines, calls, replies and bytes
  abbrev pub ServesAll : S → Counted D → Counted W → S → Counted D → Counted W → Tally → Type 0
  ServesAll old reader writer new read written tally =
      ServedWhole serves old (remaining reader.stream) (contents writer.stream) new (remaining read.stream) (contents written.stream) tally

  -- that a fault ended the run: of what was read of the reader the first lines, perhaps all or none, were served, from
  -- `old` to `new`, and of their output first bytes are in the writer; `fault` tells the kind and counts them
  abbrev pub ServesFirst : S → Counted D → Counted W → S → Counted D → Counted W → RunFault → Type 0
  ServesFirst old reader writer new read written fault =
      ServedInPart serves old (remaining reader.stream) (contents writer.stream) new (remaining read.stream) (contents written.stream) fault

  -- that a run of at most `reads` reads served all lines and answered its tally; or it served the first lines and
  -- answered a fault, whose cause, but for lack of memory, reader or writer counted
  pub record ServesLines (reads : ℕ) (old : S) (reader : Counted D) (writer : Counted W) (run : Result Tally RunFault)
      (new : S) (read : Counted D) (written : Counted W) : Type 0 where
    pub served : IfOk run (ServesAll old reader writer new read written)
    pub broken : IfErr run (ServesFirst old reader writer new read written)
    pub caused : IfErr run (λ fault. IsCaused fault.kind read written reads)
    pub bounded : read.calls ≤ reads

module _ {D W : Type 0} (remaining : D → Option (List ℕ)) (contents : W → Option (List ℕ)) where
  -- that a pass which has the desk alone made a run of at most `reads` reads, each command one call more in its history
  -- while the desk has room: all lines served and a tally, or the first and a fault (`ServesLines`)
  abbrev pub AloneServesLines : ℕ → PassView → Counted D → Counted W → Result Tally RunFault → PassView → Counted D → Counted W → Type 0
  AloneServesLines reads old reader writer run new read written =
      ServesLines (AloneServes old.desk.calls) remaining contents reads old.seen reader writer run new.seen read written

  -- that the machine serves all lines of the reader from state `old`, to some state, their output is in the writer, and
  -- `tally` counts them
  abbrev pub MachineServesAll : State → Counted D → Counted W → Counted D → Counted W → Tally → Type 0
  MachineServesAll old reader writer read written tally = (new : State) × ServesAll MachineServes remaining contents old reader writer new read written tally

  -- that the machine serves the first lines of the reader from state `old`, to some state, until a fault ends the run,
  -- and first bytes of their output, perhaps all or none, are in the writer
  abbrev pub MachineServesFirst : State → Counted D → Counted W → Counted D → Counted W → RunFault → Type 0
  MachineServesFirst old reader writer read written fault =
      (new : State) × ServesFirst MachineServes remaining contents old reader writer new read written fault

module _ {P M S D W : Type 0} (answers : M → Command → Served → M → Type 0) (stands : P → S → M → Type 0)
    (remaining : D → Option (List ℕ)) (contents : W → Option (List ℕ)) where
  -- that, for any machine for which the session stood, it serves all lines of the reader, their output is in the
  -- writer, and the session stands for what they lead to
  abbrev pub ServesAllAs : S → Counted D → Counted W → S → Counted D → Counted W → Tally → Type 0
  ServesAllAs before reader writer after read written tally = (start : P) (old : M) → stands start before old
      → (new : M) × stands start after new × ServesAll answers remaining contents old reader writer new read written tally

  -- that, for any machine for which the session stood, it serves the first lines of the reader until a fault ends the
  -- run, first bytes of their output are in the writer, and the session stands for what they lead to
  abbrev pub ServesFirstAs : S → Counted D → Counted W → S → Counted D → Counted W → RunFault → Type 0
  ServesFirstAs before reader writer after read written fault = (start : P) (old : M) → stands start before old
      → (new : M) × stands start after new × ServesFirst answers remaining contents old reader writer new read written fault
