-- A session of which a record is written, and the machine whose record that is.
use Rattle.std.specs.Prelude.{◌≡◌, ℕ, ◌⊎◌, List, [], ◌++◌, take, true, false, Option, Some, None, IsSome}
use Rattle.std.specs.Io.KnownBytes.{Appends}
use Rattle.street_base.specs.declared.command.Command.{Command}
use Rattle.street_base.specs.declared.reply.Reply.{Reply}
use Rattle.street_base.specs.Prelude.{State}
use Rattle.street_engine.specs.Prelude.{StandsFor, recorded_in}
use Rattle.street_record.specs.Given.{HasNoRest, IsFresh, IsGiven, WriterView}
use Rattle.street_stream.specs.Streams.{HasFailed}
use Rattle.street_stream.specs.declared.counted.Counted.{Counted}
use Rattle.street_stream.specs.declared.tally.RunFault.{RunFault}
use Rattle.street_stream.specs.declared.tally.Tally.{Tally}
use Rattle.street_line.specs.declared.service.Served.{Served}
use Rattle.street_line.specs.declared.service.Served.TheVariants.{Answered, Full, Unrecorded}
use Rattle.street_line.specs.Engines.{MachineServes}
use Rattle.street_line.specs.Sinks.{SessionView}
use Rattle.street_line.specs.Streams.{ServesAll, ServesFirst}

-- ---- the machine

-- a machine with the record of its run: `whole` has the blocks of all answered commands; `begun` those of a command
-- that was done but has no answer, of which perhaps only first bytes are written, or none where there is no such
-- command
pub record RecordedMachine : Type 0 where
  pub machine : State
  pub whole : List ℕ
  pub begun : Option (List ℕ)

-- that a command was answered, and the blocks of its steps put behind `whole`; or that it has no answer: it was done
-- and its blocks are `begun`, as their writing failed, or nothing was done, as blocks were begun before; it is never
-- full
abbrev pub MachineRecords : RecordedMachine → Command → Served → RecordedMachine → Type 0
MachineRecords old c (Answered reply) new = (old.begun ≡ None) × (new.begun ≡ None) × MachineServes old.machine c (Answered reply) new.machine
    × (new.whole ≡ old.whole ++ recorded_in old.machine c reply)
MachineRecords old c Full new = ⊥
MachineRecords old c Unrecorded new = (IsSome old.begun × (new ≡ old))
    ⊎ ((reply : Reply) × (old.begun ≡ None) × MachineServes old.machine c (Answered reply) new.machine × (new.whole ≡ old.whole)
    × (new.begun ≡ Some (recorded_in old.machine c reply)))

-- ---- the session

module _ {W : Type 0} (contents : W → Option (List ℕ)) where
  -- that the reply goes out behind its blocks: it is answered where all that the writer was given is written and
  -- nothing waits; where a write has failed, there is no answer, and the writer was given what it was given before; it
  -- is never full
  abbrev pub IsReplyBehind : WriterView W → Reply → Served → WriterView W → Type 0
  IsReplyBehind old reply (Answered told) new = (told ≡ reply) × IsFresh new
      × ((start : Option (List ℕ)) (given : List ℕ) → IsGiven contents start given old → Appends start (contents new.writer.stream) given)
  IsReplyBehind old reply Full new = ⊥
  IsReplyBehind old reply Unrecorded new = (new.has_failed ≡ true) × HasFailed new.writer
      × ((start : Option (List ℕ)) (given : List ℕ) → IsGiven contents start given old → IsGiven contents start given new)

  -- that the record's stream, since it held `start`, has taken `whole`, the blocks of all answered commands, and no
  -- write failed; or, where blocks were `begun`, a write has failed and first bytes of these, perhaps all or none, are
  -- behind `whole`
  abbrev pub HoldsRecord : Option (List ℕ) → WriterView W → List ℕ → Option (List ℕ) → Type 0
  HoldsRecord start w whole None = (w.has_failed ≡ false) × Appends start (contents w.writer.stream) whole
  HoldsRecord start w whole (Some begun) = (w.has_failed ≡ true) × HasFailed w.writer × (n : ℕ) × Appends start (contents w.writer.stream) (whole ++ take n begun)

  -- that the session's engine stands for the machine's state, and its writer's stream holds, behind `start`, the blocks
  -- of all answered commands, and first bytes of those begun (`HoldsRecord`), with no byte waiting, unless a write has
  -- failed
  pub record StandsRecorded (start : Option (List ℕ)) (view : SessionView (WriterView W)) (m : RecordedMachine) : Type 0 where
    pub engine : StandsFor view.engine m.machine
    pub writer : WriterView W
    pub written_by : view.sink ≡ Some writer
    pub rests : HasNoRest writer
    pub holds : HoldsRecord start writer m.whole m.begun

-- the recorded machine at its beginning: nothing loaded, and an empty record
abbrev pub no_steps : RecordedMachine
no_steps = record { machine = None; whole = []; begun = None }

-- ---- lines

module _ {W D V : Type 0} (contents : W → Option (List ℕ)) (remaining : D → Option (List ℕ)) (outputs : V → Option (List ℕ)) where
  -- that the machine, with nothing loaded at first, serves all lines of the reader and answers each command, their
  -- output is written, and the record's stream, of the writer in `file`, has taken their blocks behind `start`
  abbrev pub MachineRecordsAll : Option (List ℕ) → Counted D → Counted V → Option (WriterView W) → Counted D → Counted V → Tally → Type 0
  MachineRecordsAll start reader writer file read written tally = (new : RecordedMachine) × (w : WriterView W) × (file ≡ Some w) × (new.begun ≡ None)
      × HoldsRecord contents start w new.whole None × ServesAll MachineRecords remaining outputs no_steps reader writer new read written tally

  -- that the machine, with nothing loaded at first, serves the first lines of the reader until a fault ends the run,
  -- and the record's stream, of the writer in `file`, has taken the blocks of those answered behind `start`, and, if
  -- one has no answer, first bytes of its blocks
  abbrev pub MachineRecordsFirst : Option (List ℕ) → Counted D → Counted V → Option (WriterView W) → Counted D → Counted V → RunFault → Type 0
  MachineRecordsFirst start reader writer file read written fault = (new : RecordedMachine) × (w : WriterView W) × (file ≡ Some w)
      × HoldsRecord contents start w new.whole new.begun × ServesFirst MachineRecords remaining outputs no_steps reader writer new read written fault
