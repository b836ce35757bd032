-- A session that goes on from a file, from one counted stream to another.
use Rattle.std.specs.Prelude.{ℕ, List, Option}
use Rattle.street_base.specs.declared.command.Command.{Command}
use Rattle.street_base.specs.Prelude.{State}
use Rattle.street_stream.specs.declared.counted.Counted.{Counted}
use Rattle.street_line.specs.declared.service.Served.{Served}
use Rattle.street_line.specs.Engines.{MachineServes}
use Rattle.street_line.specs.KeptFiles.{ServeBreaks, ServesOn}
use Rattle.street_line.specs.declared.redo.RedoneLines.{RedoneLines}
use Rattle.street_line.specs.declared.kept_file.ServeFault.{ServeFault}

module _ {K D W : Type 0} (held synced : K → Option (List ℕ)) (remaining : D → Option (List ℕ)) (contents : W → Option (List ℕ)) where
  -- that the machine did the lines of the file again from state `old` and then served all lines of the reader, which
  -- led to some state: replies are written, and the file holds the kept lines, synced (`ServesOn`)
  abbrev pub MachineServesOn : State → K → Counted D → Counted W → K → Counted D → Counted W → RedoneLines → Type 0
  MachineServesOn old file reader writer kept read written redo = (new : State)
      × ServesOn MachineServes old (held file) (remaining reader.stream) (contents writer.stream) redo new (remaining read.stream) (held kept) (synced kept) (contents written.stream)

  -- that a fault ended a session of the machine that goes on from the file, from state `old`: before it served any line
  -- of the reader, or behind some of them; what file and writer then have, `ServeBreaks` says
  abbrev pub MachineServesOnFirst : State → K → Counted D → Counted W → K → Counted D → Counted W → ServeFault → Type 0
  MachineServesOnFirst old file reader writer kept read written fault = (new : State)
      × ServeBreaks MachineServes old (held file) (synced file) (remaining reader.stream) (contents writer.stream) new (remaining read.stream) (held kept) (synced kept) (contents written.stream) fault

module _ {P M S K D W : Type 0} (answers : M → Command → Served → M → Type 0) (stands : P → S → M → Type 0)
    (held synced : K → Option (List ℕ)) (remaining : D → Option (List ℕ)) (contents : W → Option (List ℕ)) where
  -- that, for any machine for which the session stood, it did the lines of the file again and served all those of the
  -- reader from there (`ServesOn`), and the session stands for what this leads to
  abbrev pub ServesOnAs : S → K → Counted D → Counted W → S → K → Counted D → Counted W → RedoneLines → Type 0
  ServesOnAs before file reader writer after kept read written redo = (start : P) (old : M) → stands start before old → (new : M) × stands start after new
      × ServesOn answers old (held file) (remaining reader.stream) (contents writer.stream) redo new (remaining read.stream) (held kept) (synced kept) (contents written.stream)

  -- that, for any machine for which the session stood, a fault ended a session that goes on from the file, before it
  -- served any line of the reader or behind some of them (`ServeBreaks`), and the session stands for the machine in
  -- which it ended
  abbrev pub ServesOnFirstAs : S → K → Counted D → Counted W → S → K → Counted D → Counted W → ServeFault → Type 0
  ServesOnFirstAs before file reader writer after kept read written fault = (start : P) (old : M) → stands start before old → (new : M) × stands start after new
      × ServeBreaks answers old (held file) (synced file) (remaining reader.stream) (contents writer.stream) new (remaining read.stream) (held kept) (synced kept) (contents written.stream) fault
