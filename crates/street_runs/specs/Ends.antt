-- A desk that ends with a tape.
use Rattle.std.specs.Prelude.{◌≡◌, ◌⊎◌, ℕ, List, Option}
use Rattle.std.specs.Borrow.{Bor}
use Rattle.std.specs.Io.KnownBytes.{Appends}
use Rattle.street_desk.specs.declared.journal.Entry.{Entry}
use Rattle.street_desk.specs.History.{BeginsWith}
use Rattle.street_desk.specs.Passes.{PassView, Finished}
use Rattle.street_stream.specs.declared.counted.Counted.{Counted}
use Rattle.street_stream.specs.declared.tally.FaultKind.{FaultKind}
use Rattle.street_stream.specs.Faults.{IsCausedByWriting}
use Rattle.street_tape.specs.Tapes.{tape_text}
use Rattle.street_runs.specs.declared.fault.ProgramFault.{ProgramFault}
use Rattle.street_runs.specs.declared.fault.ProgramFault.TheVariants.{Write}
use Rattle.street_runs.specs.Faults.{fault_of_run}
use Rattle.street_runs.specs.Outputs.{IsBegun}

-- that a desk was ended with this pass and left this journal: a legal history that begins with all that the pass had
-- seen, and so with any beginning of that, with no further call of its least session (`Finished`)
pub record IsEnded (pass : PassView) (journal : List Entry) : Type 0 where
  pub finished : Finished pass journal
  pub heard : (seen : List Entry) → BeginsWith pass.seen seen → BeginsWith journal seen

-- that the fault is one of writing the file of this name, by its kind: memory ran out, or the writer failed, of which
-- the writer counted a failed call or one that took no byte
pub record TellsWriting {W : Type 0} (fault : ProgramFault) (name : Bor (List ℕ)) (writer : Counted W) : Type 0 where
  pub kind : FaultKind
  pub is : fault ≡ fault_of_run kind name name
  pub caused : IsCausedByWriting kind writer

-- that a desk was ended with this pass (`IsEnded`), and the tape of its journal is written whole, from contents
-- `before` to `after` (none where unknown)
pub record IsTaped (pass : PassView) (before after : Option (List ℕ)) : Type 0 where
  pub journal : List Entry
  pub ended : IsEnded pass journal
  pub written : Appends before after (tape_text journal)

-- that a desk was ended with this pass, and first bytes of the tape of its journal are written, perhaps all or none,
-- `before` to `after` (none where unknown), as memory ran out or the writer failed, which `fault` tells with the file's
-- name
pub record IsTapedInPart {W : Type 0} (pass : PassView) (before after : Option (List ℕ)) (writer : Counted W) (name : Bor (List ℕ))
    (fault : ProgramFault) : Type 0 where
  pub journal : List Entry
  pub ended : IsEnded pass journal
  pub begun : IsBegun before after (tape_text journal)
  pub told : TellsWriting fault name writer

-- that a fault kept a desk's tape from its end: first bytes of it, perhaps all or none, are written, as memory ran out
-- or the writer failed (`IsTapedInPart`); or the writer is as it was and the fault is `Write name`, as when the desk
-- was left within a turn: of contents and pass nothing is said then
abbrev pub StopsTape : {W : Type 0} → PassView → Option (List ℕ) → Option (List ℕ) → Counted W → Counted W → Bor (List ℕ) → ProgramFault → Type 0
StopsTape pass before after old new name fault =
    IsTapedInPart pass before after new name fault ⊎ ((new ≡ old) × (fault ≡ Write name))
