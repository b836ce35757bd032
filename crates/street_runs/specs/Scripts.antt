-- Scripts that share one desk, from their passes to what is told of them.
use Rattle.std.specs.Prelude.{◌≡◌, ℕ, ◌+◌, ◌<◌, ◌⊎◌, ◌↔◌, List, [], length, slice_index_or, All, IsNone, IsSome, Option, Some, Result, Ok, Err}
use Rattle.std.specs.Borrow.{Bor}
use Rattle.std.specs.Io.KnownBytes.{Appends}
use Rattle.street_desk.specs.History.{BeginsWith}
use Rattle.street_desk.specs.Passes.{DeskView, PassView}
use Rattle.street_line.specs.declared.script.Script.{Script}
use Rattle.street_line.specs.Scripts.{IsRun}
use Rattle.street_stream.specs.declared.counted.Counted.{Counted}
use Rattle.street_stream.specs.declared.tally.FaultKind.{FaultKind}
use Rattle.street_stream.specs.Streams.{HasFailed, IsFlushed}
use Rattle.street_runs.specs.declared.fault.ProgramFault.{ProgramFault}
use Rattle.street_runs.specs.Faults.{fault_of_run}
use Rattle.street_runs.specs.Outputs.{IsPrinted, TellsOutput, replies_of}

-- the pass of a session of this desk, its least and greatest, that has called nothing, seen nothing and knows of no
-- call
abbrev pub new_pass : DeskView → ℕ → PassView
new_pass desk session = record { desk = desk; seen = []; count = 0; least = session; greatest = session }

-- that pass k of these, counted from 0, is the new pass of session `sessions - 1 - k`, as far as there is such a
-- session: the passes begin with the greatest session and go down
abbrev pub ArePassesFrom : DeskView → ℕ → List PassView → Type 0
ArePassesFrom desk sessions passes =
    (k session : ℕ) (d : PassView) → k < length passes → session + k + 1 ≡ sessions → slice_index_or passes k d ≡ new_pass desk session

-- that the script at this place has the new pass of the session of that number and no replies, and has an open file
-- just where it has no fault
pub record IsOpened {R : Type 0} (desk : DeskView) (place : ℕ) (script : Script R) : Type 0 where
  pub session : script.session ≡ new_pass desk place
  pub replies : script.replies.items ≡ []
  pub fault : IsNone script.fault ↔ IsSome script.file

-- that each script has the new pass of the session of its place, from 0, no replies, and an open file just where it has
-- no fault (`IsOpened`)
abbrev pub AreOpened : {R : Type 0} → DeskView → List (Script R) → Type 0
AreOpened {R} desk scripts = (k : ℕ) (d : Script R) → k < length scripts → IsOpened desk k (slice_index_or scripts k d)

-- that there are as many scripts as before, and each, by its place, was served the lines of some text, all or, with a
-- fault, the first, if it had a file (`IsRun`); of one without a file pass, replies and fault are as they were
pub record AreRun {R : Type 0} (old new : List (Script R)) : Type 0 where
  pub same : length new ≡ length old
  pub each : (k : ℕ) (d : Script R) → k < length old → IsRun (slice_index_or old k d) (slice_index_or new k d)

-- that the fault is that of the first script which has one, in the order of the names, told by the script's name
pub record IsFirstFault {R : Type 0} (scripts : List (Script R)) (names : List (Bor (List ℕ))) (fault : ProgramFault) : Type 0 where
  pub place : ℕ
  pub kind : FaultKind
  pub within : place < length scripts
  pub has : (d : Script R) → (slice_index_or scripts place d).fault ≡ Some kind
  pub before : (k : ℕ) (d : Script R) → k < place → IsNone (slice_index_or scripts k d).fault
  pub told : (n : Bor (List ℕ)) → fault ≡ fault_of_run kind (slice_index_or names place n) (slice_index_or names place n)

-- that the result is right: it is Ok only where no script has a fault and all replies are written and flushed; an error
-- is that of the first script with a fault, or, where none has one, of standard output, whose writer failed
abbrev pub Tells : {R W : Type 0} → List (Script R) → List (Bor (List ℕ)) → Option (List ℕ) → Option (List ℕ) → Counted W → Result (Unit {0}) ProgramFault → Type 0
Tells scripts names before after writer (Ok u) = All (λ s. IsNone s.fault) scripts × Appends before after (replies_of scripts) × IsFlushed writer
Tells scripts names before after writer (Err fault) =
    IsFirstFault scripts names fault ⊎ (All (λ s. IsNone s.fault) scripts × HasFailed writer × TellsOutput fault)

-- that scripts were played at a desk: as many as names, each opened as the session of its place and served; the replies
-- are printed in order, the result tells of them, and `pass`, of least session 0, has seen what each script had seen
pub record ArePlayed {W : Type 0} (R : Type 0) (desk : DeskView) (names : List (Bor (List ℕ))) (before after : Option (List ℕ)) (writer : Counted W)
    (result : Result (Unit {0}) ProgramFault) (pass : PassView) : Type 0 where
  pub opened : List (Script R)
  pub ran : List (Script R)
  pub many : length opened ≡ length names
  pub new : AreOpened desk opened
  pub run : AreRun opened ran
  pub printed : IsPrinted before after (replies_of ran) writer
  pub told : Tells ran names before after writer result
  pub first : pass.least ≡ 0
  pub heard : All (λ s. BeginsWith pass.seen s.session.seen) ran
