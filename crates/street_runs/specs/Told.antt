-- What the scripts of one desk are told, each beside the others.
use Rattle.std.specs.Prelude.{◌≡◌, ◌<◌, ℕ, List, [], length, slice_index_or, IsNone, Option, Result}
use Rattle.std.specs.Borrow.{Bor}
use Rattle.street_desk.specs.declared.journal.Entry.{Entry}
use Rattle.street_desk.specs.History.{BeginsWith, IsHistory}
use Rattle.street_desk.specs.Passes.{DeskView, PassView}
use Rattle.street_line.specs.declared.script.Script.{Script}
use Rattle.street_line.specs.Runs.{Goes}
use Rattle.street_line.specs.Sessions.{DeskServes}
use Rattle.street_stream.specs.declared.counted.Counted.{Counted}
use Rattle.street_stream.specs.Lines.{lines_of}
use Rattle.street_runs.specs.declared.fault.ProgramFault.{ProgramFault}
use Rattle.street_runs.specs.Ends.{IsEnded}
use Rattle.street_runs.specs.Outputs.{IsPrinted, replies_of}
use Rattle.street_runs.specs.Scripts.{ArePlayed}

-- that these replies are the whole output of the lines of some text, served by the desk to this session from when it
-- had seen nothing; all that it has seen then is a beginning of the journal
pub record IsTold (session : ℕ) (replies : List ℕ) (journal : List Entry) : Type 0 where
  pub before : PassView
  pub after : PassView
  pub text : List ℕ
  pub least : before.least ≡ session
  pub none : before.seen ≡ []
  pub served : Goes DeskServes before (lines_of text) replies after
  pub begins : BeginsWith journal after.seen

-- that there are as many scripts as names, their replies are printed in order, perhaps in part where the writer has
-- failed, and those of each script k without a fault are the machine's to session k in one legal history, the journal
pub record AreTold {W : Type 0} (R : Type 0) (desk : DeskView) (names : List (Bor (List ℕ))) (before after : Option (List ℕ)) (writer : Counted W)
    (journal : List Entry) : Type 0 where
  pub scripts : List (Script R)
  pub many : length scripts ≡ length names
  pub printed : IsPrinted before after (replies_of scripts) writer
  pub is_history : IsHistory desk.sessions journal
  pub each : (k : ℕ) (d : Script R) → k < length scripts → IsNone (slice_index_or scripts k d).fault
      → IsTold k (slice_index_or scripts k d).replies.items journal

-- that, for scripts of any desk, once played (`ArePlayed`) and the desk ended with the pass that comes back, each
-- script without a fault has the machine's replies where its calls stand in the desk's journal (`AreTold`)
abbrev pub PlayedAreTold : Type 0 → Type 0 → Type 0
PlayedAreTold R W = (desk : DeskView) (names : List (Bor (List ℕ))) (before after : Option (List ℕ)) (writer : Counted W)
    (told : Result (Unit {0}) ProgramFault) (pass : PassView) (journal : List Entry)
    → ArePlayed R desk names before after writer told pass → pass.desk ≡ desk → IsEnded pass journal
    → AreTold R desk names before after writer journal
