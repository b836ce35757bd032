-- What two clients of a desk are told, and the tape of their calls.
use Rattle.std.specs.Prelude.{◌≡◌, ℕ, ◌≤◌, List, [], ◌++◌, length, Some, IfSome}
use Rattle.street_clients.specs.declared.desks.Client.{Client}
use Rattle.street_clients.specs.declared.tapes.Told.{Told}
use Rattle.street_desk.specs.declared.journal.Entry.{Entry}
use Rattle.street_desk.specs.History.{BeginsWith, IsHistory}
use Rattle.street_desk.specs.Passes.{DeskView, PassView}
use Rattle.street_line.specs.Runs.{Goes}
use Rattle.street_line.specs.Sessions.{DeskServes}
use Rattle.street_line.specs.declared.script.Script.{Script}
use Rattle.street_tape.specs.Tapes.{tape_text}

-- that the pass is at this desk, its least session, whose number its calls bear, is this one, and it has seen nothing
pub record IsNew (desk : DeskView) (session : ℕ) (pass : PassView) : Type 0 where
  pub of_desk : pass.desk ≡ desk
  pub least : pass.least ≡ session
  pub none : pass.seen ≡ []

-- that the client's replies are the whole output of some lines that begin with `firsts`, served by the desk from pass
-- `before` to the client's pass; nothing is said where it has no replies
abbrev pub Replied : PassView → List (List ℕ) → Client → Type 0
Replied before firsts client =
    IfSome client.replies (λ replies. (more : List (List ℕ)) × Goes DeskServes before (firsts ++ more) replies.items client.pass)

-- that two scripts which were both at one desk before they ran are both at that desk afterwards; nothing is said where
-- they were at two
abbrev pub StayAtDesk : {R : Type 0} → Script R → Script R → Script R × Script R → Type 0
StayAtDesk one two ran = (desk : DeskView) → one.session.desk ≡ desk → two.session.desk ≡ desk
    → (ran.0.session.desk ≡ desk) × (ran.1.session.desk ≡ desk)

-- that the tape is that of a legal history of sessions below `sessions`, of at least `calls` calls, which begins with
-- all that each of the two passes has seen
pub record IsWhole (sessions calls : ℕ) (one two : PassView) (tape : List ℕ) : Type 0 where
  pub history : List Entry
  pub is_history : IsHistory sessions history
  pub long : calls ≤ length history
  pub text : tape ≡ tape_text history
  pub first_seen : BeginsWith history one.seen
  pub second_seen : BeginsWith history two.seen

-- that `told` has the replies of both clients of an ended desk, and its tape is that of a legal history of sessions
-- below `sessions`, of at least `calls` calls, which begins with all that each client's pass has seen (`IsWhole`)
pub record EndsDesk (sessions calls : ℕ) (one two : Client) (told : Told) : Type 0 where
  pub tape : IsWhole sessions calls one.pass two.pass told.tape.items
  pub first : one.replies ≡ Some told.first
  pub second : two.replies ≡ Some told.second

-- that these replies are the whole output of a session's lines, which begin with `firsts`, served by the desk from when
-- it had seen nothing; all that it has seen then is a beginning of the history
pub record IsTold (session : ℕ) (firsts : List (List ℕ)) (replies : List ℕ) (history : List Entry) : Type 0 where
  pub before : PassView
  pub after : PassView
  pub more : List (List ℕ)
  pub least : before.least ≡ session
  pub none : before.seen ≡ []
  pub served : Goes DeskServes before (firsts ++ more) replies after
  pub begins : BeginsWith history after.seen

-- that `told` has the tape of one legal history of sessions 0 and 1, of at least `calls` calls, and the replies of
-- these two sessions, whose lines begin with `firsts` and `seconds`, as they are told in this history (`IsTold`)
pub record AreTold (calls : ℕ) (firsts seconds : List (List ℕ)) (told : Told) : Type 0 where
  pub history : List Entry
  pub is_history : IsHistory 2 history
  pub long : calls ≤ length history
  pub tape : told.tape.items ≡ tape_text history
  pub first : IsTold 0 firsts told.first.items history
  pub second : IsTold 1 seconds told.second.items history
