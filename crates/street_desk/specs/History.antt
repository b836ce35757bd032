-- Histories: lists of calls, which of them are legal, and whose calls they have.
use Rattle.std.specs.Prelude.{◌≡◌, ◌==◌, ◌<◌, ℕ, List, [], ◌∷◌, ◌++◌, None, if◌then◌else◌}
use Rattle.street_base.specs.declared.command.Command.{Command}
use Rattle.street_base.specs.declared.reply.Outcome.{Outcome}
use Rattle.street_base.specs.declared.reply.Reply.{Reply}
use Rattle.street_base.specs.Prelude.{State, Allows, state_after, reply_to}
use Rattle.street_desk.specs.declared.journal.Entry.{Entry}

-- the entry of a history for one call: the number of its session, its command, and its outcome, how far it was done
abbrev pub entry : ℕ → Command → Outcome → Entry
entry session command outcome = record { session = session; command = command; outcome = outcome }

-- the machine's state after these calls, made one after another from state m, each with its own outcome; m where there
-- is none
abbrev pub state_from : State → List Entry → State
state_from m [] = m
state_from m (e ∷ es) = state_from (state_after m e.command e.outcome) es

-- that each call's outcome is one that the machine allows in the state that the calls before it have led to, from state
-- m on
abbrev pub IsLegalFrom : State → List Entry → Type 0
IsLegalFrom m [] = Unit {0}
IsLegalFrom m (e ∷ es) = Allows m e.command e.outcome × IsLegalFrom (state_after m e.command e.outcome) es

-- the machine's state after the calls of a history, which begins with nothing loaded; nothing loaded where it is empty
abbrev pub state_of : List Entry → State
state_of history = state_from None history

-- that a history is legal from nothing loaded on: each call's outcome is one that the machine allows in the state that
-- the calls before it led to
abbrev pub IsLegal : List Entry → Type 0
IsLegal history = IsLegalFrom None history

-- the machine's reply to each of these calls from state m on, with the call's outcome
abbrev pub answers_from : State → List Entry → List (Reply × Outcome)
answers_from m [] = []
answers_from m (e ∷ es) = (reply_to m e.command e.outcome, e.outcome) ∷ answers_from (state_after m e.command e.outcome) es

-- the machine's replies to the calls of a history, with their outcomes, from nothing loaded on
abbrev pub answers_of : List Entry → List (Reply × Outcome)
answers_of history = answers_from None history

-- that the number of each call's session is below n
abbrev pub AllBelow : ℕ → List Entry → Type 0
AllBelow n [] = Unit {0}
AllBelow n (e ∷ es) = (e.session < n) × AllBelow n es

-- the calls of one session, in the order of the history
abbrev pub calls_of : ℕ → List Entry → List Entry
calls_of session [] = []
calls_of session (e ∷ es) = if e.session == session then e ∷ calls_of session es else calls_of session es

-- that `history` begins with all calls of `seen`, in their order
abbrev pub BeginsWith : List Entry → List Entry → Type 0
BeginsWith history seen = (rest : List Entry) × (history ≡ seen ++ rest)

-- that the history is legal from nothing loaded on, each outcome one that the machine allows where its call stands, and
-- each of its calls is of one of the desk's sessions, 0 to `sessions - 1`
pub record IsHistory (sessions : ℕ) (history : List Entry) : Type 0 where
  pub legal : IsLegal history
  pub below : AllBelow sessions history
