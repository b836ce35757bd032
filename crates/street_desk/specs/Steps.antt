-- What each step at the desk's table does to a view, and what it tells.
use Rattle.std.specs.Prelude.{◌≡◌, ◌≢◌, ℕ, ◌+◌, ◌-◌, ◌*◌, ◌%◌, ◌/◌, ◌<◌, ◌≤◌, List, [], ◌∷◌, ◌++◌, length, Bool, true, false, leb, if◌then◌else◌, Option, Some}
use Rattle.atomic_table.specs.Table.{Me, Step}
use Rattle.street_base.specs.declared.command.Command.{Command}
use Rattle.street_base.specs.declared.reply.Outcome.{Outcome}
use Rattle.street_base.specs.declared.reply.Reply.{Reply}
use Rattle.street_base.specs.Prelude.{reply_to}
use Rattle.street_desk.specs.declared.journal.Entry.{Entry}
use Rattle.street_desk.specs.declared.view.SeatView.{SeatView}
use Rattle.street_desk.specs.History.{entry, state_of, IsLegal, AllBelow, BeginsWith, calls_of}
use Rattle.street_desk.specs.Rule.{Recorded, recorded}

-- a seat as a thread holds it: its view, and the slots of the table that it has in hand, each with its number
abbrev pub Sat : Type 0
Sat = Me (Option Recorded) SeatView

-- ---- a load and a turn

-- the view after a load of the table's word: it has seen this history, knows of so many finished calls, and has nothing
-- heard left; all else of it is as it was
abbrev pub looked : SeatView → List Entry → ℕ → SeatView
looked v seen count = record v { seen = seen; also = []; count = count }

-- the view as a turn begins or ends: it has seen this history, has the turn or not, and has nothing heard left; all
-- else of it, its count too, is as it was
abbrev pub with_turn : SeatView → List Entry → Bool → SeatView
with_turn v seen turn = record v { seen = seen; also = []; turn = turn }

-- that a seat of view v may now see this history: it is legal and begins with all that v had seen and with all heard;
-- where v is live, its calls are of the desk's sessions; where v owns sessions, it has no call of these but those of
-- the least one that v had seen
pub record Sees (v : SeatView) (history : List Entry) : Type 0 where
  pub legal : IsLegal history
  pub below : v.live ≡ true → AllBelow v.sessions history
  pub inside : v.owns ≡ true → v.live ≡ true → v.least < v.sessions
  pub seen : BeginsWith history v.seen
  pub also : BeginsWith history v.also
  pub own : v.owns ≡ true → calls_of v.least history ≡ calls_of v.least v.seen
  pub unused : v.owns ≡ true → (n : ℕ) → v.least < n → n ≤ v.greatest → calls_of n history ≡ []

-- that a load found the word n, and made view v into w: n / 2 is the count of finished calls, no less than v's and,
-- where v is live, no more than the desk takes; w has seen at most these, and all where n is even, as nobody has the
-- turn then
pub record Looks (v : SeatView) (n : ℕ) (w : SeatView) : Type 0 where
  pub is : w ≡ looked v w.seen (n / 2)
  pub sees : Sees v w.seen
  pub count : v.count ≤ n / 2
  pub long : length w.seen ≤ n / 2
  pub even : n % 2 ≡ 0 → 2 * length w.seen ≡ n
  pub limit : v.live ≡ true → n ≤ 2 * v.calls + 1

-- that a seat's load found the table's word to be n: its slots in hand stay as they are, and its view then counts n / 2
-- finished calls and has seen at most these (`Looks`)
abbrev pub look : Step (Option Recorded) → Sat → ℕ → Sat → Type 0
look st m n m' = (m'.1 ≡ m.1) × Looks m.0 n m'.0

-- that a compare-exchange at the word n gave the seat the turn: its view w has now seen the whole history, of n / 2
-- calls and no fewer than v counted, and it has the engine with that journal in hand
pub record Grabs (v : SeatView) (n : ℕ) (w : SeatView) (slots : List (ℕ × Option Recorded)) : Type 0 where
  pub is : w ≡ with_turn v w.seen true
  pub sees : Sees v w.seen
  pub count : v.count ≤ length w.seen
  pub word : 2 * length w.seen ≡ n
  pub taken : slots ≡ (0, Some (recorded w.seen v.calls)) ∷ []

-- that a seat's compare-exchange found the table's word to be n: where the seat expected n, it has won the turn and has
-- the engine in hand (`Grabs`), else nothing has changed for it
abbrev pub grab : Step (Option Recorded) → Sat → ℕ → Sat → Type 0
grab st m n m' = (n ≡ st.first → Grabs m.0 n m'.0 m'.1) × (n ≢ st.first → m' ≡ m)

-- that the store which ends a turn has taken the engine from the seat's hand: the seat has no turn, nothing in hand,
-- and has seen the engine's journal; nothing is said where just slot 0 with an engine was not in hand
abbrev pub release : Step (Option Recorded) → Sat → ℕ → Sat → Type 0
release st m n m' = (r : Recorded) → m.1 ≡ (0, Some r) ∷ [] → m' ≡ (with_turn m.0 r.history false, [])

-- that a seat used its turn for one call of this session: under some outcome the history that it had seen, with the
-- call behind, is legal and the reply is the machine's there; it has then seen this, no turn and nothing in hand
abbrev pub Calls : SeatView → ℕ → Command → Reply → Sat → Type 0
Calls v session command reply after = (o : Outcome)
    × (reply ≡ reply_to (state_of v.seen) command o)
    × IsLegal (v.seen ++ entry session command o ∷ [])
    × (after ≡ (with_turn v (v.seen ++ entry session command o ∷ []) false, []))

-- ---- seats split and joined

-- the view that stays of a seat that is split: its sessions but the greatest (session 0 alone stays), with nothing
-- heard and no turn; all else of it is as it was
abbrev pub kept_half : SeatView → SeatView
kept_half v = record v { also = []; turn = false; greatest = v.greatest - 1 }

-- the view that is given away of a seat that is split: it has seen the same and knows the same count, with the greatest
-- session alone, nothing heard and no turn
abbrev pub given_half : SeatView → SeatView
given_half v = record v { also = []; turn = false; least = v.greatest }

-- the view of a note's seat: it has seen what the pass has and knows its count, and has no session, no turn and nothing
-- heard; the desk's limits, and whether it is live, are as the pass has them
abbrev pub noted : SeatView → SeatView
noted v = record v { also = []; turn = false; owns = false; least = 0; greatest = 0 }

-- the longer of two histories; the first where they are of one length
abbrev pub longer : List Entry → List Entry → List Entry
longer a b = if leb (length b) (length a) then a else b

-- the greater of two numbers
abbrev pub most : ℕ → ℕ → ℕ
most a b = if leb b a then a else b

-- the view of a pass v that has heard a note of view w: it keeps what w had seen beside its own until its next load,
-- takes the greater of both counts, and has no turn
abbrev pub heard : SeatView → SeatView → SeatView
heard v w = record v { also = w.seen; count = most v.count w.count; turn = false }

-- the view of a note's seat once the note was heard: it has seen nothing, counts nothing, has no session, and is not
-- live
abbrev pub spent_view : SeatView
spent_view = record { seen = []; also = []; count = 0; turn = false; owns = false; least = 0; greatest = 0; calls = 0; sessions = 0; live = false }
