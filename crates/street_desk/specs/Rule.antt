-- The rule of the desk's table, which holds between any two steps of its threads. The table's word is twice the count
-- of finished calls, and one more during a turn; its slot holds the engine with its journal, or nothing during a turn.
use Rattle.std.specs.Prelude.{◌≡◌, ◌≢◌, ◌⊎◌, ℕ, ◌+◌, ◌-◌, ◌*◌, ◌<◌, ◌≤◌, List, [], ◌∷◌, length, true, false, Option, Some}
use mathlib.Core.Option as maybe
use lib.ListN.{get_elem?}
use Rattle.atomic_table.specs.Table.{State}
use Rattle.street_desk.specs.declared.journal.Entry.{Entry}
use Rattle.street_desk.specs.declared.view.SeatView.{SeatView}
use Rattle.street_desk.specs.History.{IsHistory, BeginsWith, calls_of}

-- what lies in the table's slot: an engine whose journal is `history`, with room for `calls` calls in all, those of the
-- journal among them
pub record Recorded : Type 0 where
  pub history : List Entry
  pub calls : ℕ

-- what lies in the table's slot: an engine with this journal, which has room for so many calls in all (`Recorded`)
abbrev pub recorded : List Entry → ℕ → Recorded
recorded history calls = record { history = history; calls = calls }

-- who has the turn at the desk: the number of that seat; none where nobody has it
abbrev pub Turn : Type 0
Turn = maybe.Option ℕ

-- the lowest bit of the table's word: 1 while a seat has the turn, else 0
abbrev pub turn_bit : Turn → ℕ
turn_bit maybe.none = 0
turn_bit (maybe.some seat) = 1

-- what the table's slot holds: the engine with its journal (r) where nobody has the turn; nothing where a seat has it
-- in hand
abbrev pub home_of : Turn → Recorded → maybe.Option (Option Recorded)
home_of maybe.none r = maybe.some (Some r)
home_of (maybe.some seat) r = maybe.none

-- that what seat `seat`'s view v says is true: the history, of `count` calls or more, begins with what it has seen, and
-- with what it heard; with the turn, it has seen all; where it owns sessions, no call bears them but seen ones of the
-- least; where it is live, limit and count of sessions are the desk's
pub record Knows (calls sessions : ℕ) (history : List Entry) (busy : Turn) (seat : ℕ) (v : SeatView) : Type 0 where
  pub seen : BeginsWith history v.seen
  pub also : BeginsWith history v.also
  pub count : v.count ≤ length history
  pub turn : v.turn ≡ true → (busy ≡ maybe.some seat) × (v.seen ≡ history)
  pub range : v.owns ≡ true → (v.least ≤ v.greatest) × (v.greatest < sessions)
  pub own : v.owns ≡ true → calls_of v.least history ≡ calls_of v.least v.seen
  pub unused : v.owns ≡ true → (n : ℕ) → v.least < n → n ≤ v.greatest → calls_of n history ≡ []
  pub limits : v.live ≡ true → (v.calls ≡ calls) × (v.sessions ≡ sessions)

-- that two views have no session in common: the sessions of one, least to greatest, are all below those of the other;
-- nothing is said where one of them owns none
abbrev pub Apart : SeatView → SeatView → Type 0
Apart v w = v.owns ≡ true → w.owns ≡ true → (v.greatest < w.least) ⊎ (w.greatest < v.least)

-- that no two seats, by their positions, have a session in common, where both own sessions (`Apart`)
abbrev pub AllApart : List SeatView → Type 0
AllApart views = (i j : ℕ) (v w : SeatView) → i ≢ j → get_elem? views i ≡ maybe.some v → get_elem? views j ≡ maybe.some w → Apart v w

-- that one legal history explains the table: twice its length and the turn's bit make the word, it is the journal in
-- the slot while nobody has the turn, it fits, each seat's view is true of it (`Knows`), and no two share a session
pub record KeepsRule (calls sessions : ℕ) (s : State (Option Recorded) SeatView) : Type 0 where
  pub history : List Entry
  pub turn : Turn
  pub word : s.words ≡ (2 * length history + turn_bit turn) ∷ []
  pub home : s.homes ≡ home_of turn (recorded history calls) ∷ []
  pub is_history : IsHistory sessions history
  pub room : length history ≤ calls
  pub seats : (j : ℕ) (v : SeatView) → get_elem? s.views j ≡ maybe.some v → Knows calls sessions history turn j v
  pub apart : AllApart s.views

-- the view of the first seat, at a desk with room for `calls` calls: live, without the turn, it has seen and heard
-- nothing, counts no call, and owns all sessions, 0 to `sessions - 1`; session 0 alone where `sessions` is 0
abbrev pub first_view : ℕ → ℕ → SeatView
first_view calls sessions = record {
  seen = [];
  also = [];
  count = 0;
  turn = false;
  owns = true;
  least = 0;
  greatest = sessions - 1;
  calls = calls;
  sessions = sessions;
  live = true;
}
