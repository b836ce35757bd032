-- What contracts see of a desk, of passes and of notes, and what each call tells.
use Rattle.std.specs.Prelude.{◌<◌, ◌≡◌, ℕ, ◌-◌, ◌≤◌, List, [], ◌∷◌, ◌++◌, length, true, false, Result, MatchResult}
use Rattle.atomic_table.specs.Seated.{TableId}
use Rattle.street_base.specs.declared.command.Command.{Command}
use Rattle.street_base.specs.declared.reply.Outcome.{Outcome}
use Rattle.street_base.specs.declared.reply.Reply.{Reply}
use Rattle.street_base.specs.Prelude.{reply_to}
use Rattle.street_desk.specs.declared.faults.Full.{Full}
use Rattle.street_desk.specs.declared.journal.Entry.{Entry}
use Rattle.street_desk.specs.declared.view.SeatView.{SeatView}
use Rattle.street_desk.specs.History.{entry, state_of, calls_of, BeginsWith, IsHistory}

-- ---- what contracts see

-- what contracts see of a desk: the table that it is, `calls`, the most calls that its journal takes, and its count of
-- sessions
pub record DeskView : Type 0 where
  pub table : TableId
  pub calls : ℕ
  pub sessions : ℕ

-- what contracts see of a pass: its desk, the history that it has `seen`, `count`, how many finished calls it knows of,
-- and its sessions, `least` to `greatest`, both with them; its calls bear the number `least`
pub record PassView : Type 0 where
  pub desk : DeskView
  pub seen : List Entry
  pub count : ℕ
  pub least : ℕ
  pub greatest : ℕ

-- what contracts see of a note that a pass made: the desk, the history that the pass had `seen`, and `count`, how many
-- finished calls it knew of
pub record NoteView : Type 0 where
  pub desk : DeskView
  pub seen : List Entry
  pub count : ℕ

-- the desk, as contracts see it, of a seat of view v at this table: the table, and the most calls and the count of
-- sessions that v has
abbrev pub desk_view : TableId → SeatView → DeskView
desk_view t v = record { table = t; calls = v.calls; sessions = v.sessions }

-- a pass, as contracts see it, by the view v of its seat at this table: the desk, what it has seen, its count of
-- finished calls, and its least and greatest session
abbrev pub pass_view : TableId → SeatView → PassView
pass_view t v = record { desk = desk_view t v; seen = v.seen; count = v.count; least = v.least; greatest = v.greatest }

-- a note, as contracts see it, by the view v of its seat at this table: the desk, what it has seen, and its count of
-- finished calls
abbrev pub note_view : TableId → SeatView → NoteView
note_view t v = record { desk = desk_view t v; seen = v.seen; count = v.count }

-- that a seat's view is that of a pass between two calls: no turn, sessions of its own, live (no spent note's), nothing
-- heard, a legal history seen, in which no call bears one of its sessions but the least
pub record Rests (v : SeatView) : Type 0 where
  pub turn : v.turn ≡ false
  pub owns : v.owns ≡ true
  pub live : v.live ≡ true
  pub also : v.also ≡ []
  pub seen : IsHistory v.sessions v.seen
  pub unused : (n : ℕ) → v.least < n → n ≤ v.greatest → calls_of n v.seen ≡ []

-- ---- what calls tell

-- that pass q is at the same desk as pass p, with the same sessions
abbrev pub Same : PassView → PassView → Type 0
Same p q = (q.desk ≡ p.desk) × (q.least ≡ p.least) × (q.greatest ≡ p.greatest)

-- that pass p called and is q then: q has seen a legal history that begins with all that p had seen, with no fewer
-- calls before this one than p knew of, and ends with this call, the one new call of p's least session; the desk had
-- room, and the reply is the machine's there; q knows of no fewer calls, at the same desk with the same sessions
pub record Answered (p : PassView) (command : Command) (answer : Reply) (q : PassView) : Type 0 where
  pub before : List Entry
  pub outcome : Outcome
  pub begins : BeginsWith before p.seen
  pub count : p.count ≤ length before
  pub room : length before < p.desk.calls
  pub seen : q.seen ≡ before ++ entry p.least command outcome ∷ []
  pub is_history : IsHistory p.desk.sessions q.seen
  pub reply : answer ≡ reply_to (state_of before) command outcome
  pub own : calls_of p.least q.seen ≡ calls_of p.least p.seen ++ entry p.least command outcome ∷ []
  pub kept : p.count ≤ q.count
  pub same : Same p q

-- that pass q is pass p after a look at the desk: it has seen a legal history that begins with what p had seen, with no
-- new call of p's least session, knows of no fewer calls, and has the same desk and sessions
pub record Learns (p q : PassView) : Type 0 where
  pub is_history : IsHistory p.desk.sessions q.seen
  pub begins : BeginsWith q.seen p.seen
  pub own : calls_of p.least q.seen ≡ calls_of p.least p.seen
  pub kept : p.count ≤ q.count
  pub same : Same p q

-- that pass p found the desk's journal full, and is q then, after a look (`Learns`): q has seen as many calls as the
-- desk takes, and p knew of no more than these
pub record Filled (p q : PassView) : Type 0 where
  pub learns : Learns p q
  pub long : length q.seen ≡ p.desk.calls
  pub count : p.count ≤ length q.seen

-- that a call of pass p came back either with its reply (`Answered`), or, as the journal was full (`Filled`), with the
-- command itself and the count `calls`; q is the pass then
abbrev pub Told : PassView → Command → ℕ → Result Reply Full → PassView → Type 0
Told p command calls told q =
    MatchResult told (λ r. Answered p command r q) (λ f. (f.command ≡ command) × (f.served ≡ calls) × Filled p q)

-- that pass p was told that n calls are finished, and is q then, after a look (`Learns`): it knows of n finished calls,
-- and has seen no more than n
pub record ServedCount (p : PassView) (n : ℕ) (q : PassView) : Type 0 where
  pub learns : Learns p q
  pub count : q.count ≡ n
  pub long : length q.seen ≤ n

-- that pass p heard a note, and is q then, after a look (`Learns`): q's history begins with all that p had seen and
-- with all that the note's maker had seen, and q knows of at least as many calls as either
pub record Heard (p : PassView) (note : NoteView) (q : PassView) : Type 0 where
  pub learns : Learns p q
  pub heard : BeginsWith q.seen note.seen
  pub count : note.count ≤ q.count

-- that this is the journal of p's desk at its end: a legal history that begins with all that p has seen, of no fewer
-- calls than p knows of and no more than the desk takes, and with no further call of p's least session
pub record Finished (p : PassView) (journal : List Entry) : Type 0 where
  pub is_history : IsHistory p.desk.sessions journal
  pub room : length journal ≤ p.desk.calls
  pub begins : BeginsWith journal p.seen
  pub count : p.count ≤ length journal
  pub own : calls_of p.least journal ≡ calls_of p.least p.seen

-- ---- passes made

-- the first pass of a desk: it has seen nothing, knows of no call, and all sessions are its own, 0 to `sessions - 1`;
-- session 0 alone where `sessions` is 0
abbrev pub first_pass : DeskView → PassView
first_pass d = record { desk = d; seen = []; count = 0; least = 0; greatest = d.sessions - 1 }

-- what stays of a pass that is split: the pass without its greatest session, and else as it was; with session 0 alone
-- it stays as it was
abbrev pub without_last : PassView → PassView
without_last p = record p { greatest = p.greatest - 1 }

-- what is given away of a pass that is split: a pass of the same desk that has seen the same and knows the same count,
-- with the greatest session alone
abbrev pub of_last : PassView → PassView
of_last p = record p { least = p.greatest }

-- that the least session of the pass, whose number its calls bear, has made no call in the history that the pass has
-- seen
abbrev pub OwnsUnused : PassView → Type 0
OwnsUnused p = calls_of p.least p.seen ≡ []
