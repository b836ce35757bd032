-- What a stream counts, and what a tally counts of a reply.
use Rattle.std.specs.Prelude.{◌≡◌, ℕ, ◌+◌, ◌-◌, ◌^◌, ◌<◌, min, List, length, take, Option, true}
use Rattle.std.specs.Io.KnownBytes.{Appends}
use Rattle.street_stream.specs.declared.counted.Counted.{Counted}
use Rattle.street_stream.specs.declared.tally.Tally.{Tally}

-- a count one higher, but never above 2^64 - 1
abbrev pub one_more : ℕ → ℕ
one_more n = min (n + 1) (2 ^ 64 - 1)

-- that no call of this counted stream has been made: its counts of calls, failures and empty writes are 0
pub record IsFresh {T : Type 0} (c : Counted T) : Type 0 where
  pub calls : c.calls ≡ 0
  pub failures : c.failures ≡ 0
  pub empty_writes : c.empty_writes ≡ 0

-- that a call of this counted stream failed, or a write took no byte, once at least
abbrev pub HasFailed : {T : Type 0} → Counted T → Type 0
HasFailed c = 0 < c.failures + c.empty_writes

-- that each read of this reader but the first came right behind a flush of the writer that did not fail; nothing is
-- said before any read
abbrev pub IsPrompt : {T : Type 0} → Counted T → Type 0
IsPrompt reader = 0 < reader.calls → reader.is_prompt ≡ true

-- that the writer's last call was a flush that did not fail, so that none of its bytes wait in it
abbrev pub IsFlushed : {T : Type 0} → Counted T → Type 0
IsFlushed writer = writer.is_flushed ≡ true

-- that the writer has got no call more than the reader counted of it at its last read: it was not called again after
-- that read
abbrev pub IsLastRead : {R W : Type 0} → Counted R → Counted W → Type 0
IsLastRead reader writer = reader.writer_calls ≡ writer.calls

-- that the whole text was written behind what was there (`before`, `after`; nothing is said where `before` is none,
-- unknown), and that the tally counts one reply and its bytes more, and no more lines or calls
pub record IsWritten (before after : Option (List ℕ)) (text : List ℕ) (old new : Tally) : Type 0 where
  pub written : Appends before after text
  pub lines : new.lines ≡ old.lines
  pub calls : new.calls ≡ old.calls
  pub replies : new.replies ≡ old.replies + 1
  pub bytes : new.bytes ≡ old.bytes + length text

-- that only the first bytes of the text, perhaps none and not all, were written behind what was there (`before`,
-- `after`; nothing is said where `before` is none, unknown), and the tally counts these bytes more, and no more lines,
-- calls or replies
pub record IsCut (before after : Option (List ℕ)) (text : List ℕ) (old new : Tally) : Type 0 where
  pub sent : ℕ
  pub less : sent < length text
  pub written : Appends before after (take sent text)
  pub lines : new.lines ≡ old.lines
  pub calls : new.calls ≡ old.calls
  pub replies : new.replies ≡ old.replies
  pub bytes : new.bytes ≡ old.bytes + sent
