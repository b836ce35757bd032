-- What causes each fault of a run, where in the run it comes, and what it leaves counted.
use Rattle.std.specs.Prelude.{◌≡◌, ℕ, ◌+◌, ◌<◌, ◌⊎◌, List, length, ⊤}
use Rattle.street_stream.specs.Streams.{HasFailed, IsLastRead}
use Rattle.street_stream.specs.declared.answer.StopCause.{StopCause}
use Rattle.street_stream.specs.declared.answer.StopCause.TheVariants.{Run, Line}
use Rattle.street_stream.specs.declared.counted.Counted.{Counted}
use Rattle.street_stream.specs.declared.tally.FaultKind.{FaultKind}
use Rattle.street_stream.specs.declared.tally.FaultKind.TheVariants.{Read, Write, Starved, Endless}
use Rattle.street_stream.specs.declared.tally.Tally.{Tally}

-- ---- causes

-- that the writer counted the cause of this fault where nothing is read: for `Write`, that a call of it failed or took
-- no byte; for lack of memory nothing is asked; false for the faults of reading, which cannot come there
abbrev pub IsCausedByWriting : {W : Type 0} → FaultKind → Counted W → Type 0
IsCausedByWriting Write writer = HasFailed writer
IsCausedByWriting Starved writer = ⊤
IsCausedByWriting Read writer = ⊥
IsCausedByWriting Endless writer = ⊥

-- that the streams counted the cause of this fault: a read that failed, with no call of the writer since the last read;
-- exactly as many reads as allowed; or a writer's call that failed or took no byte; of lack of memory nothing is said
abbrev pub IsCaused : {R W : Type 0} → FaultKind → Counted R → Counted W → ℕ → Type 0
IsCaused Read reader writer reads = (0 < reader.failures) × IsLastRead reader writer
IsCaused Endless reader writer reads = reader.calls ≡ reads
IsCaused Write reader writer reads = IsCausedByWriting Write writer
IsCaused Starved reader writer reads = IsCausedByWriting Starved writer

-- that the streams counted the fault that ended a run early (a failed read, as many reads as allowed, or a failed write
-- or flush); nothing is said where a line ended the run or memory ran out
abbrev pub IsCausedBy : {S R W : Type 0} → StopCause S → Counted R → Counted W → ℕ → Type 0
IsCausedBy (Run kind) reader writer reads = IsCaused kind reader writer reads
IsCausedBy (Line stop) reader writer reads = ⊤

-- that the writer counted why a run stopped while a line was handled: a failed or empty write or a failed flush, no
-- fault of reading; nothing is said where that line ended the run or memory ran out
abbrev pub IsCausedByLine : {S W : Type 0} → StopCause S → Counted W → Type 0
IsCausedByLine (Run kind) writer = IsCausedByWriting kind writer
IsCausedByLine (Line stop) writer = ⊤

-- ---- places

-- that a fault of this kind comes at a read: a read that failed (`Read`), or reads that ran out (`Endless`); false of
-- `Write` and `Starved`, whether they come while a line is handled or behind the lines
abbrev pub IsAtRead : FaultKind → Type 0
IsAtRead Read = ⊤
IsAtRead Endless = ⊤
IsAtRead Write = ⊥
IsAtRead Starved = ⊥

-- ---- counts

-- that a tally counts exactly the lines that were done, or one more where memory ran out
abbrev pub CountsLines : FaultKind → Tally → List (List ℕ) → Type 0
CountsLines kind tally done = (tally.lines ≡ length done) ⊎ ((kind ≡ Starved) × (tally.lines ≡ length done + 1))

-- that the tally counts all bytes of an output and all of its replies; or fewer bytes and one reply less, as the last
-- one is cut off
abbrev pub CountsReplies : Tally → List ℕ → ℕ → Type 0
CountsReplies tally out replies =
    ((tally.bytes ≡ length out) × (tally.replies ≡ replies)) ⊎ ((tally.bytes < length out) × (tally.replies + 1 ≡ replies))
