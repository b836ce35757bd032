-- The calls that a run makes of its reader and its writer: what one call does is the stream's own relation, as `Source` and `Sink` of `src/ends` say.
use Rattle.std.specs.Prelude.{◌≡◌, ℕ, zero, suc, ◌+◌, ◌⊎◌, List, Result, Ok, Err}
use Rattle.std.specs.declared.io.Error.{Error}
use Rattle.street_stream.specs.declared.answer.StopCause.{StopCause}
use Rattle.street_stream.specs.declared.answer.StopCause.TheVariants.{Run, Line}
use Rattle.street_stream.specs.declared.tally.FaultKind.TheVariants.{Read, Write, Starved, Endless}

-- what kind of relation says that one read was made: of the reader and the buffer before it, what it returned, and the
-- reader and the buffer after it
abbrev pub Gives : Type 0 → Type 1
Gives R = R → List ℕ → Result ℕ Error → R → List ℕ → Type 0

-- what kind of relation says that one write was made: of the writer before it, the bytes offered, what it returned, and
-- the writer after it
abbrev pub Takes : Type 0 → Type 1
Takes W = W → List ℕ → Result ℕ Error → W → Type 0

-- what kind of relation says that one flush was made: of the writer before it, what it returned, and the writer after
-- it
abbrev pub Passes : Type 0 → Type 1
Passes W = W → Result (Unit {0}) Error → W → Type 0

-- ---- the writer

-- that the writer got exactly n writes, of whatever bytes and whatever each returned, and no other call
abbrev pub AreWrites : {W : Type 0} → Takes W → ℕ → W → W → Type 0
AreWrites takes zero old new = new ≡ old
AreWrites {W} takes (suc n) old new = (mid : W) × (bytes : List ℕ) × (result : Result ℕ Error) × AreWrites takes n old mid × takes mid bytes result new

-- that the writer got some number of writes, perhaps none, and no other call
abbrev pub OnlyWrites : {W : Type 0} → Takes W → W → W → Type 0
OnlyWrites takes old new = (n : ℕ) × AreWrites takes n old new

-- that the writer got some writes, perhaps none, and then one flush, which did not fail, and no other call
abbrev pub PassesOn : {W : Type 0} → Takes W → Passes W → W → W → Type 0
PassesOn {W} takes passes old new = (mid : W) × OnlyWrites takes old mid × passes mid (Ok tt) new

-- that the writer got some writes, perhaps none, and then at most one flush, which failed, and no other call
abbrev pub IsCutShort : {W : Type 0} → Takes W → Passes W → W → W → Type 0
IsCutShort {W} takes passes old new = OnlyWrites takes old new ⊎ ((mid : W) × (error : Error) × OnlyWrites takes old mid × passes mid (Err error) new)

-- ---- the reader

-- that the reader got exactly one read, with whatever buffer, whatever it returned
abbrev pub IsRead : {R : Type 0} → Gives R → R → R → Type 0
IsRead gives old new = (buffer : List ℕ) × (result : Result ℕ Error) × (filled : List ℕ) × gives old buffer result new filled

-- that the reader got exactly one read, with whatever buffer, and that it failed
abbrev pub IsReadThatFailed : {R : Type 0} → Gives R → R → R → Type 0
IsReadThatFailed gives old new = (buffer : List ℕ) × (error : Error) × (filled : List ℕ) × gives old buffer (Err error) new filled

-- ---- both

module _ {R W : Type 0} (gives : Gives R) (takes : Takes W) (passes : Passes W) where
  -- that reader and writer got exactly n rounds and no other call; a round is one read, whatever it returned, then
  -- writes, perhaps none, then a flush that did not fail
  abbrev pub AreRounds : ℕ → R → W → R → W → Type 0
  AreRounds zero reader writer read written = (read ≡ reader) × (written ≡ writer)
  AreRounds (suc n) reader writer read written =
      (mid : R) × (between : W) × AreRounds n reader writer mid between × IsRead gives mid read × PassesOn takes passes between written

  -- that reader and writer got n - 1 whole rounds (a read, writes, a flush that did not fail), then one last read as
  -- `reads` says and behind it the calls of the writer that `writes` says; n is at least 1
  abbrev pub EndsIn : (R → R → Type 0) → (W → W → Type 0) → ℕ → R → W → R → W → Type 0
  EndsIn reads writes n reader writer read written =
      (rounds : ℕ) × (mid : R) × (between : W) × (n ≡ rounds + 1) × AreRounds rounds reader writer mid between × reads mid read × writes between written

  -- which calls a run of n reads made before it stopped for this cause: n whole rounds where reads ran out; else n - 1
  -- rounds and a last read, which failed with no call of the writer behind it (`Read`), or, failed or not, was followed
  -- by writes, perhaps none, and at most one flush, a failed one
  abbrev pub BreaksOff : {S : Type 0} → StopCause S → ℕ → R → W → R → W → Type 0
  BreaksOff (Run Read) n = EndsIn (IsReadThatFailed gives) (λ old new. new ≡ old) n
  BreaksOff (Run Endless) n = AreRounds n
  BreaksOff (Run Write) n = EndsIn (IsRead gives) (IsCutShort takes passes) n
  BreaksOff (Run Starved) n = EndsIn (IsRead gives) (IsCutShort takes passes) n
  BreaksOff (Line stop) n = EndsIn (IsRead gives) (IsCutShort takes passes) n
