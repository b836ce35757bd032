-- Writes after writes, and what a run called that broke behind a read.
use Rattle.std.proofs.Common.{◌≡◌, ℕ, zero, suc, ◌+◌, refl, subst, sym, arith}
use Rattle.street_stream.specs.Calls.{Gives, Takes, Passes, AreWrites, OnlyWrites, PassesOn, IsCutShort, IsRead, AreRounds, EndsIn, BreaksOff}
use Rattle.street_stream.specs.Faults.{IsCausedByLine}
use Rattle.street_stream.specs.declared.answer.StopCause.{StopCause}
use Rattle.street_stream.specs.declared.answer.StopCause.TheVariants.{Run, Line}
use Rattle.street_stream.specs.declared.counted.Counted.{Counted}
use Rattle.street_stream.specs.declared.tally.FaultKind.TheVariants.{Read, Write, Starved, Endless}

pub no_writes : {W : Type 0} (takes : Takes W) (writer : W) → OnlyWrites takes writer writer
no_writes takes writer = (0, refl)

more_writes : {W : Type 0} (takes : Takes W) (n : ℕ) (old mid new : W) → OnlyWrites takes old mid → AreWrites takes n mid new → OnlyWrites takes old new
more_writes takes zero old mid new first same = subst (λ w. OnlyWrites takes old w) (sym same) first
more_writes takes (suc n) old mid new first then =
    let before = more_writes takes n old mid then.0 first then.3 in
    (suc before.0, (then.0, then.1, then.2, before.1, then.4))

pub writes_more : {W : Type 0} (takes : Takes W) (old mid new : W) → OnlyWrites takes old mid → OnlyWrites takes mid new → OnlyWrites takes old new
writes_more takes old mid new first then = more_writes takes then.0 old mid new first then.1

module _ {R W : Type 0} (gives : Gives R) (takes : Takes W) (passes : Passes W) where
  pub one_round : (n : ℕ) (reader : R) (writer : W) (mid : R) (between : W) (read : R) (written : W) → AreRounds gives takes passes n reader writer mid between
      → IsRead gives mid read → PassesOn takes passes between written → AreRounds gives takes passes (n + 1) reader writer read written
  one_round n reader writer mid between read written before reads on =
      let one : suc n ≡ n + 1 = omega arith in
      subst (λ m. AreRounds gives takes passes m reader writer read written) one (mid, between, before, reads, on)

  pub breaks_off : {S : Type 0} (cause : StopCause S) (told : Counted W) (n : ℕ) (reader : R) (writer : W) (read : R) (written : W) → IsCausedByLine cause told
      → EndsIn gives takes passes (IsRead gives) (IsCutShort takes passes) n reader writer read written → BreaksOff gives takes passes cause n reader writer read written
  breaks_off (Run Read) told n reader writer read written caused ends = absurd caused
  breaks_off (Run Endless) told n reader writer read written caused ends = absurd caused
  breaks_off (Run Write) told n reader writer read written caused ends = ends
  breaks_off (Run Starved) told n reader writer read written caused ends = ends
  breaks_off (Line stop) told n reader writer read written caused ends = ends
