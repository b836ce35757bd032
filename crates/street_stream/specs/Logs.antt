-- What a log holds, and what a text that follows it finds there.
use Rattle.std.specs.Prelude.{◌≡◌, ℕ, ◌≤◌, List, length, take, Option}
use Rattle.std.specs.Io.KnownBytes.{Appends}
use Rattle.street_stream.specs.Streams.{HasFailed}
use Rattle.street_stream.specs.declared.counted.Counted.{Counted}
use Rattle.street_stream.specs.declared.log.KeepFault.{KeepFault}
use Rattle.street_stream.specs.declared.log.KeepFault.TheVariants.{Log, Output}

-- that the new contents are the old ones with some bytes, perhaps none, behind them; nothing is said where the old
-- contents are unknown (none)
abbrev pub Extends : Option (List ℕ) → Option (List ℕ) → Type 0
Extends old new = (more : List ℕ) × Appends old new more

module _ {L W : Type 0} (held synced : L → Option (List ℕ)) (has_failed : L → Type 0) (contents : W → Option (List ℕ)) where
  -- what a fault left: where the log failed, first bytes of the entries, perhaps none or all, came onto it, as many of
  -- them or fewer are synced, and the writer is as it was; where the writer failed, all entries are held, all that is
  -- held is synced, and first bytes of the replies, perhaps none or all, are written
  abbrev pub KeepStops : L → Counted W → List ℕ → List ℕ → L → Counted W → KeepFault → Type 0
  KeepStops old writer entries replies new written Log =
      (written ≡ writer) × ((sent : ℕ) × (stayed : ℕ) × (stayed ≤ sent) × Appends (held old) (held new) (take sent entries) × Appends (synced old) (synced new) (take stayed entries))
      × has_failed new
  KeepStops old writer entries replies new written Output =
      Appends (held old) (held new) entries × (synced new ≡ held new)
      × ((sent : ℕ) × (sent ≤ length replies) × Appends (contents writer.stream) (contents written.stream) (take sent replies)) × HasFailed written
