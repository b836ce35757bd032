-- What is written of a tape.
use Rattle.std.specs.Prelude.{◌≡◌, ℕ, ◌+◌, ◌≤◌, List, length, take, Option}
use Rattle.std.specs.Io.KnownBytes.{Appends}
use Rattle.street_stream.specs.declared.counted.Counted.{Counted}
use Rattle.street_stream.specs.declared.tally.FaultKind.{FaultKind}
use Rattle.street_stream.specs.Faults.{IsCausedByWriting}

-- that the first bytes of the text were written, perhaps all or none, from contents `before` to `after` (none where
-- unknown), and the count went from `old` to `new` by their number
pub record IsPrefix (before : Option (List ℕ)) (old : ℕ) (text : List ℕ) (after : Option (List ℕ)) (new : ℕ) : Type 0 where
  pub sent : ℕ
  pub within : sent ≤ length text
  pub written : Appends before after (take sent text)
  pub counted : new ≡ old + sent

module _ {W : Type 0} (contents : W → Option (List ℕ)) where
  -- that the whole text is in the writer behind what it had, and `bytes` is its count of bytes
  abbrev pub WritesAll : Counted W → List ℕ → Counted W → ℕ → Type 0
  WritesAll old text new bytes = (bytes ≡ length text) × Appends (contents old.stream) (contents new.stream) text

  -- that the first `bytes` bytes of the text, perhaps all or none, are in the writer behind what it had, and the
  -- writing ended there for memory or as a call of the writer failed or took no byte
  abbrev pub WritesFirst : Counted W → List ℕ → Counted W → ℕ → FaultKind → Type 0
  WritesFirst old text new bytes kind = IsCausedByWriting kind new × IsPrefix (contents old.stream) 0 text (contents new.stream) bytes
