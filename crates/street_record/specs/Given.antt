-- What has become of the bytes that a writer was given.
use Rattle.std.specs.Prelude.{◌≡◌, ℕ, List, [], ◌++◌, Bool, false, Option}
use Rattle.std.specs.Io.KnownBytes.{Appends}
use Rattle.street_stream.specs.declared.counted.Counted.{Counted}

-- what contracts see of a record's writer: the counted stream that it writes to, the bytes that wait to be written, and
-- whether a write has failed
pub record WriterView (W : Type 0) : Type 0 where
  pub writer : Counted W
  pub waiting : List ℕ
  pub has_failed : Bool

-- that of the bytes `given` the first ones stand in the writer's stream behind `start`, which it held before (the
-- stream may hold anything where `start` is none), and the rest are those that wait, unless a write has failed
pub record IsGiven {W : Type 0} (contents : W → Option (List ℕ)) (start : Option (List ℕ)) (given : List ℕ) (w : WriterView W) : Type 0 where
  pub out : List ℕ
  pub rest : List ℕ
  pub written : Appends start (contents w.writer.stream) out
  pub split : given ≡ out ++ rest
  pub waits : w.has_failed ≡ false → rest ≡ w.waiting

-- that no bytes wait in the writer; nothing is said where a write has failed
abbrev pub HasNoRest : {W : Type 0} → WriterView W → Type 0
HasNoRest w = w.has_failed ≡ false → w.waiting ≡ []

-- that no write of this writer has failed and no bytes wait in it
abbrev pub IsFresh : {W : Type 0} → WriterView W → Type 0
IsFresh w = (w.has_failed ≡ false) × (w.waiting ≡ [])

-- that whatever bytes the old writer had been given (written, or waiting: `IsGiven`), the new one has been given these
-- and then `bytes`; `contents` gives what a stream holds, none where that is unknown
abbrev pub Adds : {W : Type 0} → (W → Option (List ℕ)) → List ℕ → WriterView W → WriterView W → Type 0
Adds contents bytes old new = (start : Option (List ℕ)) (given : List ℕ) → IsGiven contents start given old → IsGiven contents start (given ++ bytes) new
