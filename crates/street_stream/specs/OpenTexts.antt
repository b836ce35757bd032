-- A text whose lines are handled a part at a time.
use Rattle.std.specs.Prelude.{◌≡◌, ℕ, ◌+◌, List, [], ◌∷◌, ◌++◌, length, Option}
use Rattle.std.specs.Io.KnownBytes.{Appends}
use Rattle.street_stream.specs.HandledLines.{Effect, Meaning, Handles, output, IsTally}
use Rattle.street_stream.specs.Lines.{cut, if_any, lines_of, IsInsideLine, IsPart}
use Rattle.street_stream.specs.declared.answer.StopCause.{StopCause}
use Rattle.street_stream.specs.declared.answer.StopCause.TheVariants.{Run, Line}
use Rattle.street_stream.specs.declared.counted.Counted.{Counted}
use Rattle.street_stream.specs.declared.open_text.OpenText.{OpenText}
use Rattle.street_stream.specs.declared.tally.Tally.{Tally}

-- that `line` is what has come so far of the last line of an open text, which may have `most` bytes and of which the
-- text keeps one byte more at most; no LF has come yet
pub record IsOpen (most : ℕ) (text : OpenText) (line : List ℕ) : Type 0 where
  pub part : IsPart most text.progress.part line
  pub inside : IsInsideLine line

-- that the lines ls were handled one after another, from the old state to the new one, and counted by the tally, and
-- that their replies are in the writer behind what it held (`contents`; none where unknown)
pub record HandlesTo {S Stop W : Type 0} (meaning : Meaning S Stop) (contents : W → Option (List ℕ)) (old : S) (writer : Counted W) (ls : List (List ℕ))
    (new : S) (written : Counted W) (tally : Tally) : Type 0 where
  pub effects : List Effect
  pub handled : Handles meaning.takes old ls effects new
  pub replied : Appends (contents writer.stream) (contents written.stream) (output effects)
  pub counted : IsTally tally ls effects

-- that a text was ended early: by a fault, after its first lines, all that are counted, were handled; or by a line that
-- ended with LF, after those before it were handled, and this line is counted too
abbrev pub HaltsIn : {S Stop : Type 0} → Meaning S Stop → S → List ℕ → S → StopCause Stop → Tally → Type 0
HaltsIn meaning old text new (Run kind) tally = (done : List (List ℕ)) × (rest : List (List ℕ)) × (effects : List Effect)
    × (lines_of text ≡ done ++ rest) × Handles meaning.takes old done effects new × (tally.lines ≡ length done)
HaltsIn {S} meaning old text new (Line stop) tally = (done : List (List ℕ)) × (line : List ℕ) × (rest : List (List ℕ)) × (effects : List Effect) × (mid : S)
    × ((cut text).0 ≡ done ++ line ∷ rest) × Handles meaning.takes old done effects mid × meaning.stops mid line stop new × (tally.lines ≡ length done + 1)

-- that the last line of a text, which ended with no LF, ended it early: by a fault, after the line was handled and
-- counted, or not; or the line itself ended it, which is counted
abbrev pub HaltsAtEnd : {S Stop : Type 0} → Meaning S Stop → S → List ℕ → S → StopCause Stop → Tally → Type 0
HaltsAtEnd meaning old line new (Run kind) tally = (done : List (List ℕ)) × (rest : List (List ℕ)) × (effects : List Effect)
    × (if_any line ≡ done ++ rest) × Handles meaning.takes old done effects new × (tally.lines ≡ length done)
HaltsAtEnd meaning old line new (Line stop) tally = (if_any line ≡ line ∷ []) × meaning.stops old line stop new × (tally.lines ≡ 1)
