-- The lines of a text, and what is kept of a line while it is read.
use Rattle.std.specs.Prelude.{◌≡◌, ◌≢◌, ℕ, ◌+◌, ◌<◌, ◌==◌, ◌||◌, ◌&&◌, List, [], ◌∷◌, ◌++◌, length, slice_index, take, Bool, true, if◌then◌else◌}
use Rattle.street_stream.specs.declared.part.PartialLine.{PartialLine}

-- a text that is cut into lines and a last part, after byte x was put before all of it: before its first line, or
-- before the last part where it has no line
abbrev pub onto_first : ℕ → List (List ℕ) × List ℕ → List (List ℕ) × List ℕ
onto_first x ([], last) = ([], x ∷ last)
onto_first x (l ∷ ls, last) = ((x ∷ l) ∷ ls, last)

-- a text cut at each LF: the lines that end with LF, without it, and the bytes behind the last LF, which are no ended
-- line
unfoldable pub cut : List ℕ → List (List ℕ) × List ℕ
cut [] = ([], [])
cut (x ∷ xs) = if x == 10 then ([] ∷ (cut xs).0, (cut xs).1) else onto_first x (cut xs)

-- one line of these bytes, or no line where there are no bytes
abbrev pub if_any : List ℕ → List (List ℕ)
if_any [] = []
if_any (x ∷ xs) = (x ∷ xs) ∷ []

-- all lines of a text, without their LF; bytes behind the last LF are a line too
abbrev pub lines_of : List ℕ → List (List ℕ)
lines_of text = (cut text).0 ++ if_any (cut text).1

-- that none of these bytes is LF (10), so that they lie inside one line
abbrev pub IsInsideLine : List ℕ → Type 0
IsInsideLine bytes = (k : ℕ) → k < length bytes → slice_index bytes k ≢ 10

-- whether a byte is a space, a tab or a CR
abbrev pub is_space : ℕ → Bool
is_space b = (b == 32) || ((b == 9) || (b == 13))

-- whether a line has no bytes but spaces, tabs and CR, or none at all
abbrev pub is_blank : List ℕ → Bool
is_blank [] = true
is_blank (b ∷ bs) = is_space b && is_blank bs

-- what is kept of a line that may have `most` bytes: its first `most` + 1 bytes, of which the last shows that the line
-- is too long; all of it where it is no longer
unfoldable pub kept : ℕ → List ℕ → List ℕ
kept most line = take (most + 1) line

-- that the part is what is kept of this line: it says that a line may have `most` bytes, has the line's first `most` +
-- 1 bytes, or all, and says whether the whole line is blank
pub record IsPart (most : ℕ) (part : PartialLine) (line : List ℕ) : Type 0 where
  pub limit : part.most ≡ most
  pub bytes : part.bytes.items ≡ kept most line
  pub is_blank : part.is_blank ≡ is_blank line
