-- Lines that are handled one after another.
use Rattle.std.specs.Prelude.{◌≡◌, ℕ, ◌+◌, ◌<◌, ◌≤◌, ◌⊎◌, List, [], ◌∷◌, ◌++◌, length, take, Bool, true, false, Option, Some, None, Result, Ok, Err, IfOk, IfErr, Vec, count_by}
use Rattle.std.specs.Io.KnownBytes.{Appends, Consumes, IsAtEnd}
use Rattle.std.specs.declared.alloc.Global.{Global}
use Rattle.street_base.specs.declared.reply.Starved.{Starved}
use Rattle.street_stream.specs.Faults.{IsAtRead, IsCausedBy, CountsReplies}
use Rattle.street_stream.specs.Lines.{cut, lines_of}
use Rattle.street_stream.specs.declared.answer.LineAnswer.{LineAnswer}
use Rattle.street_stream.specs.declared.answer.StopCause.{StopCause}
use Rattle.street_stream.specs.declared.answer.StopCause.TheVariants.{Run, Line}
use Rattle.street_stream.specs.declared.answer.Halt.{Halt}
use Rattle.street_stream.specs.declared.counted.Counted.{Counted}
use Rattle.street_stream.specs.declared.tally.Tally.{Tally}

-- ---- one line

-- what a line gives: whether it is a call (which is counted), and the text of its reply, if it gets one
pub record Effect : Type 0 where
  pub is_call : Bool
  pub reply : Option (List ℕ)

-- whether there is a text, even one of no bytes
abbrev pub has_text : Option (List ℕ) → Bool
has_text None = false
has_text (Some out) = true

-- the bytes of a text; no bytes where there is no text
abbrev pub text_in : Option (List ℕ) → List ℕ
text_in None = []
text_in (Some out) = out

-- whether a line gets a reply
abbrev pub has_reply : Effect → Bool
has_reply e = has_text e.reply

-- that the handler returned the text of this reply, or none where there is no reply; or that memory ran out, which it
-- can only for a reply that has bytes
abbrev pub GivesText : Result (Option (Vec ℕ Global)) Starved → Option (List ℕ) → Type 0
GivesText (Ok None) reply = reply ≡ None
GivesText (Ok (Some text)) reply = reply ≡ Some text.items
GivesText (Err starved) reply = (out : List ℕ) × (0 < length out) × (reply ≡ Some out)

-- that a handler's answer to a line says what the line gave: whether it is a call, and its reply, if any; where memory
-- ran out for the reply, that there is one that has bytes
pub record Gives (answer : LineAnswer) (effect : Effect) : Type 0 where
  pub is_call : answer.is_call ≡ effect.is_call
  pub text : GivesText answer.reply effect.reply

-- what lines mean to a handler: the most bytes of a line, from which state a line gives what and leads where (`takes`),
-- and which line ends the run, why, and in what state (`stops`)
pub record Meaning (S Stop : Type 0) : Type 1 where
  pub longest : ℕ
  pub takes : S → List ℕ → Effect → S → Type 0
  pub stops : S → List ℕ → Stop → S → Type 0

-- that the line was handled from the old state to the new one, and that the answer says what it gave: whether it is a
-- call, and its reply, if any, unless memory ran out for it
abbrev pub Handled : {S : Type 0} → (S → List ℕ → Effect → S → Type 0) → S → List ℕ → S → LineAnswer → Type 0
Handled takes old line new answer = (effect : Effect) × takes old line effect new × Gives answer effect

-- ---- lines

-- that these lines, handled one after another, give these effects, one a line, and lead from the old state to the new
-- one; no lines give none and leave the state
abbrev pub Handles : {S : Type 0} → (S → List ℕ → Effect → S → Type 0) → S → List (List ℕ) → List Effect → S → Type 0
Handles takes old [] effects new = (new ≡ old) × (effects ≡ [])
Handles {S} takes old (l ∷ ls) effects new =
    (mid : S) × (first : Effect) × (rest : List Effect) × takes old l first mid × Handles takes mid ls rest new × (effects ≡ first ∷ rest)

-- the bytes of all replies that these effects have, one behind another; an effect without a reply adds none
abbrev pub output : List Effect → List ℕ
output [] = []
output (e ∷ es) = text_in e.reply ++ output es

-- how many of these effects are those of calls
abbrev pub calls_in : List Effect → ℕ
calls_in es = count_by (λ e. e.is_call) es

-- how many of these effects have a reply, be it of no bytes
abbrev pub replies_in : List Effect → ℕ
replies_in es = count_by has_reply es

-- that a tally counts these lines: how many they are, the calls among them, how many got replies, and the bytes of all
-- replies together
pub record IsTally (tally : Tally) (ls : List (List ℕ)) (es : List Effect) : Type 0 where
  pub lines : tally.lines ≡ length ls
  pub calls : tally.calls ≡ calls_in es
  pub replies : tally.replies ≡ replies_in es
  pub bytes : tally.bytes ≡ length (output es)

-- ---- whole runs

-- that a run read its text, from `unread`, to the end (`left`), handled all lines of it, also a last one without LF,
-- and wrote all their replies behind what the writer held (`before`, `after`), all counted; of unknown bytes (none)
-- nothing is said
pub record Whole {S : Type 0} (takes : S → List ℕ → Effect → S → Type 0) (start : S) (unread before : Option (List ℕ))
    (now : S) (left after : Option (List ℕ)) (tally : Tally) : Type 0 where
  pub text : List ℕ
  pub effects : List Effect
  pub read : Consumes unread left text
  pub at_end : IsAtEnd left
  pub handled : Handles takes start (lines_of text) effects now
  pub written : Appends before after (output effects)
  pub counted : IsTally tally (lines_of text) effects

-- ---- broken runs

-- that a text ends where a line ends: with LF; or anywhere, if no rest follows it and `at_end` holds, which says that
-- the end of all was reached
abbrev pub EndsLine : List ℕ → List ℕ → Type 0 → Type 0
EndsLine text rest at_end = ((front : List ℕ) × (text ≡ front ++ 10 ∷ [])) ⊎ ((rest ≡ []) × at_end)

-- that `line` is the line of the text right behind the lines `done`, and that it was read to its end: its LF came, or
-- the text ends there and `at_end` says that no more comes
pub record IsNext (at_end : Type 0) (text : List ℕ) (done : List (List ℕ)) (line : List ℕ) : Type 0 where
  pub first : List ℕ
  pub rest : List ℕ
  pub split : text ≡ first ++ rest
  pub ended : EndsLine first rest at_end
  pub lines : lines_of first ≡ done ++ line ∷ []

-- that state and tally are right where a run stopped: by a fault, in the state `mid` behind the lines done, which at a
-- read are all ended lines, all replied to; or by the next line, counted but not replied to, in the state where that
-- line stops
abbrev pub Leaves : {S Stop : Type 0} → (S → List ℕ → Stop → S → Type 0)
    → Type 0 → List ℕ → List (List ℕ) → List Effect → S → S → StopCause Stop → Tally → Type 0
Leaves stops at_end text done effects mid now (Run kind) tally =
    (now ≡ mid) × (tally.lines ≡ length done) × (IsAtRead kind → (done ≡ (cut text).0) × (tally.bytes ≡ length (output effects)))
Leaves stops at_end text done effects mid now (Line stop) tally =
    (line : List ℕ) × IsNext at_end text done line × stops mid line stop now × (tally.lines ≡ length done + 1) × (tally.bytes ≡ length (output effects))

-- that a run which stopped early handled first lines of the text, `done`, perhaps all, and wrote first bytes of their
-- replies, as many as the tally counts, at most the last reply cut off; calls are counted, and `Leaves` tells of state
-- and lines
pub record Breaks {S Stop : Type 0} (takes : S → List ℕ → Effect → S → Type 0) (stops : S → List ℕ → Stop → S → Type 0) (at_end : Type 0)
    (start : S) (before : Option (List ℕ)) (text : List ℕ) (now : S) (after : Option (List ℕ)) (cause : StopCause Stop) (tally : Tally) : Type 0 where
  -- the lines that were handled, those that were not, and what the first gave
  pub done : List (List ℕ)
  pub rest : List (List ℕ)
  pub effects : List Effect
  pub mid : S
  pub first_lines : lines_of text ≡ done ++ rest
  pub handled : Handles takes start done effects mid
  -- how much of the output of those lines is written
  pub within : tally.bytes ≤ length (output effects)
  pub written : Appends before after (take tally.bytes (output effects))
  pub calls : tally.calls ≡ calls_in effects
  pub replies : CountsReplies tally (output effects) (replies_in effects)
  pub leaves : Leaves stops at_end text done effects mid now cause tally

-- that a run stopped early: of the text read from `unread` (`left` is not read) first lines were handled, perhaps all,
-- and first bytes of their replies, perhaps all, stand behind what the writer held (`before`, `after`), as `Breaks`
-- says; of unknown bytes (none) nothing is said
pub record Broke {S Stop : Type 0} (takes : S → List ℕ → Effect → S → Type 0) (stops : S → List ℕ → Stop → S → Type 0)
    (start : S) (unread before : Option (List ℕ)) (now : S) (left after : Option (List ℕ)) (cause : StopCause Stop) (tally : Tally) : Type 0 where
  pub text : List ℕ
  pub read : Consumes unread left text
  pub breaks : Breaks takes stops (IsAtEnd left) start before text now after cause tally

-- ---- runs from one counted stream to another

module _ {S Stop D W : Type 0} (meaning : Meaning S Stop) (remaining : D → Option (List ℕ)) (contents : W → Option (List ℕ)) where
  -- that a run from reader to writer reached the reader's end, handled all of its lines, also a last one without LF,
  -- and put all their replies into the writer behind what it held, all counted
  abbrev pub HandlesAll : S → Counted D → Counted W → S → Counted D → Counted W → Tally → Type 0
  HandlesAll old reader writer new read written tally =
      Whole meaning.takes old (remaining reader.stream) (contents writer.stream) new (remaining read.stream) (contents written.stream) tally

  -- that a run from reader to writer stopped early, for the cause in `halt`: of what it read first lines, perhaps all,
  -- were handled, and first bytes of their replies, perhaps all, are in the writer, as the tally in `halt` counts
  abbrev pub HandlesFirst : S → Counted D → Counted W → S → Counted D → Counted W → Halt Stop → Type 0
  HandlesFirst old reader writer new read written halt =
      Broke meaning.takes meaning.stops old (remaining reader.stream) (contents writer.stream) new (remaining read.stream)
      (contents written.stream) halt.cause halt.tally

  -- what a run of at most `reads` reads did: it handled all lines, or it stopped early with a cause that the streams
  -- counted, unless a line ended it or memory ran out; in both cases the reader counts at most `reads` calls
  pub record Drives (reads : ℕ) (old : S) (reader : Counted D) (writer : Counted W) (run : Result Tally (Halt Stop))
      (new : S) (read : Counted D) (written : Counted W) : Type 0 where
    pub whole : IfOk run (HandlesAll old reader writer new read written)
    pub broken : IfErr run (HandlesFirst old reader writer new read written)
    pub caused : IfErr run (λ halt. IsCausedBy halt.cause read written reads)
    pub bounded : read.calls ≤ reads
