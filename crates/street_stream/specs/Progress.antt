-- A run of lines as far as it has come.
use Rattle.std.specs.Prelude.{◌≡◌, ℕ, ◌+◌, ◌*◌, ◌^◌, ◌<◌, ◌≤◌, List, [], ◌++◌, length, take, if◌then◌else◌, Option, Some, Result, Ok, Err, OnOk, IfErr, ⊤}
use Rattle.std.specs.Io.KnownBytes.{Appends}
use Rattle.street_stream.specs.Faults.{IsAtRead, IsCausedByLine}
use Rattle.street_stream.specs.HandledLines.{Effect, Meaning, has_reply, text_in, Handles, output, IsTally, Breaks}
use Rattle.street_stream.specs.Lines.{cut, lines_of, IsPart}
use Rattle.street_stream.specs.declared.answer.StopCause.{StopCause}
use Rattle.street_stream.specs.declared.answer.StopCause.TheVariants.{Run, Line}
use Rattle.street_stream.specs.declared.answer.Halt.{Halt}
use Rattle.street_stream.specs.declared.counted.Counted.{Counted}
use Rattle.street_stream.specs.declared.driver.Progress.{Progress}
use Rattle.street_stream.specs.declared.part.PartialLine.{PartialLine}
use Rattle.street_stream.specs.declared.tally.Tally.{Tally}

-- that a tally's calls and replies are at most its lines, and its bytes at most 2^64 a line
pub record IsWithin (tally : Tally) : Type 0 where
  pub calls : tally.calls ≤ tally.lines
  pub replies : tally.replies ≤ tally.lines
  pub bytes : tally.bytes ≤ tally.lines * 2 ^ 64

-- that the new tally counts at most n lines more, its calls and replies are at most its lines, and its bytes at most
-- 2^64 a line
pub record Grows (old new : Tally) (n : ℕ) : Type 0 where
  pub lines : new.lines ≤ old.lines + n
  pub within : IsWithin new

-- that the new tally counts one line more than the old one, and the call, the reply and the bytes of the reply that
-- this line gave, each only if it gave one
pub record Counts (old new : Tally) (e : Effect) : Type 0 where
  pub lines : new.lines ≡ old.lines + 1
  pub calls : new.calls ≡ old.calls + (if e.is_call then 1 else 0)
  pub replies : new.replies ≡ old.replies + (if has_reply e then 1 else 0)
  pub bytes : new.bytes ≡ old.bytes + length (text_in e.reply)

-- that nothing was written to what the writer held (`before`, `after`; none where unknown), and that the new tally
-- counts one line more but no call, no reply and no bytes: as for a line that ended the run
pub record IsUntouched (before : Option (List ℕ)) (old : Tally) (after : Option (List ℕ)) (new : Tally) : Type 0 where
  pub written : Appends before after []
  pub lines : new.lines ≡ old.lines + 1
  pub calls : new.calls ≡ old.calls
  pub replies : new.replies ≡ old.replies
  pub bytes : new.bytes ≡ old.bytes

-- that a line was handled and counted, with its call if it is one, but that of its reply only the first bytes, not all,
-- were written behind `before`; these bytes are counted, but no reply
pub record IsHalf {S : Type 0} (takes : S → List ℕ → Effect → S → Type 0) (old : S) (before : Option (List ℕ)) (tally : Tally) (line : List ℕ)
    (new : S) (after : Option (List ℕ)) (counted : Tally) : Type 0 where
  pub effect : Effect
  pub out : List ℕ
  pub sent : ℕ
  pub taken : takes old line effect new
  pub reply : effect.reply ≡ Some out
  pub less : sent < length out
  pub written : Appends before after (take sent out)
  pub lines : counted.lines ≡ tally.lines + 1
  pub calls : counted.calls ≡ tally.calls + (if effect.is_call then 1 else 0)
  pub replies : counted.replies ≡ tally.replies
  pub bytes : counted.bytes ≡ tally.bytes + sent

-- that a run stopped at a line: by a fault, not of reading, after the line was handled, with only the first bytes of
-- its reply written; or because the line itself ended the run, with nothing written and the line counted
abbrev pub LineBreaks : {S Stop : Type 0} (takes : S → List ℕ → Effect → S → Type 0) (stops : S → List ℕ → Stop → S → Type 0)
    → S → Option (List ℕ) → Tally → List ℕ → S → Option (List ℕ) → StopCause Stop → Tally → Type 0
LineBreaks takes stops old before tally line new after (Run kind) counted = (IsAtRead kind → ⊥) × IsHalf takes old before tally line new after counted
LineBreaks takes stops old before tally line new after (Line stop) counted = stops old line stop new × IsUntouched before tally after counted

module _ {S : Type 0} (takes : S → List ℕ → Effect → S → Type 0) (longest : ℕ) where
  -- that the line that was gathered in this part was handled, its reply, if any, written behind `before`, and line,
  -- call, reply and bytes counted
  abbrev pub Taken : S → Option (List ℕ) → PartialLine → Tally → S → Option (List ℕ) → Tally → Type 0
  Taken old before part tally new after counted =
      (line : List ℕ) → IsPart longest part line
      → (effect : Effect) × takes old line effect new × Appends before after (text_in effect.reply) × Counts tally counted effect

  -- that a run is right so far: of the bytes seen since `start` all ended lines were handled and counted, their replies
  -- stand behind `before` in the writer (`after`), and the part keeps the line that has not ended
  abbrev pub Stands : S → Option (List ℕ) → List ℕ → S → Option (List ℕ) → Progress → Type 0
  Stands start before seen now after progress =
      (effects : List Effect) × Handles takes start (cut seen).0 effects now × Appends before after (output effects)
      × IsPart longest progress.part (cut seen).1 × IsTally progress.tally (cut seen).0 effects

  -- that a run which was right so far (`Stands`: all ended lines handled, replied to and counted) is right again after
  -- these bytes, whatever it had seen before
  abbrev pub Feeds : S → Option (List ℕ) → Progress → List ℕ → S → Option (List ℕ) → Progress → Type 0
  Feeds old written progress bytes new written_then fed =
      (start : S) (before : Option (List ℕ)) (seen : List ℕ) → Stands start before seen old written progress
      → Stands start before (seen ++ bytes) new written_then fed

  -- that a run which was right so far (`Stands`) has, at the end of its text, handled, replied to and counted all
  -- lines, also a last one without LF, whatever it had seen before
  abbrev pub Finishes : S → Option (List ℕ) → Progress → S → Option (List ℕ) → Tally → Type 0
  Finishes old written progress new written_then tally =
      (start : S) (before : Option (List ℕ)) (seen : List ℕ) → Stands start before seen old written progress
      → (effects : List Effect) × Handles takes start (lines_of seen) effects new × Appends before written_then (output effects)
      × IsTally tally (lines_of seen) effects

module _ {S Stop : Type 0} (takes : S → List ℕ → Effect → S → Type 0) (stops : S → List ℕ → Stop → S → Type 0) (longest : ℕ) where
  -- that a run which was right so far stopped early within or right behind these bytes (`Breaks`: first lines handled,
  -- first bytes of their replies written, perhaps all), whatever it had seen before and whatever would follow
  abbrev pub FeedBreaks : S → Option (List ℕ) → Progress → List ℕ → S → Option (List ℕ) → StopCause Stop → Tally → Type 0
  FeedBreaks old written progress bytes new written_then cause tally =
      (start : S) (before : Option (List ℕ)) (seen : List ℕ) → Stands takes longest start before seen old written progress
      → (more : List ℕ) → Breaks takes stops ⊥ start before (seen ++ (bytes ++ more)) new written_then cause tally

  -- that a run which was right so far stopped early at the end of its text (`Breaks`: first lines handled, first bytes
  -- of their replies written, perhaps all), whatever it had seen before
  abbrev pub FinishBreaks : S → Option (List ℕ) → Progress → S → Option (List ℕ) → StopCause Stop → Tally → Type 0
  FinishBreaks old written progress new written_then cause tally =
      (start : S) (before : Option (List ℕ)) (seen : List ℕ) → Stands takes longest start before seen old written progress
      → Breaks takes stops ⊤ start before seen new written_then cause tally

-- ---- so where the replies go to a counted stream

module _ {S Stop W : Type 0} (meaning : Meaning S Stop) (contents : W → Option (List ℕ)) where
  -- that the line of this part was handled, its reply, if any, put into the counted writer behind what it held, and
  -- line, call, reply and bytes counted
  abbrev pub TakesTo : S → Counted W → PartialLine → Tally → S → Counted W → Tally → Type 0
  TakesTo old writer part tally new written counted =
      Taken meaning.takes meaning.longest old (contents writer.stream) part tally new (contents written.stream) counted

  -- that the run stopped at the line of this part: the line itself ended it, with nothing written; or, by a fault, only
  -- the first bytes of its reply are in the counted writer
  abbrev pub TakeStops : S → Counted W → PartialLine → Tally → S → Counted W → Tally → StopCause Stop → Type 0
  TakeStops old writer part tally new written counted cause = (line : List ℕ) → IsPart meaning.longest part line
      → LineBreaks meaning.takes meaning.stops old (contents writer.stream) tally line new (contents written.stream) cause counted

  -- that a run which was right so far is right again after these bytes: the lines that end in them are handled and
  -- counted, and their replies are in the counted writer behind what it held
  abbrev pub FeedsTo : S → Counted W → Progress → List ℕ → S → Counted W → Progress → Type 0
  FeedsTo old writer progress bytes new written fed =
      Feeds meaning.takes meaning.longest old (contents writer.stream) progress bytes new (contents written.stream) fed

  -- that a run which was right so far stopped early within or right behind these bytes: first lines were handled, and
  -- first bytes of their replies are in the counted writer, perhaps all (`Breaks`)
  abbrev pub FeedStops : S → Counted W → Progress → List ℕ → S → Counted W → Progress → StopCause Stop → Type 0
  FeedStops old writer progress bytes new written fed cause =
      FeedBreaks meaning.takes meaning.stops meaning.longest old (contents writer.stream) progress bytes new (contents written.stream) cause fed.tally

  -- that a run which was right so far has, at the end of its text, handled and counted all lines, also a last one
  -- without LF, with all replies in the counted writer
  abbrev pub FinishesTo : S → Counted W → Progress → S → Counted W → Progress → Type 0
  FinishesTo old writer progress new written ended =
      Finishes meaning.takes meaning.longest old (contents writer.stream) progress new (contents written.stream) ended.tally

  -- that a run which was right so far stopped early at the end of its text, by a fault or by a line, with first bytes
  -- of its replies, perhaps all, in the counted writer (`Breaks`)
  abbrev pub FinishStops : S → Counted W → Progress → S → Counted W → Progress → StopCause Stop → Type 0
  FinishStops old writer progress new written ended cause =
      FinishBreaks meaning.takes meaning.stops meaning.longest old (contents writer.stream) progress new (contents written.stream) cause ended.tally

  -- what `done` says of the line of this part: it was handled and counted, with at most one line more in the tally; or
  -- the run stopped at it, and the writer counted the cause if that is a failed write or flush
  pub record TakesLine (old : S) (writer : Counted W) (part : PartialLine) (tally : Tally) (done : Result (Unit {0}) (StopCause Stop))
      (new : S) (written : Counted W) (counted : Tally) : Type 0 where
    pub taken : OnOk done (TakesTo old writer part tally new written counted)
    pub grows : OnOk done (Grows tally counted 1)
    pub broken : IfErr done (TakeStops old writer part tally new written counted)
    pub caused : IfErr done (λ cause. IsCausedByLine cause written)

  -- what `done` says of these bytes: all were taken up, with at most `lines` lines more in the tally; or the run
  -- stopped within them, and the writer counted the cause if that is a failed write or flush
  pub record FeedsBytes (old : S) (writer : Counted W) (progress : Progress) (bytes : List ℕ) (lines : ℕ) (done : Result (Unit {0}) (StopCause Stop))
      (new : S) (written : Counted W) (fed : Progress) : Type 0 where
    pub feeds : OnOk done (FeedsTo old writer progress bytes new written fed)
    pub grows : OnOk done (Grows progress.tally fed.tally lines)
    pub broken : IfErr done (FeedStops old writer progress bytes new written fed)
    pub caused : IfErr done (λ cause. IsCausedByLine cause written)

  -- what `done` says of the end of the text: a last line without LF, if any, was handled, with at most one line more in
  -- the tally; or the run stopped there, and the writer counted the cause if that is a failed write or flush
  pub record FinishesText (old : S) (writer : Counted W) (progress : Progress) (done : Result (Unit {0}) (StopCause Stop))
      (new : S) (written : Counted W) (over : Progress) : Type 0 where
    pub finishes : OnOk done (FinishesTo old writer progress new written over)
    pub grows : OnOk done (Grows progress.tally over.tally 1)
    pub broken : IfErr done (FinishStops old writer progress new written over)
    pub caused : IfErr done (λ cause. IsCausedByLine cause written)

-- the result of a run from how far it came: its tally where it did not stop early, else the cause and its tally
abbrev pub ended : {T Stop : Type 0} → Result T (StopCause Stop) → Progress → Result Tally (Halt Stop)
ended (Ok done) progress = Ok progress.tally
ended (Err cause) progress = Err (record { cause = cause; tally = progress.tally })
