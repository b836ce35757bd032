-- What a service is as a handler of lines.
use Rattle.std.proofs.Common.{◌≡◌, ◌∙◌, ℕ, ◌+◌, ◌⊎◌, List, [], ◌∷◌, ◌++◌, Option, if◌then◌else◌, inl, inr, refl, sym, ap, count_by, append-nil, append_assoc}
use Rattle.std.proofs.lemmas.List.{append_cancel_left}
use Rattle.std.proofs.lemmas.List.Sums.{sum_by-cons}
use Rattle.street_base.specs.declared.command.Command.{Command}
use Rattle.street_base.specs.declared.reply.Starved.{Starved as NoMemory}
use Rattle.street_stream.proofs.Handles.{all_replies}
use Rattle.street_stream.specs.Faults.{IsCaused, IsCausedBy}
use Rattle.street_stream.proofs.Cut.{cut_newline, lines_more}
use Rattle.street_stream.specs.Lines.{cut, lines_of}
use Rattle.street_stream.specs.declared.tally.FaultKind.TheVariants.{Starved}
use Rattle.street_stream.specs.HandledLines.{EndsLine, IsNext, Effect, has_reply as effect_has_reply, text_in, Handles, output, calls_in, replies_in, IsTally as IsTallyOf, Breaks as LinesBreak, Whole, Broke}
use Rattle.street_stream.specs.declared.answer.StopCause.{StopCause}
use Rattle.street_stream.specs.declared.answer.StopCause.TheVariants.{Run, Line}
use Rattle.street_stream.specs.declared.counted.Counted.{Counted}
use Rattle.street_stream.specs.declared.tally.Tally.{Tally}
use Rattle.street_line.specs.Faults.{Breaks, IsUnanswered, ServedInPart, kind_of}
use Rattle.street_line.specs.Runs.{Said, silent, faulty, calls, is_call, has_reply, said, Done, Goes, IsTally, ServedWhole}
use Rattle.street_line.specs.ServedLine.{effect_of, IsServed, StopsAt}
use Rattle.street_line.specs.declared.service.Served.{Served}

-- a line that ends a run is told as lack of memory, which needs no cause
pub caused_as : {R W : Type 0} (cause : StopCause NoMemory) (reader : Counted R) (writer : Counted W) (reads : ℕ) → IsCausedBy cause reader writer reads
    → IsCaused (kind_of cause) reader writer reads
caused_as (Run kind) reader writer reads h = h
caused_as (Line stop) reader writer reads h = tt

abbrev pub StopsLine : {S : Type 0} → (S → Command → Served → S → Type 0) → S → List ℕ → NoMemory → S → Type 0
StopsLine serves old line stop new = StopsAt serves old (said line) new

-- a line that was read to its end stands behind those that were done
next_line : (at_end : Type 0) (text : List ℕ) (done : List (List ℕ)) (line : List ℕ) → IsNext at_end text done line → (more : List (List ℕ)) × (lines_of text ≡ done ++ line ∷ more)
next_line at_end text done line next = by next.ended
  where
    by : EndsLine next.first next.rest at_end → (more : List (List ℕ)) × (lines_of text ≡ done ++ line ∷ more)
    by (inl front) =
        let whole : lines_of next.first ≡ (cut next.first).0 = rw (front.1, cut_newline front.0) (append-nil _) in
        let more = lines_more next.first next.rest in
        (more.0, ap lines_of next.split ∙ more.1 ∙ ap (λ (ls : List (List ℕ)). ls ++ more.0) (sym whole ∙ next.lines) ∙ append_assoc done (line ∷ []) more.0)
    by (inr over) =
        let text_is : text ≡ next.first = next.split ∙ ap (λ (l : List ℕ). next.first ++ l) over.0 ∙ append-nil next.first in
        ([], ap lines_of text_is ∙ next.lines)

module _ {S : Type 0} (serves : S → Command → Served → S → Type 0) where
  -- what a line gives has its output as text
  text_of : (old : S) (what : Said) (out : List ℕ) (new : S) → Done serves old what out new → text_in (effect_of what out).reply ≡ out
  text_of old silent out new done = sym done.1
  text_of old (faulty f) out new done = refl
  text_of old (calls c) out new done = refl

  replied : (what : Said) (out : List ℕ) → effect_has_reply (effect_of what out) ≡ has_reply what
  replied silent out = refl
  replied (faulty f) out = refl
  replied (calls c) out = refl

  -- lines that are handled are served
  goes : (old : S) (ls : List (List ℕ)) (es : List Effect) (new : S) → Handles (IsServed serves) old ls es new → Goes serves old ls (output es) new
  goes old [] es new h = (h.0, ap output h.1)
  goes old (l ∷ ls) es new h =
      let first = h.3 in
      let text : text_in (h.1).reply ≡ first.0 = ap (λ (e : Effect). text_in e.reply) first.2 ∙ text_of old (said l) first.0 h.0 first.1 in
      (h.0, first.0, output h.2, first.1, goes h.0 ls h.2 new h.4, ap output h.5 ∙ ap (λ (out : List ℕ). out ++ output h.2) text)

  -- and counted as such
  calls_same : (old : S) (ls : List (List ℕ)) (es : List Effect) (new : S) → Handles (IsServed serves) old ls es new → calls_in es ≡ count_by (λ l. is_call (said l)) ls
  calls_same old [] es new h = ap calls_in h.1
  calls_same old (l ∷ ls) es new h =
      ap calls_in h.5
      ∙ sum_by-cons (λ (e : Effect). (if e.is_call then 1 else 0)) h.1 h.2
      ∙ ap (λ (e : Effect). (if e.is_call then 1 else 0) + calls_in h.2) h.3.2
      ∙ ap (λ n. (if is_call (said l) then 1 else 0) + n) (calls_same h.0 ls h.2 new h.4)
      ∙ sym (sum_by-cons (λ k. (if is_call (said k) then 1 else 0)) l ls)

  replies_same : (old : S) (ls : List (List ℕ)) (es : List Effect) (new : S) → Handles (IsServed serves) old ls es new → replies_in es ≡ count_by (λ l. has_reply (said l)) ls
  replies_same old [] es new h = ap replies_in h.1
  replies_same old (l ∷ ls) es new h =
      let first = h.3 in
      let one : effect_has_reply h.1 ≡ has_reply (said l) = ap effect_has_reply first.2 ∙ replied (said l) first.0 in
      ap replies_in h.5
      ∙ sum_by-cons (λ (e : Effect). (if effect_has_reply e then 1 else 0)) h.1 h.2
      ∙ ap (λ b. (if b then 1 else 0) + replies_in h.2) one
      ∙ ap (λ n. (if has_reply (said l) then 1 else 0) + n) (replies_same h.0 ls h.2 new h.4)
      ∙ sym (sum_by-cons (λ k. (if has_reply (said k) then 1 else 0)) l ls)

  tally_same : (old : S) (ls : List (List ℕ)) (es : List Effect) (new : S) (tally : Tally) → Handles (IsServed serves) old ls es new → IsTallyOf tally ls es → IsTally tally ls (output es)
  tally_same old ls es new tally h t =
      record { lines = t.lines; calls = t.calls ∙ calls_same old ls es new h; replies = t.replies ∙ replies_same old ls es new h; bytes = t.bytes }

  pub served_whole : (old : S) (unread before : Option (List ℕ)) (new : S) (left after : Option (List ℕ)) (tally : Tally) → Whole (IsServed serves) old unread before new left after tally
      → ServedWhole serves old unread before new left after tally
  served_whole old unread before new left after tally h = record {
    text = h.text;
    out = output h.effects;
    read = h.read;
    at_end = h.at_end;
    served = goes old _ h.effects new h.handled;
    written = h.written;
    counted = tally_same old _ h.effects new tally h.handled h.counted;
  }

  -- a line that ended the run left the state, or is not answered
  ends_as : (old : S) (rest : List (List ℕ)) (new : S) (line : List ℕ) (more : List (List ℕ)) → rest ≡ line ∷ more → StopsAt serves old (said line) new
      → (new ≡ old) ⊎ ((Starved ≡ Starved) × IsUnanswered serves old rest new)
  ends_as old rest new line more behind (inl same) = inl same
  ends_as old rest new line more behind (inr (c, says, served)) = inr (refl, (line, more, c, behind, says, served))

  served_breaks : (at_end : Type 0) (old : S) (before : Option (List ℕ)) (text : List ℕ) (new : S) (after : Option (List ℕ)) (cause : StopCause NoMemory) (tally : Tally)
      → LinesBreak (IsServed serves) (StopsLine serves) at_end old before text new after cause tally → Breaks serves old before text new after (kind_of cause) tally
  served_breaks at_end old before text new after (Run kind) tally h =
      let went = goes old h.done h.effects h.mid h.handled in
      let replied = replies_same old h.done h.effects h.mid h.handled in
      let called = h.calls ∙ calls_same old h.done h.effects h.mid h.handled in
      record {
        done = h.done;
        rest = h.rest;
        out = output h.effects;
        mid = h.mid;
        first_lines = h.first_lines;
        served = went;
        ends = inl h.leaves.0;
        within = h.within;
        written = h.written;
        lines = inl h.leaves.1;
        calls = called;
        replies = rw replied at h.replies;
        whole = λ read.
            let whole = h.leaves.2 read in
            let all = whole.1 in
            (whole.0, record { lines = h.leaves.1; calls = called; replies = all_replies tally (output h.effects) (replies_in h.effects) h.replies all ∙ replied; bytes = all });
      }
  served_breaks at_end old before text new after (Line stop) tally h =
      let line = h.leaves.0 in
      let next = next_line at_end text h.done line h.leaves.1 in
      let behind : h.rest ≡ line ∷ next.0 = append_cancel_left h.done h.rest (line ∷ next.0) (sym h.first_lines ∙ next.1) in
      let went = goes old h.done h.effects h.mid h.handled in
      record {
        done = h.done;
        rest = h.rest;
        out = output h.effects;
        mid = h.mid;
        first_lines = h.first_lines;
        served = went;
        ends = ends_as h.mid h.rest new line next.0 behind h.leaves.2;
        within = h.within;
        written = h.written;
        lines = inr (refl, h.leaves.3);
        calls = h.calls ∙ calls_same old h.done h.effects h.mid h.handled;
        replies = rw (replies_same old h.done h.effects h.mid h.handled) at h.replies;
        whole = λ read. absurd read;
      }

  pub served_in_part : (old : S) (unread before : Option (List ℕ)) (new : S) (left after : Option (List ℕ)) (cause : StopCause NoMemory) (tally : Tally)
      → Broke (IsServed serves) (StopsLine serves) old unread before new left after cause tally
      → ServedInPart serves old unread before new left after (record { kind = kind_of cause; tally = tally })
  served_in_part old unread before new left after cause tally h =
      record { text = h.text; read = h.read; breaks = served_breaks _ old before h.text new after cause tally h.breaks }
