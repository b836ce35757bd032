-- What is left of a run that broke.
use Rattle.std.proofs.Common.{◌≡◌, ℕ, List, [], ◌∷◌, ◌++◌, ◌+◌, ◌<◌, take, length, true, Option, inl, inr, refl, sym, ap, ◌∙◌, subst, arith, append_assoc, append-nil, length-append, if◌then◌else◌}
use Rattle.std.proofs.KnownBytes.{Appends-trans, Appends-kept}
use Rattle.std.proofs.Math.Seq.{take-append-add, take-length}
use Rattle.std.proofs.lemmas.List.Sums.{sum_by_push}
use Rattle.std.specs.Prelude.{⊤}
use Rattle.std.specs.Io.KnownBytes.{Appends, Keeps}
use Rattle.street_stream.proofs.Cut.{lines_after, lines_more, cut_newline}
use Rattle.street_stream.proofs.Feeds.{last_line}
use Rattle.street_stream.proofs.Handles.{handles_more, output_more}
use Rattle.street_stream.specs.Faults.{IsAtRead}
use Rattle.street_stream.specs.HandledLines.{Effect, has_reply, has_text, text_in, Handles, output, IsTally, EndsLine, IsNext, Leaves, Breaks}
use Rattle.street_stream.specs.Lines.{cut, lines_of, if_any, kept, IsPart}
use Rattle.street_stream.specs.Progress.{Stands, Feeds, Finishes, FeedBreaks, FinishBreaks, LineBreaks, IsUntouched, IsHalf}
use Rattle.street_stream.specs.declared.answer.StopCause.{StopCause}
use Rattle.street_stream.specs.declared.answer.StopCause.TheVariants.{Run, Line}
use Rattle.street_stream.specs.declared.driver.Progress.{Progress}
use Rattle.street_stream.specs.declared.tally.FaultKind.{FaultKind}
use Rattle.street_stream.specs.declared.tally.FaultKind.TheVariants.{Write, Starved}
use Rattle.street_stream.specs.declared.tally.Tally.{Tally}

-- ---- where a line ends

newline_lines : (seen : List ℕ) → lines_of (seen ++ 10 ∷ []) ≡ (cut seen).0 ++ (cut seen).1 ∷ []
newline_lines seen = ap (λ (p : List (List ℕ) × List ℕ). p.0 ++ if_any p.1) (cut_newline seen) ∙ append-nil ((cut seen).0 ++ (cut seen).1 ∷ [])

next_inside : (seen more : List ℕ) → IsNext ⊥ (seen ++ 10 ∷ more) (cut seen).0 (cut seen).1
next_inside seen more =
    record { first = seen ++ 10 ∷ []; rest = more; split = sym (append_assoc seen (10 ∷ []) more); ended = inl (seen, refl); lines = newline_lines seen }

next_last : (seen : List ℕ) → lines_of seen ≡ (cut seen).0 ++ (cut seen).1 ∷ [] → IsNext ⊤ seen (cut seen).0 (cut seen).1
next_last seen is = record { first = seen; rest = []; split = sym (append-nil seen); ended = inr (refl, tt); lines = is }

module _ {S Stop : Type 0} (takes : S → List ℕ → Effect → S → Type 0) (stops : S → List ℕ → Stop → S → Type 0) where
  -- all that was counted is whole
  breaks_whole : (at_end : Type 0) (start : S) (before : Option (List ℕ)) (text : List ℕ) (now : S) (after : Option (List ℕ)) (kind : FaultKind) (tally : Tally)
      (done rest : List (List ℕ)) (effects : List Effect) → lines_of text ≡ done ++ rest → Handles takes start done effects now → Appends before after (output effects) → IsTally tally done effects
      → (IsAtRead kind → done ≡ (cut text).0) → Breaks takes stops at_end start before text now after (Run kind) tally
  breaks_whole at_end start before text now after kind tally done rest effects first went wrote counted at_read = record {
    done = done;
    rest = rest;
    effects = effects;
    mid = now;
    first_lines = first;
    handled = went;
    within = omega (arith, counted.bytes);
    written = rw (counted.bytes, take-length (output effects)) wrote;
    calls = counted.calls;
    replies = inl (counted.bytes, counted.replies);
    leaves = (refl, counted.lines, λ read. (at_read read, counted.bytes));
  }

  -- a line that follows the first ones has ended the run
  stopped : (at_end : Type 0) (start : S) (before : Option (List ℕ)) (text : List ℕ) (ls : List (List ℕ)) (l : List ℕ) (rest : List (List ℕ)) (es : List Effect) (s t : S) (w v : Option (List ℕ))
      (tally counted : Tally) (stop : Stop) → lines_of text ≡ ls ++ l ∷ rest → IsNext at_end text ls l → Handles takes start ls es s → Appends before w (output es) → IsTally tally ls es
      → stops s l stop t → IsUntouched w tally v counted → Breaks takes stops at_end start before text t v (Line stop) counted
  stopped at_end start before text ls l rest es s t w v tally counted stop first next went wrote is halted u =
      let bytes : counted.bytes ≡ length (output es) = u.bytes ∙ is.bytes in
      record {
        done = ls;
        rest = l ∷ rest;
        effects = es;
        mid = s;
        first_lines = first;
        handled = went;
        within = omega (arith, bytes);
        written = rw (bytes, take-length (output es)) (rw (append-nil (output es)) at (Appends-trans before w v (output es) [] wrote u.written));
        calls = u.calls ∙ is.calls;
        replies = inl (bytes, u.replies ∙ is.replies);
        leaves = (l, next, halted, u.lines ∙ ap (λ n. n + 1) is.lines, bytes);
      }

  -- of its reply only the first bytes are written
  half : (at_end : Type 0) (start : S) (before : Option (List ℕ)) (text : List ℕ) (ls : List (List ℕ)) (l : List ℕ) (rest : List (List ℕ)) (es : List Effect) (s t : S) (w v : Option (List ℕ))
      (tally counted : Tally) (kind : FaultKind) → lines_of text ≡ ls ++ l ∷ rest → Handles takes start ls es s → Appends before w (output es) → IsTally tally ls es
      → (IsAtRead kind → ⊥) → IsHalf takes s w tally l t v counted → Breaks takes stops at_end start before text t v (Run kind) counted
  half at_end start before text ls l rest es s t w v tally counted kind first went wrote is at_line h =
      let e = h.effect in
      let less = h.less in
      let bytes : counted.bytes ≡ length (output es) + h.sent = h.bytes ∙ ap (λ n. n + h.sent) is.bytes in
      let all : output (es ++ e ∷ []) ≡ output es ++ h.out = output_more es e ∙ ap (λ (r : Option (List ℕ)). output es ++ text_in r) h.reply in
      let replied : has_reply e ≡ true = ap has_text h.reply in
      let short : counted.bytes < length (output es ++ h.out) = omega (arith, bytes, less, length-append (output es) h.out) in
      record {
        done = ls ++ l ∷ [];
        rest = rest;
        effects = es ++ e ∷ [];
        mid = t;
        first_lines = first ∙ sym (append_assoc ls (l ∷ []) rest);
        handled = handles_more takes start ls l es e s t went h.taken;
        within = rw all (omega (arith, short));
        written = rw (all, bytes, take-append-add (output es) h.out h.sent) (Appends-trans before w v (output es) (take h.sent h.out) wrote h.written);
        calls = h.calls ∙ ap (λ n. n + (if e.is_call then 1 else 0)) is.calls ∙ sym (sum_by_push (λ (k : Effect). (if k.is_call then 1 else 0)) es e);
        replies = inr (rw all short, ap (λ n. n + 1) (h.replies ∙ is.replies) ∙ sym (rw replied at (sum_by_push (λ k. (if has_reply k then 1 else 0)) es e)));
        leaves = (refl, h.lines ∙ ap (λ n. n + 1) is.lines ∙ sym (length-append ls (l ∷ [])), λ read. absurd (at_line read));
      }

  line_breaks : (at_end : Type 0) (start : S) (before : Option (List ℕ)) (text : List ℕ) (ls : List (List ℕ)) (l : List ℕ) (rest : List (List ℕ)) (es : List Effect) (s t : S) (w v : Option (List ℕ))
      (tally counted : Tally) (cause : StopCause Stop) → lines_of text ≡ ls ++ l ∷ rest → IsNext at_end text ls l → Handles takes start ls es s → Appends before w (output es) → IsTally tally ls es
      → LineBreaks takes stops s w tally l t v cause counted → Breaks takes stops at_end start before text t v cause counted
  line_breaks at_end start before text ls l rest es s t w v tally counted (Run kind) first next went wrote is b =
      half at_end start before text ls l rest es s t w v tally counted kind first went wrote is b.0 b.1
  line_breaks at_end start before text ls l rest es s t w v tally counted (Line stop) first next went wrote is b =
      stopped at_end start before text ls l rest es s t w v tally counted stop first next went wrote is b.0 b.1

  leaves_at : (A B : Type 0) (text : List ℕ) (done : List (List ℕ)) (es : List Effect) (mid now : S) (cause : StopCause Stop) (tally : Tally) → (A → B) → Leaves stops A text done es mid now cause tally
      → Leaves stops B text done es mid now cause tally
  leaves_at A B text done es mid now (Run kind) tally f h = h
  leaves_at A B text done es mid now (Line stop) tally f h =
      let next = h.1 in
      (h.0, record { first = next.first; rest = next.rest; split = next.split; ended = ends_at next.first next.rest next.ended; lines = next.lines }, h.2, h.3, h.4)
    where
      ends_at : (text rest : List ℕ) → EndsLine text rest A → EndsLine text rest B
      ends_at text rest (inl line) = inl line
      ends_at text rest (inr over) = inr (over.0, f over.1)

  -- the text may end elsewhere
  pub breaks_at : (A B : Type 0) (start : S) (before : Option (List ℕ)) (text : List ℕ) (now : S) (after : Option (List ℕ)) (cause : StopCause Stop) (tally : Tally) → (A → B)
      → Breaks takes stops A start before text now after cause tally → Breaks takes stops B start before text now after cause tally
  breaks_at A B start before text now after cause tally f h = record {
    done = h.done;
    rest = h.rest;
    effects = h.effects;
    mid = h.mid;
    first_lines = h.first_lines;
    handled = h.handled;
    within = h.within;
    written = h.written;
    calls = h.calls;
    replies = h.replies;
    leaves = leaves_at A B text h.done h.effects h.mid now cause tally f h.leaves;
  }

module _ {S Stop : Type 0} (takes : S → List ℕ → Effect → S → Type 0) (stops : S → List ℕ → Stop → S → Type 0) (longest : ℕ) where
  -- what a line that was not handled whole leaves
  abbrev pub EndsRun : S → Option (List ℕ) → Progress → S → Option (List ℕ) → StopCause Stop → Tally → Type 0
  EndsRun s w p t v cause counted = (line : List ℕ) → IsPart longest p.part line → LineBreaks takes stops s w p.tally line t v cause counted

  -- a line ended, and was not handled whole
  pub newline_breaks : (s t : S) (w v : Option (List ℕ)) (p : Progress) (cause : StopCause Stop) (counted : Tally) → EndsRun s w p t v cause counted
      → FeedBreaks takes stops longest s w p (10 ∷ []) t v cause counted
  newline_breaks s t w v p cause counted ends = λ start before seen h more.
      let after = lines_after seen more in
      line_breaks takes stops ⊥ start before (seen ++ 10 ∷ more) (cut seen).0 (cut seen).1 after.0 h.0 s t w v p.tally counted cause after.1 (next_inside seen more) h.1 h.2 h.4 (ends (cut seen).1 h.3)

  -- memory ran out for bytes of a line
  pub part_breaks : (s : S) (w : Option (List ℕ)) (p : Progress) (bytes : List ℕ) (tally : Tally) → tally ≡ p.tally → FeedBreaks takes stops longest s w p bytes s w (Run Starved) tally
  part_breaks s w p bytes tally same = λ start before seen h more.
      let later = lines_more seen (bytes ++ more) in
      breaks_whole takes stops ⊥ start before (seen ++ (bytes ++ more)) s w Starved tally (cut seen).0 later.0 h.0 later.1 h.1 h.2 (rw same h.4) (λ read. absurd read)

  -- bytes were fed before the end of the run, and others would have followed
  pub feed_breaks : (s t u : S) (w v x : Option (List ℕ)) (p q : Progress) (cause : StopCause Stop) (tally : Tally) (bytes xs ys zs : List ℕ) → xs ++ (ys ++ zs) ≡ bytes → Feeds takes longest s w p xs t v q
      → FeedBreaks takes stops longest t v q ys u x cause tally → FeedBreaks takes stops longest s w p bytes u x cause tally
  feed_breaks s t u w v x p q cause tally bytes xs ys zs split f g = λ start before seen h more.
      let same : (seen ++ xs) ++ (ys ++ (zs ++ more)) ≡ seen ++ ((xs ++ (ys ++ zs)) ++ more) = simp append_assoc in
      let whole : seen ++ ((xs ++ (ys ++ zs)) ++ more) ≡ seen ++ (bytes ++ more) = ap (λ (b : List ℕ). seen ++ (b ++ more)) split in
      subst (λ z. Breaks takes stops ⊥ start before z u x cause tally) (same ∙ whole) (g start before (seen ++ xs) (f start before seen h) (zs ++ more))

  -- a flush failed after all bytes were fed
  pub fed_breaks : (s t : S) (w v x : Option (List ℕ)) (p q : Progress) (xs : List ℕ) → Feeds takes longest s w p xs t v q → Keeps v x
      → FeedBreaks takes stops longest s w p xs t x (Run Write) q.tally
  fed_breaks s t w v x p q xs f keeps = λ start before seen h more.
      let fed = f start before seen h in
      let later = lines_more (seen ++ xs) more in
      subst (λ z. Breaks takes stops ⊥ start before z t x (Run Write) q.tally) (append_assoc seen xs more)
      (breaks_whole takes stops ⊥ start before ((seen ++ xs) ++ more) t x Write q.tally (cut (seen ++ xs)).0 later.0 fed.0 later.1 fed.1 (Appends-kept before v x (output fed.0) fed.2 keeps) fed.4 (λ read. absurd read))

  -- the last line was not handled whole
  pub last_breaks : (s t : S) (w v : Option (List ℕ)) (p : Progress) (cause : StopCause Stop) (counted : Tally) → ((line : List ℕ) → IsPart longest p.part line → length (kept longest line) ≡ 0 → ⊥)
      → EndsRun s w p t v cause counted → FinishBreaks takes stops longest s w p t v cause counted
  last_breaks s t w v p cause counted some ends = λ start before seen h.
      let lines : lines_of seen ≡ (cut seen).0 ++ (cut seen).1 ∷ [] = ap (λ (ls : List (List ℕ)). (cut seen).0 ++ ls) (last_line (cut seen).1 longest (some (cut seen).1 h.3)) in
      line_breaks takes stops ⊤ start before seen (cut seen).0 (cut seen).1 [] h.0 s t w v p.tally counted cause lines (next_last seen lines) h.1 h.2 h.4 (ends (cut seen).1 h.3)

  -- the last flush failed
  pub finished_breaks : (s t : S) (w v x : Option (List ℕ)) (p : Progress) (tally : Tally) → Finishes takes longest s w p t v tally → Keeps v x
      → FinishBreaks takes stops longest s w p t x (Run Write) tally
  finished_breaks s t w v x p tally f keeps = λ start before seen h.
      let end = f start before seen h in
      breaks_whole takes stops ⊤ start before seen t x Write tally (lines_of seen) [] end.0 (sym (append-nil (lines_of seen))) end.1 (Appends-kept before v x (output end.0) end.2 keeps) end.3 (λ read. absurd read)

  -- no more was read
  pub read_breaks : (at_end : Type 0) (start : S) (before : Option (List ℕ)) (text : List ℕ) (now : S) (after : Option (List ℕ)) (p : Progress) (kind : FaultKind)
      → Stands takes longest start before text now after p → Breaks takes stops at_end start before text now after (Run kind) p.tally
  read_breaks at_end start before text now after p kind h =
      breaks_whole takes stops at_end start before text now after kind p.tally (cut text).0 (if_any (cut text).1) h.0 refl h.1 h.2 h.4 (λ read. refl)
