-- A text that is fed a part at a time.
use Rattle.std.proofs.Common.{◌≡◌, ℕ, List, [], ◌∷◌, ◌++◌, take, length, Option, refl, sym, ap, ◌∙◌, subst, append_assoc, append-nil}
use Rattle.std.proofs.KnownBytes.{Appends-nil, Appends-trans, Appends-kept, Consumes-trans}
use Rattle.std.specs.Io.KnownBytes.{Appends, Consumes, IsAtEnd, Keeps}
use Rattle.street_stream.proofs.Cut.{cut_inside, cut_newline, one_line}
use Rattle.street_stream.proofs.Handles.{handles_more, output_more, one_more_line}
use Rattle.street_stream.proofs.PartialLines.{kept_none, line_kept}
use Rattle.street_stream.specs.HandledLines.{Effect, output, text_in, IsTally, Whole}
use Rattle.street_stream.specs.Lines.{cut, if_any, kept, IsInsideLine, IsPart}
use Rattle.street_stream.specs.Progress.{Taken, Stands, Feeds, Finishes}
use Rattle.street_stream.specs.declared.driver.Progress.{Progress}
use Rattle.street_stream.specs.declared.tally.Tally.{Tally}

-- a read that gave nothing
pub consumes_end : (u v w : Option (List ℕ)) (xs : List ℕ) (n : ℕ) (buf : List ℕ) → n ≡ 0 → Consumes u v xs → Consumes v w (take n buf) → Consumes u w xs
consumes_end u v w xs n buf e f g = subst (Consumes u w) (append-nil xs) (Consumes-trans u v w xs [] f (subst (λ (m : ℕ). Consumes v w (take m buf)) e g))

-- a last part of some bytes is a line
pub last_line : (part : List ℕ) (most : ℕ) → (length (kept most part) ≡ 0 → ⊥) → if_any part ≡ part ∷ []
last_line part most some = one_line part (λ none. some (ap length (ap (kept most) none ∙ sym (kept_none most))))

module _ {S : Type 0} (takes : S → List ℕ → Effect → S → Type 0) (longest : ℕ) where
  pub feeds_none : (s : S) (w : Option (List ℕ)) (p : Progress) → Feeds takes longest s w p [] s w p
  feeds_none s w p = λ start before seen h. subst (λ t. Stands takes longest start before t s w p) (sym (append-nil seen)) h

  pub feeds_more : (s t u : S) (w v x : Option (List ℕ)) (p q r : Progress) (xs ys : List ℕ) → Feeds takes longest s w p xs t v q → Feeds takes longest t v q ys u x r
      → Feeds takes longest s w p (xs ++ ys) u x r
  feeds_more s t u w v x p q r xs ys f g = λ start before seen h.
      subst (λ z. Stands takes longest start before z u x r) (append_assoc seen xs ys) (g start before (seen ++ xs) (f start before seen h))

  -- the bytes are two parts
  pub feeds_both : (s t u : S) (w v x : Option (List ℕ)) (p q r : Progress) (bytes xs ys : List ℕ) → xs ++ ys ≡ bytes → Feeds takes longest s w p xs t v q → Feeds takes longest t v q ys u x r
      → Feeds takes longest s w p bytes u x r
  feeds_both s t u w v x p q r bytes xs ys split f g = subst (λ (z : List ℕ). Feeds takes longest s w p z u x r) split (feeds_more s t u w v x p q r xs ys f g)

  -- one line more was written
  more_written : (before w v : Option (List ℕ)) (es : List Effect) (e : Effect) → Appends before w (output es) → Appends w v (text_in e.reply) → Appends before v (output (es ++ e ∷ []))
  more_written before w v es e h k = subst (Appends before v) (sym (output_more es e)) (Appends-trans before w v (output es) (text_in e.reply) h k)

  -- a line has ended
  pub feeds_newline : (s t : S) (w v : Option (List ℕ)) (p q : Progress) → ((line : List ℕ) → IsPart longest p.part line → IsPart longest q.part []) → Taken takes longest s w p.part p.tally t v q.tally
      → Feeds takes longest s w p (10 ∷ []) t v q
  feeds_newline s t w v p q empty taken = λ start before seen h.
      let e = taken (cut seen).1 h.3 in
      let lines = handles_more takes start (cut seen).0 (cut seen).1 h.0 e.0 s t h.1 e.1 in
      let tally = one_more_line p.tally q.tally (cut seen).0 (cut seen).1 h.0 e.0 h.4 e.3 in
      (h.0 ++ e.0 ∷ [], rw (cut_newline seen) lines, more_written before w v h.0 e.0 h.2 e.2, rw (cut_newline seen) (empty (cut seen).1 h.3), rw (cut_newline seen) tally)

  -- bytes of a line
  pub feeds_inside : (s : S) (w : Option (List ℕ)) (p q : Progress) (bytes : List ℕ) → IsInsideLine bytes
      → ((line : List ℕ) → IsPart longest p.part line → IsPart longest q.part (line ++ bytes)) → q.tally ≡ p.tally
      → Feeds takes longest s w p bytes s w q
  feeds_inside s w p q bytes inside extended same = λ start before seen h.
      let tally = subst (λ (t : Tally). IsTally t (cut seen).0 h.0) (sym same) h.4 in
      let cuts = cut_inside seen bytes inside in
      (h.0, rw cuts h.1, h.2, rw cuts (extended (cut seen).1 h.3), rw cuts tally)

  -- nothing stands after the last line
  pub finishes_none : (s : S) (w : Option (List ℕ)) (p : Progress) → ((line : List ℕ) → IsPart longest p.part line → length (kept longest line) ≡ 0) → Finishes takes longest s w p s w p.tally
  finishes_none s w p none = λ start before seen h.
      let over : (cut seen).1 ≡ [] = line_kept longest (cut seen).1 (none (cut seen).1 h.3) in
      (h.0, rw (over, append-nil (cut seen).0) h.1, h.2, rw (over, append-nil (cut seen).0) h.4)

  -- a last line without an end
  pub finishes_line : (s t : S) (w v : Option (List ℕ)) (p : Progress) (tally : Tally) → ((line : List ℕ) → IsPart longest p.part line → length (kept longest line) ≡ 0 → ⊥)
      → Taken takes longest s w p.part p.tally t v tally → Finishes takes longest s w p t v tally
  finishes_line s t w v p tally some taken = λ start before seen h.
      let e = taken (cut seen).1 h.3 in
      let lines = handles_more takes start (cut seen).0 (cut seen).1 h.0 e.0 s t h.1 e.1 in
      let counted = one_more_line p.tally tally (cut seen).0 (cut seen).1 h.0 e.0 h.4 e.3 in
      let last = last_line (cut seen).1 longest (some (cut seen).1 h.3) in
      (h.0 ++ e.0 ∷ [], rw last lines, more_written before w v h.0 e.0 h.2 e.2, rw last counted)

  -- bytes that are only passed on stay
  pub feeds_kept : (s t : S) (w v x : Option (List ℕ)) (p q : Progress) (xs : List ℕ) → Feeds takes longest s w p xs t v q → Keeps v x → Feeds takes longest s w p xs t x q
  feeds_kept s t w v x p q xs f keeps = λ start before seen h.
      let fed = f start before seen h in
      (fed.0, fed.1, Appends-kept before v x (output fed.0) fed.2 keeps, fed.3, fed.4)

  pub finishes_kept : (s t : S) (w v x : Option (List ℕ)) (p : Progress) (tally : Tally) → Finishes takes longest s w p t v tally → Keeps v x → Finishes takes longest s w p t x tally
  finishes_kept s t w v x p tally f keeps = λ start before seen h.
      let end = f start before seen h in
      (end.0, end.1, Appends-kept before v x (output end.0) end.2 keeps, end.3)

  -- a run that begins with nothing has come so far
  pub begun : (s t : S) (w v : Option (List ℕ)) (p : Progress) (text : List ℕ) (q : Progress) → IsPart longest p.part [] → IsTally p.tally [] [] → Feeds takes longest s w p text t v q
      → Stands takes longest s w text t v q
  unfolding cut
  begun s t w v p text q empty none fed = fed s w [] ([], (refl, refl), Appends-nil w, empty, none)

  pub whole_run : (s t u : S) (w v x : Option (List ℕ)) (p q : Progress) (text : List ℕ) (tally : Tally) (unread left : Option (List ℕ)) → IsPart longest p.part [] → IsTally p.tally [] []
      → Feeds takes longest s w p text t v q → Finishes takes longest t v q u x tally → Consumes unread left text → IsAtEnd left → Whole takes s unread w u left x tally
  whole_run s t u w v x p q text tally unread left empty none fed done read over =
      let run = done s w text (begun s t w v p text q empty none fed) in
      record { text = text; effects = run.0; read = read; at_end = over; handled = run.1; written = run.2; counted = run.3 }
