-- One line more, and what a tally of lines counts.
use Rattle.std.proofs.Common.{◌≡◌, ℕ, ◌+◌, List, [], ◌∷◌, ◌++◌, length, if◌then◌else◌, inl, inr, refl, sym, ap, ◌∙◌, subst, append_assoc, append-nil, length-append, arith}
use Rattle.std.proofs.lemmas.List.Sums.{sum_by_push}
use Rattle.street_stream.specs.Faults.{CountsReplies}
use Rattle.street_stream.specs.HandledLines.{Effect, has_reply, text_in, Handles, output, IsTally}
use Rattle.street_stream.specs.Progress.{Counts, IsWithin}
use Rattle.street_stream.specs.declared.tally.Tally.{Tally}

module _ {S : Type 0} (takes : S → List ℕ → Effect → S → Type 0) where
  pub handles_more : (start : S) (ls : List (List ℕ)) (l : List ℕ) (es : List Effect) (e : Effect) (mid new : S) → Handles takes start ls es mid → takes mid l e new
      → Handles takes start (ls ++ l ∷ []) (es ++ e ∷ []) new
  handles_more start [] l es e mid new h taken =
      (new, e, [], subst (λ s. takes s l e new) h.0 taken, (refl, refl), ap (λ (zs : List Effect). zs ++ e ∷ []) h.1)
  handles_more start (x ∷ xs) l es e mid new h taken =
      (h.0, h.1, h.2 ++ e ∷ [], h.3, handles_more h.0 xs l h.2 e mid new h.4 taken, ap (λ (zs : List Effect). zs ++ e ∷ []) h.5)

pub output_more : (es : List Effect) (e : Effect) → output (es ++ e ∷ []) ≡ output es ++ text_in e.reply
output_more [] e = append-nil (text_in e.reply)
output_more (x ∷ es) e = ap (λ (out : List ℕ). text_in x.reply ++ out) (output_more es e) ∙ sym (append_assoc (text_in x.reply) (output es) (text_in e.reply))

-- where all bytes are written no reply is cut off
pub all_replies : (tally : Tally) (out : List ℕ) (replies : ℕ) → CountsReplies tally out replies → tally.bytes ≡ length out → tally.replies ≡ replies
all_replies tally out replies (inl is) all = is.1
all_replies tally out replies (inr less) all = absurd (omega (arith, less.0, all))

pub none_within : (tally : Tally) → IsTally tally [] [] → IsWithin tally
none_within tally h = record { calls = omega (arith, h.calls); replies = omega (arith, h.replies); bytes = omega (arith, h.bytes) }

pub one_more_line : (old new : Tally) (ls : List (List ℕ)) (l : List ℕ) (es : List Effect) (e : Effect) → IsTally old ls es → Counts old new e → IsTally new (ls ++ l ∷ []) (es ++ e ∷ [])
one_more_line old new ls l es e h more = record {
  lines = more.lines ∙ ap (λ n. n + 1) h.lines ∙ sym (length-append ls (l ∷ []));
  calls = more.calls ∙ ap (λ n. n + (if e.is_call then 1 else 0)) h.calls ∙ sym (sum_by_push (λ (k : Effect). (if k.is_call then 1 else 0)) es e);
  replies = more.replies ∙ ap (λ n. n + (if has_reply e then 1 else 0)) h.replies ∙ sym (sum_by_push (λ k. (if has_reply k then 1 else 0)) es e);
  bytes = more.bytes ∙ ap (λ n. n + length (text_in e.reply)) h.bytes ∙ sym (length-append (output es) (text_in e.reply)) ∙ sym (ap length (output_more es e));
}
