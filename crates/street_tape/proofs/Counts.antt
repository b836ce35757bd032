-- What is counted of lines that were handled.
use Rattle.std.proofs.Common.{◌≡◌, ℕ, ◌+◌, ◌<◌, List, ◌∷◌, length, if◌then◌else◌, ap, ◌∙◌, length-append, [], arith}
use Rattle.std.proofs.lemmas.List.Sums.{sum_by-cons}
use Rattle.serde_json.specs.Written.{compact_text}
use Rattle.street_base.specs.declared.command.Command.TheVariants.{Count}
use Rattle.street_base.specs.declared.reply.Outcome.{Outcome}
use Rattle.street_base.specs.declared.reply.Outcome.TheVariants.{Whole, Starved, Short}
use Rattle.street_base.specs.declared.reply.Reply.{Reply}
use Rattle.street_base.specs.Prelude.{Allows, reply_to, State}
use Rattle.street_stream.specs.HandledLines.{Effect, has_reply, calls_in, replies_in}
use Rattle.street_text.specs.ReplyLines.{reply_line, reply_data}

pub calls_first : (first : Effect) (rest : List Effect) (n m : ℕ) → (if first.is_call then 1 else 0) ≡ n → calls_in rest ≡ m → calls_in (first ∷ rest) ≡ n + m
calls_first first rest n m one more = sum_by-cons (λ (e : Effect). if e.is_call then 1 else 0) first rest ∙ ap (λ k. k + calls_in rest) one ∙ ap (λ k. n + k) more

pub replies_first : (first : Effect) (rest : List Effect) (n m : ℕ) → (if has_reply first then 1 else 0) ≡ n → replies_in rest ≡ m → replies_in (first ∷ rest) ≡ n + m
replies_first first rest n m one more = sum_by-cons (λ (e : Effect). if has_reply e then 1 else 0) first rest ∙ ap (λ k. k + replies_in rest) one ∙ ap (λ k. n + k) more

pub none_more : (n : ℕ) → 0 + n ≡ n
none_more n = omega arith

-- a reply line has some bytes
pub some_reply : (r : Reply) → 0 < length (reply_line r)
unfolding reply_line
some_reply r = omega (arith, length-append (compact_text (reply_data r)) (10 ∷ []))

-- a count is never starved, and never stops short
pub counted : (m : State) (reply : Reply) (outcome : Outcome) → Allows m Count outcome → reply ≡ reply_to m Count outcome → reply ≡ reply_to m Count Whole
counted m reply Whole h is = is
counted m reply Starved h is = absurd h
counted m reply (Short k) h is = absurd h
