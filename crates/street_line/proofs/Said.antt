-- What a line says, from what is kept of it.
use Rattle.std.proofs.Common.{◌≡◌, ℕ, ◌+◌, ◌<◌, List, [], ◌∷◌, length, true, false, Result, Err, Some, refl, sym, ap, ◌∙◌, arith, inl, inr, lt-ltb, length-append, codes}
use Rattle.std.proofs.lemmas.List.{take_all, length-take-le}
use Rattle.std.proofs.lemmas.Bool.{cases_lt}
use Rattle.serde_json.specs.Data.{Data}
use Rattle.serde_json.specs.Written.{compact_text}
use Rattle.street_base.specs.declared.command.Command.{Command}
use Rattle.street_stream.specs.Lines.{is_blank, kept}
use Rattle.street_line.specs.Runs.{silent, faulty, calls, said, said_by, has_reply, served_line, Said, Done}
use Rattle.street_line.specs.declared.service.Served.{Served}
use Rattle.street_line.specs.declared.service.Served.TheVariants.{Answered, Full}
use Rattle.street_base.specs.declared.reply.Reply.{Reply}
use Rattle.street_text.specs.ReplyLines.{line_of, error_data, reply_data, reply_line}
use Rattle.street_text.specs.LineCommands.{reading, longest_line, Fails}
use Rattle.street_text.specs.declared.fault.LineFault.{LineFault}
use Rattle.street_text.specs.declared.fault.LineFault.TheVariants.{LineTooLong, NotJson, BadCommand, Starved}
use Rattle.street_text.specs.FaultLines.{fault_line}

both_long : (a b : List ℕ) → longest_line < length a → longest_line < length b → reading a ≡ reading b
unfolding reading
both_long a b g h = rw (lt-ltb longest_line (length a) g, lt-ltb longest_line (length b) h) refl

reading_kept : (line : List ℕ) → reading (kept longest_line line) ≡ reading line
unfolding kept
reading_kept line = elim (cases_lt longest_line (length line)) [
  | inl over ↦ both_long (kept longest_line line) line (omega (arith, length-take-le (longest_line + 1) line (omega arith))) over
  | inr under ↦ ap reading (take_all (longest_line + 1) line (omega arith))
]

pub said_blank : (line : List ℕ) → is_blank line ≡ true → said line ≡ silent
unfolding said
said_blank line h = rw h refl

said_full : (line : List ℕ) → is_blank line ≡ false → said line ≡ said_by (reading line)
unfolding said
said_full line h = rw h refl

-- what is kept says the same as the line
pub said_kept : (line bytes : List ℕ) → is_blank line ≡ false → bytes ≡ kept longest_line line → said line ≡ said_by (reading bytes)
said_kept line bytes h e = said_full line h ∙ ap said_by (sym (ap reading e ∙ reading_kept line))

-- what was refused, and is told by a line, is that fault
pub refused : (f : LineFault) (r : Result Command LineFault) (out : List ℕ) → Fails f r → fault_line f ≡ Some out → r ≡ Err f
refused LineTooLong r out is line = is
refused NotJson r out is line = is
refused BadCommand r out is line = is
refused Starved r out is line = absurd (cc)

pub line_some : (d : Data) → 0 < length (line_of d)
line_some d = omega (arith, length-append (compact_text d) (10 ∷ []))

-- a reply is told by its line, and that no place is left by error 23
pub line_is : (reply : Reply) → served_line (Answered reply) ≡ Some (reply_line reply)
unfolding served_line
line_is reply = refl

pub full_is : served_line Full ≡ Some (line_of (error_data 23 (codes "Full")))
unfolding served_line
full_is = refl

-- the line of a reply has some bytes
pub reply_some : (reply : Reply) → 0 < length (reply_line reply)
unfolding reply_line
reply_some reply = line_some (reply_data reply)

-- what has some bytes of output has a reply
pub some_reply : {S : Type 0} (serves : S → Command → Served → S → Type 0) (old : S) (what : Said) (out : List ℕ) (new : S) → Done serves old what out new → 0 < length out → has_reply what ≡ true
some_reply serves old silent out new done some = absurd (omega (arith, ap length done.1))
some_reply serves old (faulty f) out new done some = refl
some_reply serves old (calls c) out new done some = refl
