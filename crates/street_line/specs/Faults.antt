-- What a fault leaves of a run.
use Rattle.std.specs.Prelude.{◌≡◌, ℕ, ◌≤◌, ◌⊎◌, List, ◌∷◌, ◌++◌, length, take, Option, count_by}
use Rattle.std.specs.Io.KnownBytes.{Appends, Consumes}
use Rattle.street_base.specs.declared.command.Command.{Command}
use Rattle.street_base.specs.declared.reply.Starved.{Starved as NoMemory}
use Rattle.street_stream.specs.Faults.{IsAtRead, CountsLines, CountsReplies}
use Rattle.street_stream.specs.Lines.{cut, lines_of}
use Rattle.street_stream.specs.declared.answer.StopCause.{StopCause}
use Rattle.street_stream.specs.declared.answer.StopCause.TheVariants.{Run, Line}
use Rattle.street_stream.specs.declared.tally.FaultKind.{FaultKind}
use Rattle.street_stream.specs.declared.tally.FaultKind.TheVariants.{Starved}
use Rattle.street_stream.specs.declared.tally.RunFault.{RunFault}
use Rattle.street_stream.specs.declared.tally.Tally.{Tally}
use Rattle.street_line.specs.declared.service.Served.{Served}
use Rattle.street_line.specs.declared.service.Served.TheVariants.{Unrecorded}
use Rattle.street_line.specs.Runs.{calls, is_call, has_reply, said, Goes, IsTally}

-- the kind of the fault for which a run ended: the run's own; where a line ended the run, that memory ran out
-- (`Starved`)
abbrev pub kind_of : StopCause NoMemory → FaultKind
kind_of (Run kind) = kind
kind_of (Line stop) = Starved

-- that the next of the lines ls calls a command that was served from `old` to `new` and has no answer (`Unrecorded`)
abbrev pub IsUnanswered : {S : Type 0} → (S → Command → Served → S → Type 0) → S → List (List ℕ) → S → Type 0
IsUnanswered serves old ls new = (line : List ℕ) × (more : List (List ℕ)) × (c : Command) × (ls ≡ line ∷ more) × (said line ≡ calls c) × serves old c Unrecorded new

-- that a fault ended a run: of the text's lines `done` were served, `start` to `now` (or one more with no answer), and
-- of their output the first `tally.bytes` bytes put behind `before` (none: unknown); `tally` counts; at a read, `done`
-- are all ended lines and their whole output is written
pub record Breaks {S : Type 0} (serves : S → Command → Served → S → Type 0) (start : S) (before : Option (List ℕ)) (text : List ℕ)
    (now : S) (after : Option (List ℕ)) (kind : FaultKind) (tally : Tally) : Type 0 where
  -- the lines that were served, those that were not, and the output of the first
  pub done : List (List ℕ)
  pub rest : List (List ℕ)
  pub out : List ℕ
  pub mid : S
  pub first_lines : lines_of text ≡ done ++ rest
  pub served : Goes serves start done out mid
  -- behind those lines nothing was served, or one command that is not answered
  pub ends : (now ≡ mid) ⊎ ((kind ≡ Starved) × IsUnanswered serves mid rest now)
  -- how much of the output of those lines is written
  pub within : tally.bytes ≤ length out
  pub written : Appends before after (take tally.bytes out)
  -- a line for which memory ran out, or that is not answered, was taken up
  pub lines : CountsLines kind tally done
  pub calls : tally.calls ≡ count_by (λ l. is_call (said l)) done
  pub replies : CountsReplies tally out (count_by (λ l. has_reply (said l)) done)
  pub whole : IsAtRead kind → (done ≡ (cut text).0) × IsTally tally done out

-- that a fault ended a run: of the text that it had read, `unread` to `left`, the first lines were served, `start` to
-- `now`, and first bytes of their output written, `before` to `after` (none where unknown), as the fault's kind and
-- tally say (`Breaks`)
pub record ServedInPart {S : Type 0} (serves : S → Command → Served → S → Type 0) (start : S) (unread before : Option (List ℕ))
    (now : S) (left after : Option (List ℕ)) (fault : RunFault) : Type 0 where
  pub text : List ℕ
  pub read : Consumes unread left text
  pub breaks : Breaks serves start before text now after fault.kind fault.tally
