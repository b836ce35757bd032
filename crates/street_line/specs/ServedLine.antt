-- A line that is served, as a handler of lines sees it.
use Rattle.std.specs.Prelude.{◌≡◌, ◌⊎◌, List, ℕ, Bool, true, false, Option, Some, None}
use Rattle.street_base.specs.declared.command.Command.{Command}
use Rattle.street_stream.specs.HandledLines.{Effect, Gives}
use Rattle.street_stream.specs.declared.answer.LineAnswer.{LineAnswer}
use Rattle.street_line.specs.Runs.{Said, calls, is_call, has_reply, said, served_line, Done}
use Rattle.street_line.specs.declared.service.Served.{Served}
use Rattle.street_line.specs.declared.service.Served.TheVariants.{Unrecorded}

-- the output of a line as its reply; none where the line gets no reply
abbrev pub reply_of : Bool → List ℕ → Option (List ℕ)
reply_of false out = None
reply_of true out = Some out

-- the effect of a line that says `what` and has the output `out`, as a handler of lines tells it: whether the line
-- calls a command, and `out` as its reply; a blank line has no reply
abbrev pub effect_of : Said → List ℕ → Effect
effect_of what out = record { is_call = is_call what; reply = reply_of (has_reply what) out }

-- that `answer` is a handler's answer to a command that was served so: a call, with its line of reply, or word that
-- memory ran out for it; so never of a command that has no reply line (`Unrecorded`)
abbrev pub IsAnswerTo : Served → LineAnswer → Type 0
IsAnswerTo served answer = (out : List ℕ) × (served_line served ≡ Some out) × Gives answer (record { is_call = true; reply = Some out })

-- that a line that says `what` was served, from `old` to `new`, and `effect` is what it gave: whether it called a
-- command, and its reply: a command's or the line's fault, none where the line is blank
abbrev pub IsAnswered : {S : Type 0} → (S → Command → Served → S → Type 0) → S → Said → Effect → S → Type 0
IsAnswered serves old what effect new = (out : List ℕ) × Done serves old what out new × (effect ≡ effect_of what out)

-- that a line that says `what` was served, from `old` to `new`, a command as `serves` says, and the handler's `answer`
-- tells its effect: whether it called a command, and its reply, or that memory ran out for the reply
abbrev pub IsAnsweredBy : {S : Type 0} → (S → Command → Served → S → Type 0) → S → Said → LineAnswer → S → Type 0
IsAnsweredBy serves old what answer new = (effect : Effect) × IsAnswered serves old what effect new × Gives answer effect

-- that this line, blank, faulty or a command's, was served, from `old` to `new`, and `effect` is what it gave: whether
-- it called a command, and its reply, none where it is blank
abbrev pub IsServed : {S : Type 0} → (S → Command → Served → S → Type 0) → S → List ℕ → Effect → S → Type 0
IsServed serves old line effect new = IsAnswered serves old (said line) effect new

-- that a line that says `what` ended a run: nothing was served and `new` is `old`, or the line calls a command that was
-- served and has no answer (`Unrecorded`)
abbrev pub StopsAt : {S : Type 0} → (S → Command → Served → S → Type 0) → S → Said → S → Type 0
StopsAt serves old what new = (new ≡ old) ⊎ ((c : Command) × (what ≡ calls c) × serves old c Unrecorded new)
