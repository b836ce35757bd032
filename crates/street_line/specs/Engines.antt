-- An engine that serves lines, and the machine that it stands for.
use Rattle.std.specs.Prelude.{ℕ, List, [], ◌∷◌, ◌++◌}
use Rattle.street_base.specs.declared.command.Command.{Command}
use Rattle.street_base.specs.declared.reply.Outcome.{Outcome}
use Rattle.street_base.specs.Prelude.{State, Answers, Runs}
use Rattle.street_base.specs.declared.reply.Reply.{Reply}
use Rattle.street_engine.specs.Prelude.{EngineView, Serves}
use Rattle.street_line.specs.declared.service.Served.{Served}
use Rattle.street_line.specs.declared.service.Served.TheVariants.{Answered, Full, Unrecorded}
use Rattle.street_line.specs.Runs.{Said, silent, faulty, calls, said}

-- that an engine answered a command as the machine does under some outcome, from any state for which it stood
-- (`Serves`); it is never full, and leaves no command unanswered
abbrev pub EngineServes : EngineView → Command → Served → EngineView → Type 0
EngineServes before command (Answered reply) after = (outcome : Outcome) × Serves before command reply outcome after
EngineServes before command Full after = ⊥
EngineServes before command Unrecorded after = ⊥

-- that the machine answered a command under some outcome, which leads from state `old` to `new`; it is never full, and
-- leaves no command unanswered
abbrev pub MachineServes : State → Command → Served → State → Type 0
MachineServes old command (Answered reply) new = (outcome : Outcome) × Answers old command reply outcome new
MachineServes old command Full new = ⊥
MachineServes old command Unrecorded new = ⊥

-- the command that a line calls, as a list of one; none where the line is blank or faulty
abbrev pub called : Said → List Command
called silent = []
called (faulty fault) = []
called (calls command) = command ∷ []

-- the commands that these lines call, in the order of the lines, blank and faulty lines left out
abbrev pub commands_of : List (List ℕ) → List Command
commands_of [] = []
commands_of (l ∷ ls) = called (said l) ++ commands_of ls

-- that the commands that these lines call, blank and faulty lines left out, are with some replies and outcomes a run of
-- the machine from state `old` to `new`
abbrev pub AreRunOf : State → List (List ℕ) → State → Type 0
AreRunOf old ls new = (answers : List (Reply × Outcome)) × Runs old (commands_of ls) answers new
