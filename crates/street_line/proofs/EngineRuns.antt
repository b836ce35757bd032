-- Lines served by an engine are answered as the machine answers them, and what the machine says is a run of their commands.
use Rattle.std.proofs.Common.{◌≡◌, ◌⊎◌, ℕ, List, [], ◌∷◌, ◌++◌, Option, inl, inr, refl, sym, subst}
use Rattle.street_base.specs.declared.command.Command.{Command}
use Rattle.street_base.specs.declared.reply.Outcome.{Outcome}
use Rattle.street_base.specs.declared.reply.Reply.{Reply}
use Rattle.street_base.specs.Prelude.{Runs, State}
use Rattle.street_stream.specs.declared.tally.FaultKind.{FaultKind}
use Rattle.street_stream.specs.declared.tally.FaultKind.TheVariants.{Starved}
use Rattle.street_stream.specs.declared.tally.RunFault.{RunFault}
use Rattle.street_stream.specs.declared.tally.Tally.{Tally}
use Rattle.street_stream.specs.Lines.{lines_of}
use Rattle.street_engine.specs.Prelude.{EngineView, StandsFor}
use Rattle.street_line.specs.declared.service.Served.{Served}
use Rattle.street_line.specs.declared.service.Served.TheVariants.{Answered, Full, Unrecorded}
use Rattle.street_line.specs.Faults.{Breaks, IsUnanswered, ServedInPart}
use Rattle.street_line.specs.Runs.{Said, silent, faulty, calls, said, Done, Goes, ServedWhole}
use Rattle.street_line.specs.Engines.{EngineServes, MachineServes, called, commands_of}

-- one command
pub served-machine : (before : EngineView) (command : Command) (served : Served) (after : EngineView) → EngineServes before command served after → (old : State) → StandsFor before old → (new : State) × MachineServes old command served new × StandsFor after new
served-machine before command (Answered reply) after h old stands =
    let step = h.1 old stands in
    (step.0, (h.0, step.1), step.2)
served-machine before command Full after h old stands = absurd h
served-machine before command Unrecorded after h old stands = absurd h

-- lines that are served by what stands for something else are served by that, which then stands for what this leads to
module _ {S M : Type 0} (serves : S → Command → Served → S → Type 0) (answers : M → Command → Served → M → Type 0) (Stands : S → M → Type 0)
    (one : (before : S) (command : Command) (served : Served) (after : S) → serves before command served after → (old : M) → Stands before old
    → (new : M) × answers old command served new × Stands after new) where
  -- one line
  done-as : (before : S) (what : Said) (out : List ℕ) (after : S) → Done serves before what out after → (old : M) → Stands before old → (new : M) × Done answers old what out new × Stands after new
  done-as before silent out after h old stands = (old, (refl, h.1), subst (λ (v : S). Stands v old) (sym h.0) stands)
  done-as before (faulty fault) out after h old stands = (old, (refl, h.1), subst (λ (v : S). Stands v old) (sym h.0) stands)
  done-as before (calls command) out after h old stands =
      let step = one before command h.0 after h.1 old stands in
      (step.0, (h.0, step.1, h.2), step.2)

  -- all lines
  goes-as : (before : S) (ls : List (List ℕ)) (out : List ℕ) (after : S) → Goes serves before ls out after → (old : M) → Stands before old → (new : M) × Goes answers old ls out new × Stands after new
  goes-as before [] out after h old stands = (old, (refl, h.1), subst (λ (v : S). Stands v old) (sym h.0) stands)
  goes-as before (l ∷ ls) out after h old stands =
      let first = done-as before (said l) h.1 h.0 h.3 old stands in
      let rest = goes-as h.0 ls h.2 after h.4 first.0 first.2 in
      (rest.0, (first.0, h.1, h.2, first.1, rest.1, h.5), rest.2)

  -- and a command that is not answered behind them
  ends-as : (kind : FaultKind) (before : S) (rest : List (List ℕ)) (after : S) → (after ≡ before) ⊎ ((kind ≡ Starved) × IsUnanswered serves before rest after) → (old : M) → Stands before old
      → (new : M) × ((new ≡ old) ⊎ ((kind ≡ Starved) × IsUnanswered answers old rest new)) × Stands after new
  ends-as kind before rest after (inl same) old stands = (old, inl refl, subst (λ (v : S). Stands v old) (sym same) stands)
  ends-as kind before rest after (inr (starved, (line, more, c, behind, says, served))) old stands =
      let step = one before c Unrecorded after served old stands in
      (step.0, inr (starved, (line, more, c, behind, says, step.1)), step.2)

  -- and where a fault came
  breaks-as : (before : S) (held : Option (List ℕ)) (text : List ℕ) (after : S) (holds : Option (List ℕ)) (kind : FaultKind) (tally : Tally)
      → Breaks serves before held text after holds kind tally → (old : M) → Stands before old
      → (new : M) × Breaks answers old held text new holds kind tally × Stands after new
  breaks-as before held text after holds kind tally h old stands =
      let told = goes-as before h.done h.out h.mid h.served old stands in
      let last = ends-as kind h.mid h.rest after h.ends told.0 told.2 in (
        last.0,
        record {
          done = h.done;
          rest = h.rest;
          out = h.out;
          mid = told.0;
          first_lines = h.first_lines;
          served = told.1;
          ends = last.1;
          within = h.within;
          written = h.written;
          lines = h.lines;
          calls = h.calls;
          replies = h.replies;
          whole = h.whole;
        },
        last.2,
      )

  -- a whole run, and one that a fault ended
  pub whole-as : (before : S) (unread held : Option (List ℕ)) (after : S) (left holds : Option (List ℕ)) (tally : Tally)
      → ServedWhole serves before unread held after left holds tally → (old : M) → Stands before old
      → (new : M) × Stands after new × ServedWhole answers old unread held new left holds tally
  whole-as before unread held after left holds tally run old stands =
      let told = goes-as before (lines_of run.text) run.out after run.served old stands in (
        told.0,
        told.2,
        record { text = run.text; out = run.out; read = run.read; at_end = run.at_end; served = told.1; written = run.written; counted = run.counted },
      )

  pub part-as : (before : S) (unread held : Option (List ℕ)) (after : S) (left holds : Option (List ℕ)) (fault : RunFault)
      → ServedInPart serves before unread held after left holds fault → (old : M) → Stands before old
      → (new : M) × Stands after new × ServedInPart answers old unread held new left holds fault
  part-as before unread held after left holds fault run old stands =
      let told = breaks-as before held run.text after holds fault.kind fault.tally run.breaks old stands in
      (told.0, told.2, record { text = run.text; read = run.read; breaks = told.1 })

-- ---- a run

one-run : (old : State) (what : Said) (out : List ℕ) (mid : State) (cs : List Command) (new : State) → Done MachineServes old what out mid
    → (answers : List (Reply × Outcome)) × Runs mid cs answers new → (answers : List (Reply × Outcome)) × Runs old (called what ++ cs) answers new
one-run old silent out mid cs new done rest = subst (λ (m : State). (answers : List (Reply × Outcome)) × Runs m cs answers new) done.0 rest
one-run old (faulty f) out mid cs new done rest = subst (λ (m : State). (answers : List (Reply × Outcome)) × Runs m cs answers new) done.0 rest
one-run old (calls c) out mid cs new done rest = one-call old c done.0 mid cs new done.1 rest
  where
    one-call : (old : State) (c : Command) (served : Served) (mid : State) (cs : List Command) (new : State) → MachineServes old c served mid
        → (answers : List (Reply × Outcome)) × Runs mid cs answers new → (answers : List (Reply × Outcome)) × Runs old (c ∷ cs) answers new
    one-call old c (Answered reply) mid cs new h rest = ((reply, h.0) ∷ rest.0, (mid, h.1, rest.1))
    one-call old c Full mid cs new h rest = absurd h
    one-call old c Unrecorded mid cs new h rest = absurd h

-- what the machine says to lines is a run of the commands among them
pub goes-runs : (old : State) (ls : List (List ℕ)) (out : List ℕ) (new : State) → Goes MachineServes old ls out new → (answers : List (Reply × Outcome)) × Runs old (commands_of ls) answers new
goes-runs old [] out new h = ([], h.0)
goes-runs old (l ∷ ls) out new h = one-run old (said l) h.1 h.0 (commands_of ls) new h.3 (goes-runs h.0 ls h.2 new h.4)
