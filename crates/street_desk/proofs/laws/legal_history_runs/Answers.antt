use Rattle.std.proofs.Common.{List, [], ◌∷◌, map, refl}
use Rattle.street_base.specs.Prelude.{State, Runs, state_after}
use Rattle.street_desk.specs.declared.journal.Entry.{Entry}
use Rattle.street_desk.specs.History.{answers_from, state_from, IsLegalFrom}
use Rattle.street_desk.proofs.laws.legal_history_runs.Goals as goal

runs_from : (m : State) (history : List Entry) → IsLegalFrom m history → Runs m (map (λ e. e.command) history) (answers_from m history) (state_from m history)
runs_from m [] l = refl
runs_from m (e ∷ es) l = (state_after m e.command e.outcome, record { allowed = l.0; state_is = refl; reply_is = refl }, runs_from (state_after m e.command e.outcome) es l.1)

pub returns : goal.returns
returns c = λ history l. runs_from _ history l
