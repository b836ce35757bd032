use Rattle.std.proofs.Common.{◌≡◌, List, ◌++◌, All, vec_len}
use Rattle.street_desk.specs.History.{BeginsWith}
use Rattle.street_desk.specs.Passes.{Same}
use Rattle.street_line.specs.declared.script.Script.{Script}
use Rattle.street_runs.proofs.clients.hear_all.Given as goal

abbrev pub invariant-loop-script : goal.invariant-loop-script
invariant-loop-script g l = record {
  same : Same l.fn.pass l.pass;
  kept : BeginsWith l.pass.seen l.fn.pass.seen;
  desks : All (λ s. s.session.desk ≡ l.desk) l.scripts.items;
  told : (heard : List (Script g.row.R.Denot)) × (l.initial.scripts.items ≡ l.scripts.items ++ heard) × All (λ s. BeginsWith l.pass.seen s.session.seen) heard;
}

abbrev pub decreases-loop-script : goal.decreases-loop-script
decreases-loop-script g l = vec_len l.scripts
