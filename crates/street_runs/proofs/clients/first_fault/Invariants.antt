use Rattle.std.proofs.Common.{ℕ, ◌<◌, length, slice_index_or, IsNone}
use Rattle.street_line.specs.declared.script.Script.{Script}
use Rattle.street_runs.proofs.clients.first_fault.Given as goal

abbrev pub invariant-loop-script : goal.invariant-loop-script
invariant-loop-script g l = (k : ℕ) (d : Script g.row.R.Denot) → k < length l.yielded → IsNone (slice_index_or l.scripts k d).fault
