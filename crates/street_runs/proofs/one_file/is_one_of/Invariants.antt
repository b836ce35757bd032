use Rattle.std.proofs.Common.{◌≢◌, ℕ, ◌<◌, slice_index_or, Option, IsSome}
use Rattle.street_runs.specs.declared.one_file.FileMark.{FileMark}
use Rattle.street_runs.proofs.one_file.is_one_of.Given as goal

abbrev pub invariant-loop-other : goal.invariant-loop-other
invariant-loop-other l = IsSome l.fn.mark → (k : ℕ) (d : Option FileMark) → k < l.other-index → l.fn.mark ≢ slice_index_or l.fn.others k d
