use Rattle.std.proofs.Common.{◌≡◌, ℕ, ◌<◌, ◌≤◌, length, get_or}
use Rattle.street_team.proofs.team.work_here.Given as goal

abbrev pub invariant-loop-number : goal.invariant-loop-number
invariant-loop-number g l = record {
  long : length l.items ≡ length l.fn.items;
  done : (k : ℕ) (d : _) → k < l.number → g.W.TeamWork.does l.part k l.shown (get_or l.fn.items k d) (get_or l.items k d);
  rest : (k : ℕ) (d : _) → l.number ≤ k → get_or l.items k d ≡ get_or l.fn.items k d;
}
