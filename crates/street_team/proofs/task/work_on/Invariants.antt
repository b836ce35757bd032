use Rattle.std.proofs.Common.{◌≡◌, ℕ, ◌+◌, ◌<◌, ◌≤◌, length, get_or}
use Rattle.street_team.proofs.task.work_on.Given as goal

abbrev pub invariant-loop-at : goal.invariant-loop-at
invariant-loop-at g l = record {
  long : length l.items ≡ length l.fn.items;
  last : l.last ≡ length l.fn.items;
  done : (j k : ℕ) (d : _) → j < l.at → j + k + 1 ≡ length l.fn.items → g.W.TeamWork.does l.part (l.first + k) l.shown (get_or l.fn.items j d) (get_or l.items j d);
  rest : (j : ℕ) (d : _) → l.at ≤ j → get_or l.items j d ≡ get_or l.fn.items j d;
}
