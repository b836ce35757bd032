use Rattle.std.proofs.Common.{◌≡◌, ◌≤◌, take, length, vec_len, vec_capacity}
use Rattle.street_engine.specs.Prelude.{ServesAll}
use Rattle.street_engine.proofs.engine.Engine.apply_all.Given as goal

abbrev pub invariant-loop-command : goal.invariant-loop-command
invariant-loop-command g l = record {
  run : ServesAll l.fn.self (take l.command-index l.commands) l.replies.items l.self;
  room : length l.commands ≤ vec_capacity l.replies;
  so_far : vec_len l.replies ≡ l.command-index;
}
