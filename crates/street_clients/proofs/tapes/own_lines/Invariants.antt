use Rattle.std.proofs.Common.{◌≡◌, ◌++◌, length}
use Rattle.street_clients.specs.Replies.{own_lines}
use Rattle.street_stream.specs.Lines.{cut}
use Rattle.street_clients.proofs.tapes.own_lines.Given as goal

abbrev pub invariant-loop-call : goal.invariant-loop-call
invariant-loop-call l =
    l.own.items ++ own_lines l.session (cut l.calls).0 (cut l.replies).0 ≡ own_lines l.session (cut l.initial.calls).0 (cut l.initial.replies).0

abbrev pub decreases-loop-call : goal.decreases-loop-call
decreases-loop-call l = length l.calls
