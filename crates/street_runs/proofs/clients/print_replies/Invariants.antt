use Rattle.std.proofs.Common.{take}
use Rattle.std.specs.Io.KnownBytes.{Appends}
use Rattle.street_runs.specs.Outputs.{replies_of}
use Rattle.street_runs.proofs.clients.print_replies.Given as goal

abbrev pub invariant-loop-script : goal.invariant-loop-script
invariant-loop-script g l = Appends (g.W.Write.contents l.fn.writer.stream) (g.W.Write.contents l.writer.stream) (replies_of (take l.script-index l.scripts))
