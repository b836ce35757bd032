use Rattle.std.proofs.Common.{◌≡◌, drop}
use Rattle.street_line.specs.KeptFiles.{begins_foreign}
use Rattle.street_line.proofs.kept_file.has_foreign_begin.Given as goal

abbrev pub invariant-loop-byte : goal.invariant-loop-byte
invariant-loop-byte l = begins_foreign l.fn.bytes ≡ begins_foreign (drop l.byte-index l.fn.bytes)
