use Rattle.std.proofs.Common.{inl, inr, ◌∙◌, sym, arith}
use Rattle.street_line.proofs.Foreign.{begins, longer}
use Rattle.street_line.proofs.kept_file.is_foreign.Goals as goal

pub returns-then-count-gt0 : goal.returns-then-count-gt0
returns-then-count-gt0 g c told text has =
    let ok = c.in-Ok.ensures in
    inl (longer (g.K.WriteAheadLog.held c.args.file.now) 1048576 c.in-Ok.count c.read_at.new.buffer text ok.bytes.0 ok.bound.0 (omega arith) has)

pub returns-in-Ok-read_at : goal.returns-in-Ok-read_at
returns-in-Ok-read_at g c told text has =
    inr (begins (g.K.WriteAheadLog.held c.args.file.now) c.in-Ok-read_at.count c.read_at-2.new.buffer text c.in-Ok-read_at.ensures.bytes.0 (sym c.has_foreign_begin.ensures ∙ told) has)
