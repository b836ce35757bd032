use Rattle.std.proofs.Common.{◌∙◌, arith, length-append}
use Rattle.std.proofs.KnownBytes.{Appends-trans}
use Rattle.std.proofs.lemmas.Result.{err_from_is_err_and}
use Rattle.street_tape.specs.Tapes.{head_line}
use Rattle.street_tape.proofs.Prefixes.{prefix_second, prefix_whole}
use Rattle.street_tape.proofs.upgrades.write_lines.Goals as goal

pub returns-in_err-write_line-2-clause-part : goal.returns-in_err-write_line-2-clause-part
returns-in_err-write_line-2-clause-part g c =
    let head = c.as_slice.ensures.value ∙ c.in_ok-head_text.ensures in
    let wrote = rw head at c.in_ok-write_line.ensures.written in
    let p = err_from_is_err_and c.from_residual-in_err-write_line-2.result c.from_residual-in_err-write_line-2.ensures.1 in
    let failed = c.in_err-write_line-2.ensures.failed in
    rw (p.1, p.2) (rw failed.0 failed.1, prefix_second _ _ _ _ _ (head_line c.args.calls) c.args.lines.now wrote.1 (omega (arith, wrote.0)) c.in_err-write_line-2.ensures.part)

pub returns-in_err-flush_out-clause-part : goal.returns-in_err-flush_out-clause-part
returns-in_err-flush_out-clause-part g c =
    let head = c.as_slice.ensures.value ∙ c.in_ok-head_text.ensures in
    let wrote = rw head at c.in_ok-write_line.ensures.written in
    let lines = c.in_ok-write_line-2.ensures.written in
    let p = err_from_is_err_and c.from_residual-in_err-flush_out.result c.from_residual-in_err-flush_out.ensures.1 in
    let failed = c.in_err-flush_out.ensures.failed in
    rw (p.1, p.2) (
      rw failed.0 failed.1,
      prefix_whole _ _ _ _ _ (Appends-trans _ _ _ _ _ wrote.1 lines.1) c.in_err-flush_out.ensures.kept (omega (arith, wrote.0, lines.0, length-append (head_line c.args.calls) c.args.lines.now)),
    )
