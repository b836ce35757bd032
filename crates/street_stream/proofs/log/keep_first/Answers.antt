use Rattle.std.proofs.Common.{arith, length}
use Rattle.std.proofs.KnownBytes.{Appends-kept}
use Rattle.std.proofs.Math.Seq.{take-length}
use Rattle.street_stream.proofs.log.keep_first.Goals as goal

pub returns-in-Err-flush_out-clause-stops : goal.returns-in-Err-flush_out-clause-stops
returns-in-Err-flush_out-clause-stops g c =
    let kept = c.in-Ok.ensures.kept in (
      kept.0,
      kept.1,
      (length c.args.replies.now, omega arith, rw (take-length c.args.replies.now) (Appends-kept _ _ _ c.args.replies.now c.in-Ok-write_text.ensures.written c.flush_out.ensures.kept)),
      c.in-Err-flush_out.ensures.failed.1,
    )
