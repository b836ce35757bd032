use Rattle.std.proofs.Common.{sym, ap, ◌∙◌, length, arith}
use Rattle.std.proofs.lemmas.Bool.{eqb-true, eqb-false}
use Rattle.std.proofs.lemmas.Result.{err_from_is_err_and}
use Rattle.street_stream.proofs.Breaks.{last_breaks}
use Rattle.street_stream.proofs.Feeds.{finishes_none, finishes_line}
use Rattle.street_stream.proofs.driver.finish.Goals as goal

pub returns-then-is_empty-clause-finishes : goal.returns-then-is_empty-clause-finishes
returns-then-is_empty-clause-finishes g c =
    record {
      finishes = finishes_none g.H.LineHandler.meaning.takes g.H.LineHandler.meaning.longest _ _ c.args.progress.now (λ line part. ap length (sym (c.as_slice.ensures _ line part)) ∙ eqb-true _ 0 (sym c.if-is_empty.ensures));
      grows = record { lines = omega arith; within = c.requires.within };
      broken = tt;
      caused = tt;
    }

pub returns-in_err-end_line-clause-finishes : goal.returns-in_err-end_line-clause-finishes
returns-in_err-end_line-clause-finishes g c =
    let p = err_from_is_err_and c.from_residual.result c.from_residual.ensures.1 in
    rw (p.1, p.2) (record {
      finishes = tt;
      grows = tt;
      broken = last_breaks g.H.LineHandler.meaning.takes g.H.LineHandler.meaning.stops g.H.LineHandler.meaning.longest _ _ _ _ c.args.progress.now _ _ (λ line part none. eqb-false _ 0 (sym c.if-is_empty.ensures) (ap length (c.as_slice.ensures _ line part) ∙ none)) c.in_err-end_line.ensures.takes.broken;
      caused = c.in_err-end_line.ensures.takes.caused;
    })

pub returns-clause-finishes : goal.returns-clause-finishes
returns-clause-finishes g c =
    record {
      finishes = finishes_line g.H.LineHandler.meaning.takes g.H.LineHandler.meaning.longest _ _ _ _ c.args.progress.now _ (λ line part none. eqb-false _ 0 (sym c.if-is_empty.ensures) (ap length (c.as_slice.ensures _ line part) ∙ none)) c.in_ok-end_line.ensures.takes.taken;
      grows = c.in_ok-end_line.ensures.takes.grows;
      broken = tt;
      caused = tt;
    }
