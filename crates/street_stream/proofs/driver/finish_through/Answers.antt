use Rattle.std.proofs.lemmas.Result.{err_from_is_err_and}
use Rattle.street_stream.proofs.Breaks.{finished_breaks}
use Rattle.street_stream.proofs.Feeds.{finishes_kept}
use Rattle.street_stream.proofs.driver.finish_through.Goals as goal

pub returns-in_err-flush_out-clause-finishes : goal.returns-in_err-flush_out-clause-finishes
returns-in_err-flush_out-clause-finishes g c =
    let p = err_from_is_err_and c.from_residual-in_err-flush_out.result c.from_residual-in_err-flush_out.ensures.1 in
    rw (p.1, p.2, c.in_err-flush_out.ensures.failed.0) (record {
      finishes = tt;
      grows = tt;
      broken = finished_breaks g.H.LineHandler.meaning.takes g.H.LineHandler.meaning.stops g.H.LineHandler.meaning.longest _ _ _ _ _ c.args.progress.now _ c.in_ok-finish.ensures.finishes.finishes c.in_err-flush_out.ensures.kept;
      caused = c.in_err-flush_out.ensures.failed.1;
    })

pub returns-clause-finishes : goal.returns-clause-finishes
returns-clause-finishes g c =
    record {
      finishes = finishes_kept g.H.LineHandler.meaning.takes g.H.LineHandler.meaning.longest _ _ _ _ _ c.args.progress.now _ c.in_ok-finish.ensures.finishes.finishes c.in_ok-flush_out.ensures.kept;
      grows = c.in_ok-finish.ensures.finishes.grows;
      broken = tt;
      caused = tt;
    }
