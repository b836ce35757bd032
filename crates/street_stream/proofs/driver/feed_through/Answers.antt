use Rattle.std.proofs.lemmas.Result.{err_from_is_err_and}
use Rattle.street_stream.proofs.Breaks.{fed_breaks}
use Rattle.street_stream.proofs.Feeds.{feeds_kept}
use Rattle.street_stream.proofs.driver.feed_through.Goals as goal

pub returns-in_err-flush_out-clause-feeds : goal.returns-in_err-flush_out-clause-feeds
returns-in_err-flush_out-clause-feeds g c =
    let p = err_from_is_err_and c.from_residual-in_err-flush_out.result c.from_residual-in_err-flush_out.ensures.1 in
    rw (p.1, p.2, c.in_err-flush_out.ensures.failed.0) (record {
      feeds = tt;
      grows = tt;
      broken = fed_breaks g.H.LineHandler.meaning.takes g.H.LineHandler.meaning.stops g.H.LineHandler.meaning.longest _ _ _ _ _ c.args.progress.now c.feed.new.progress _ c.in_ok-feed.ensures.feeds.feeds c.in_err-flush_out.ensures.kept;
      caused = c.in_err-flush_out.ensures.failed.1;
    })

pub returns-clause-feeds : goal.returns-clause-feeds
returns-clause-feeds g c =
    record {
      feeds = feeds_kept g.H.LineHandler.meaning.takes g.H.LineHandler.meaning.longest _ _ _ _ _ c.args.progress.now c.feed.new.progress _ c.in_ok-feed.ensures.feeds.feeds c.in_ok-flush_out.ensures.kept;
      grows = c.in_ok-feed.ensures.feeds.grows;
      broken = tt;
      caused = tt;
    }
