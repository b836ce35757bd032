use Rattle.std.proofs.Common.{[], ◌∷◌, refl}
use Rattle.std.proofs.lemmas.Result.{err_from_is_err_and}
use Rattle.street_stream.proofs.Breaks.{newline_breaks, part_breaks, feed_breaks}
use Rattle.street_stream.proofs.Feeds.{feeds_newline, feeds_inside, feeds_more}
use Rattle.street_stream.specs.declared.driver.Progress.{Progress}
use Rattle.street_stream.proofs.driver.take_line.Goals as goal

pub returns-clause-feeds : goal.returns-clause-feeds
returns-clause-feeds g c =
    let mid : Progress = record c.args.progress.now { part = c.extend.new.self } in
    let inside = feeds_inside g.H.LineHandler.meaning.takes g.H.LineHandler.meaning.longest _ _ c.args.progress.now mid c.args.bytes.now c.requires.inside (λ line part. c.in_ok-extend.ensures _ line part) refl in
    record {
      feeds = feeds_more g.H.LineHandler.meaning.takes g.H.LineHandler.meaning.longest _ _ _ _ _ _ c.args.progress.now mid _ c.args.bytes.now (10 ∷ []) inside (feeds_newline g.H.LineHandler.meaning.takes g.H.LineHandler.meaning.longest _ _ _ _ mid _ (λ line part. c.clear.ensures _ line part) c.in_ok-end_line.ensures.takes.taken);
      grows = c.in_ok-end_line.ensures.takes.grows;
      broken = tt;
      caused = tt;
    }

pub returns-in_err-end_line-clause-feeds : goal.returns-in_err-end_line-clause-feeds
returns-in_err-end_line-clause-feeds g c =
    let p = err_from_is_err_and c.from_residual-in_err-end_line.result c.from_residual-in_err-end_line.ensures.1 in
    let mid : Progress = record c.args.progress.now { part = c.extend.new.self } in
    let inside = feeds_inside g.H.LineHandler.meaning.takes g.H.LineHandler.meaning.longest _ _ c.args.progress.now mid c.args.bytes.now c.requires.inside (λ line part. c.in_ok-extend.ensures _ line part) refl in
    rw (p.1, p.2) (record {
      feeds = tt;
      grows = tt;
      broken = feed_breaks g.H.LineHandler.meaning.takes g.H.LineHandler.meaning.stops g.H.LineHandler.meaning.longest _ _ _ _ _ _ c.args.progress.now mid _ _ _ c.args.bytes.now (10 ∷ []) [] refl inside (newline_breaks g.H.LineHandler.meaning.takes g.H.LineHandler.meaning.stops g.H.LineHandler.meaning.longest _ _ _ _ mid _ _ c.in_err-end_line.ensures.takes.broken);
      caused = c.in_err-end_line.ensures.takes.caused;
    })

pub returns-in_err-extend-clause-feeds : goal.returns-in_err-extend-clause-feeds
returns-in_err-extend-clause-feeds g c =
    let p = err_from_is_err_and c.from_residual.result c.from_residual.ensures.1 in
    rw (p.1, p.2) (record {
      feeds = tt;
      grows = tt;
      broken = part_breaks g.H.LineHandler.meaning.takes g.H.LineHandler.meaning.stops g.H.LineHandler.meaning.longest _ _ c.args.progress.now _ _ refl;
      caused = tt;
    })
