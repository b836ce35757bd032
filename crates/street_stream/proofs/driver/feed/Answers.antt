use Rattle.std.proofs.Common.{[], ◌++◌, take, refl, sym, ◌∙◌, ap, arith, append-nil, List, ℕ}
use Rattle.std.proofs.lemmas.Result.{err_from_is_err_and}
use Rattle.street_stream.proofs.Breaks.{feed_breaks, part_breaks}
use Rattle.street_stream.proofs.Calls.{no_writes, writes_more}
use Rattle.street_stream.proofs.Feeds.{feeds_none, feeds_inside, feeds_both}
use Rattle.street_stream.proofs.LinesFound.{rest_from, part_inside, rest_inside, line_found, line_between, rest_behind}
use Rattle.street_stream.specs.declared.driver.Progress.{Progress}
use Rattle.street_stream.proofs.driver.feed.Goals as goal

pub lines-init : goal.lines-init
lines-init g c = (omega arith, feeds_none g.H.LineHandler.meaning.takes g.H.LineHandler.meaning.longest _ _ _, record { lines = omega arith; within = c.requires.within }, no_writes g.W.Sink.takes _)

pub take_line-requires-clause-inside : goal.take_line-requires-clause-inside
take_line-requires-clause-inside g c = part_inside c.args.bytes.now c.lines.at c.in-Some.size c.in-Some.ensures.0.before

pub lines-preserved : goal.lines-preserved
lines-preserved g c =
    let found = line_found c.args.bytes.now c.lines.at c.in-Some.size c.in-Some.ensures.0.high c.in-Some.ensures.1 in
    let fed = c.in_ok-take_line.ensures in (
      found.0,
      feeds_both g.H.LineHandler.meaning.takes g.H.LineHandler.meaning.longest _ _ _ _ _ _ _ _ _ _ _ _ (sym found.1) c.lines.invariant.1 fed.feeds.feeds,
      record { lines = omega (arith, fed.feeds.grows.lines, c.lines.invariant.2.lines); within = fed.feeds.grows.within },
      writes_more g.W.Sink.takes _ _ _ c.lines.invariant.3 fed.calls,
    )

pub returns-in_err-take_line-clause-feeds : goal.returns-in_err-take_line-clause-feeds
returns-in_err-take_line-clause-feeds g c =
    let p = err_from_is_err_and c.from_residual.result c.from_residual.ensures.1 in
    let split = line_between c.args.bytes.now c.lines.at c.in-Some.size c.in-Some.ensures.0.high c.in-Some.ensures.1 in
    rw (p.1, p.2) (record {
      feeds = tt;
      grows = tt;
      broken = feed_breaks g.H.LineHandler.meaning.takes g.H.LineHandler.meaning.stops g.H.LineHandler.meaning.longest _ _ _ _ _ _ c.args.progress.now c.lines.progress _ _ c.args.bytes.now _ _ _ split c.lines.invariant.1 c.in_err-take_line.ensures.feeds.broken;
      caused = c.in_err-take_line.ensures.feeds.caused;
    })

pub returns-in_err-extend-clause-feeds : goal.returns-in_err-extend-clause-feeds
returns-in_err-extend-clause-feeds g c =
    let p = err_from_is_err_and c.from_residual-in_err-extend.result c.from_residual-in_err-extend.ensures.1 in
    let rest = rest_from c.args.bytes.now c.lines.at in
    let split = ap (λ (b : List ℕ). take c.lines.at c.args.bytes.now ++ b) (append-nil rest) ∙ rest_behind c.args.bytes.now c.lines.at in
    rw (p.1, p.2) (record {
      feeds = tt;
      grows = tt;
      broken = feed_breaks g.H.LineHandler.meaning.takes g.H.LineHandler.meaning.stops g.H.LineHandler.meaning.longest _ _ _ _ _ _ c.args.progress.now c.lines.progress _ _ c.args.bytes.now _ rest [] split c.lines.invariant.1 (part_breaks g.H.LineHandler.meaning.takes g.H.LineHandler.meaning.stops g.H.LineHandler.meaning.longest _ _ c.lines.progress rest _ refl);
      caused = tt;
    })

pub returns-clause-feeds : goal.returns-clause-feeds
returns-clause-feeds g c =
    let mid : Progress = record c.lines.progress { part = c.extend.new.self } in
    let rest = rest_from c.args.bytes.now c.lines.at in
    let inside = rest_inside c.args.bytes.now c.lines.at c.in_default.ensures in
    record {
      feeds = feeds_both g.H.LineHandler.meaning.takes g.H.LineHandler.meaning.longest _ _ _ _ _ _ c.args.progress.now c.lines.progress mid c.args.bytes.now _ rest (rest_behind c.args.bytes.now c.lines.at) c.lines.invariant.1 (feeds_inside g.H.LineHandler.meaning.takes g.H.LineHandler.meaning.longest _ _ c.lines.progress mid rest inside (λ line part. c.in_ok-extend.ensures _ line part) refl);
      grows = record { lines = omega (arith, c.lines.invariant.2.lines, c.lines.invariant.0); within = c.lines.invariant.2.within };
      broken = tt;
      caused = tt;
    }

pub returns-in_err-take_line-clause-calls : goal.returns-in_err-take_line-clause-calls
returns-in_err-take_line-clause-calls g c = writes_more g.W.Sink.takes _ _ _ c.lines.invariant.3 c.in_err-take_line.ensures.calls
