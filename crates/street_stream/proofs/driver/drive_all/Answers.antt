use Rattle.std.proofs.Common.{arith, refl, ◌≡◌, ◌+◌, List, ℕ, [], ◌++◌, take, append-nil}
use Rattle.std.specs.Prelude.{⊤}
use Rattle.std.proofs.lemmas.List.{length-take}
use Rattle.std.proofs.lemmas.Result.{err_from_is_err_and}
use Rattle.std.proofs.KnownBytes.{Consumes-nil, Consumes-trans, Consumes-kept}
use Rattle.street_stream.proofs.Breaks.{breaks_at, read_breaks}
use Rattle.street_stream.proofs.Calls.{breaks_off, one_round}
use Rattle.street_stream.proofs.Caused.{caused_by_line}
use Rattle.street_stream.proofs.Feeds.{feeds_none, feeds_more, consumes_end, begun, whole_run}
use Rattle.street_stream.proofs.Handles.{none_within}
use Rattle.street_stream.proofs.Prompt.{prompt_again}
use Rattle.street_stream.proofs.driver.drive_all.Goals as goal

pub loop-init : goal.loop-init
loop-init g c =
    ([], Consumes-nil _, feeds_none g.H.LineHandler.meaning.takes g.H.LineHandler.meaning.longest _ _ _, record { lines = omega arith; within = none_within c.args.progress.now.tally c.requires.begun.1 }, c.requires.fresh.calls, λ some. absurd (omega (arith, some)), (refl, refl))

pub loop-preserved : goal.loop-preserved
loop-preserved g c =
    let before = c.loop.invariant in
    let fed = c.in_ok-feed_through.ensures in
    let got : List ℕ = take c.in-Ok.count c.read_behind.new.buffer in (
      before.0 ++ got,
      Consumes-trans _ _ _ before.0 got before.1 c.in-Ok.ensures.bytes.0,
      feeds_more g.H.LineHandler.meaning.takes g.H.LineHandler.meaning.longest _ _ _ _ _ _ _ _ _ before.0 got before.2 fed.feeds.feeds,
      record { lines = omega (arith, fed.feeds.grows.lines, before.3.lines, length-take c.in-Ok.count c.read_behind.new.buffer); within = fed.feeds.grows.within },
      omega (arith, c.in-Ok.ensures.calls, before.4),
      λ some. (prompt_again c.loop.reader.calls c.loop.reader.is_prompt c.loop.writer.is_flushed _ c.in-Ok.ensures.prompt (λ more. before.5 (omega (arith, before.4, more))), fed.passed),
      one_round g.R.Source.gives g.W.Sink.takes g.W.Sink.passes c.loop.counter _ _ c.loop.reader.stream c.loop.writer.stream _ _ before.6 (_, _, _, c.in-Ok.ensures.once) fed.done,
    )

pub returns-in-Err-clause-runs : goal.returns-in-Err-clause-runs
returns-in-Err-clause-runs g c =
    let before = c.loop.invariant in
    let stands = begun g.H.LineHandler.meaning.takes g.H.LineHandler.meaning.longest _ _ _ _ c.args.progress.now before.0 c.loop.progress c.requires.begun.0 c.requires.begun.1 before.2 in
    record {
      whole = tt;
      broken = record { text = before.0; read = Consumes-kept _ _ _ before.0 before.1 c.in-Err.ensures.bytes; breaks = read_breaks g.H.LineHandler.meaning.takes g.H.LineHandler.meaning.stops g.H.LineHandler.meaning.longest _ _ _ _ _ _ c.loop.progress _ stands };
      caused = (omega (arith, c.in-Err.ensures.failed), c.in-Err.ensures.place);
      bounded = omega (arith, c.in-Err.ensures.calls, before.4);
    }

pub returns-in_err-finish_through-clause-runs : goal.returns-in_err-finish_through-clause-runs
returns-in_err-finish_through-clause-runs g c =
    let before = c.loop.invariant in
    let stands = begun g.H.LineHandler.meaning.takes g.H.LineHandler.meaning.longest _ _ _ _ c.args.progress.now before.0 c.loop.progress c.requires.begun.0 c.requires.begun.1 before.2 in
    let p = err_from_is_err_and c.from_residual.result c.from_residual.ensures.1 in
    let over = c.in-Ok.ensures.bytes.1 c.if-count-eq0.true (omega arith) in
    rw (p.1, p.2) (record {
      whole = tt;
      broken = record {
        text = before.0;
        read = consumes_end _ _ _ before.0 c.in-Ok.count c.read_behind.new.buffer c.if-count-eq0.true before.1 c.in-Ok.ensures.bytes.0;
        breaks = breaks_at g.H.LineHandler.meaning.takes g.H.LineHandler.meaning.stops ⊤ _ _ _ before.0 _ _ _ _ (λ _. over) (c.in_err-finish_through.ensures.finishes.broken _ _ before.0 stands);
      };
      caused = caused_by_line _ _ _ _ c.in_err-finish_through.ensures.finishes.caused;
      bounded = omega (arith, c.in-Ok.ensures.calls, before.4);
    })

pub returns-then-count-eq0-clause-runs : goal.returns-then-count-eq0-clause-runs
returns-then-count-eq0-clause-runs g c =
    let before = c.loop.invariant in
    record {
      whole = whole_run g.H.LineHandler.meaning.takes g.H.LineHandler.meaning.longest _ _ _ _ _ _ c.args.progress.now c.loop.progress before.0 _ _ _ c.requires.begun.0 c.requires.begun.1 before.2 c.in_ok-finish_through.ensures.finishes.finishes
          (consumes_end _ _ _ before.0 c.in-Ok.count c.read_behind.new.buffer c.if-count-eq0.true before.1 c.in-Ok.ensures.bytes.0) (c.in-Ok.ensures.bytes.1 c.if-count-eq0.true (omega arith));
      broken = tt;
      caused = tt;
      bounded = omega (arith, c.in-Ok.ensures.calls, before.4);
    }

pub returns-in_err-feed_through-clause-runs : goal.returns-in_err-feed_through-clause-runs
returns-in_err-feed_through-clause-runs g c =
    let before = c.loop.invariant in
    let stands = begun g.H.LineHandler.meaning.takes g.H.LineHandler.meaning.longest _ _ _ _ c.args.progress.now before.0 c.loop.progress c.requires.begun.0 c.requires.begun.1 before.2 in
    let p = err_from_is_err_and c.from_residual-in_err-feed_through.result c.from_residual-in_err-feed_through.ensures.1 in
    let got : List ℕ = take c.in-Ok.count c.read_behind.new.buffer in
    rw (p.1, p.2) (record {
      whole = tt;
      broken = record {
        text = before.0 ++ got;
        read = Consumes-trans _ _ _ before.0 got before.1 c.in-Ok.ensures.bytes.0;
        breaks = breaks_at g.H.LineHandler.meaning.takes g.H.LineHandler.meaning.stops ⊥ _ _ _ (before.0 ++ got) _ _ _ _ (λ none. absurd none) (rw (append-nil got) at (c.in_err-feed_through.ensures.feeds.broken _ _ before.0 stands []));
      };
      caused = caused_by_line _ _ _ _ c.in_err-feed_through.ensures.feeds.caused;
      bounded = omega (arith, c.in-Ok.ensures.calls, before.4);
    })

pub returns-clause-runs : goal.returns-clause-runs
returns-clause-runs g c =
    let before = c.loop.invariant in
    let stands = begun g.H.LineHandler.meaning.takes g.H.LineHandler.meaning.longest _ _ _ _ c.args.progress.now before.0 c.loop.progress c.requires.begun.0 c.requires.begun.1 before.2 in
    record {
      whole = tt;
      broken = record { text = before.0; read = before.1; breaks = read_breaks g.H.LineHandler.meaning.takes g.H.LineHandler.meaning.stops g.H.LineHandler.meaning.longest _ _ _ _ _ _ c.loop.progress _ stands };
      caused = omega (arith, before.4);
      bounded = omega (arith, before.4);
    }

pub returns-in-Err-clause-prompt : goal.returns-in-Err-clause-prompt
returns-in-Err-clause-prompt g c = λ some. prompt_again c.loop.reader.calls c.loop.reader.is_prompt c.loop.writer.is_flushed _ c.in-Err.ensures.prompt (λ more. c.loop.invariant.5 (omega (arith, c.loop.invariant.4, more)))

pub returns-in_err-finish_through-clause-prompt : goal.returns-in_err-finish_through-clause-prompt
returns-in_err-finish_through-clause-prompt g c = λ some. prompt_again c.loop.reader.calls c.loop.reader.is_prompt c.loop.writer.is_flushed _ c.in-Ok.ensures.prompt (λ more. c.loop.invariant.5 (omega (arith, c.loop.invariant.4, more)))

pub returns-then-count-eq0-clause-prompt : goal.returns-then-count-eq0-clause-prompt
returns-then-count-eq0-clause-prompt g c = λ some. prompt_again c.loop.reader.calls c.loop.reader.is_prompt c.loop.writer.is_flushed _ c.in-Ok.ensures.prompt (λ more. c.loop.invariant.5 (omega (arith, c.loop.invariant.4, more)))

pub returns-in_err-feed_through-clause-prompt : goal.returns-in_err-feed_through-clause-prompt
returns-in_err-feed_through-clause-prompt g c = λ some. prompt_again c.loop.reader.calls c.loop.reader.is_prompt c.loop.writer.is_flushed _ c.in-Ok.ensures.prompt (λ more. c.loop.invariant.5 (omega (arith, c.loop.invariant.4, more)))

pub returns-clause-prompt : goal.returns-clause-prompt
returns-clause-prompt g c = λ some. (c.loop.invariant.5 (omega (arith, c.loop.invariant.4, some))).0

pub returns-in-Err-clause-broken_off : goal.returns-in-Err-clause-broken_off
returns-in-Err-clause-broken_off g c =
    let before = c.loop.invariant in
    (c.loop.counter, c.loop.reader.stream, c.loop.writer.stream, omega (arith, c.in-Err.ensures.calls, before.4), before.6, (_, _, _, c.in-Err.ensures.once), refl)

pub returns-in_err-finish_through-clause-broken_off : goal.returns-in_err-finish_through-clause-broken_off
returns-in_err-finish_through-clause-broken_off g c =
    let before = c.loop.invariant in
    let p = err_from_is_err_and c.from_residual.result c.from_residual.ensures.1 in
    rw (p.1, p.2) (breaks_off g.R.Source.gives g.W.Sink.takes g.W.Sink.passes _ _ _ _ _ _ _ c.in_err-finish_through.ensures.finishes.caused
    (c.loop.counter, c.loop.reader.stream, c.loop.writer.stream, omega (arith, c.in-Ok.ensures.calls, before.4), before.6, (_, _, _, c.in-Ok.ensures.once), c.in_err-finish_through.ensures.undone))

pub returns-then-count-eq0-clause-rounds : goal.returns-then-count-eq0-clause-rounds
returns-then-count-eq0-clause-rounds g c =
    let before = c.loop.invariant in
    let n : c.read_behind.new.self.calls ≡ c.loop.counter + 1 = omega (arith, c.in-Ok.ensures.calls, before.4) in
    rw n (one_round g.R.Source.gives g.W.Sink.takes g.W.Sink.passes c.loop.counter _ _ c.loop.reader.stream c.loop.writer.stream _ _ before.6 (_, _, _, c.in-Ok.ensures.once) c.in_ok-finish_through.ensures.done)

pub returns-in_err-feed_through-clause-broken_off : goal.returns-in_err-feed_through-clause-broken_off
returns-in_err-feed_through-clause-broken_off g c =
    let before = c.loop.invariant in
    let p = err_from_is_err_and c.from_residual-in_err-feed_through.result c.from_residual-in_err-feed_through.ensures.1 in
    rw (p.1, p.2) (breaks_off g.R.Source.gives g.W.Sink.takes g.W.Sink.passes _ _ _ _ _ _ _ c.in_err-feed_through.ensures.feeds.caused
    (c.loop.counter, c.loop.reader.stream, c.loop.writer.stream, omega (arith, c.in-Ok.ensures.calls, before.4), before.6, (_, _, _, c.in-Ok.ensures.once), c.in_err-feed_through.ensures.undone))

pub returns-clause-broken_off : goal.returns-clause-broken_off
returns-clause-broken_off g c = rw c.loop.invariant.4 c.loop.invariant.6
