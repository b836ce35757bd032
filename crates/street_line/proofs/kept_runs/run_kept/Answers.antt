use Rattle.std.proofs.Common.{◌++◌, [], List, ℕ, take, arith, refl, inl, inr, append-nil}
use Rattle.std.proofs.KnownBytes.{Consumes-nil, Consumes-trans, Consumes-kept}
use Rattle.std.proofs.lemmas.Result.{IfErr-weaker}
use Rattle.street_stream.proofs.Feeds.{consumes_end}
use Rattle.street_stream.proofs.Prompt.{prompt_again}
use Rattle.street_stream.specs.Lines.{cut, if_any}
use Rattle.street_stream.specs.declared.tally.FaultKind.TheVariants.{Read, Endless}
use Rattle.street_line.proofs.KeptLines.{ends_between, first_up_to, open_more, open_none, on_ok, passed_held, passed_last, passed_more, passed_none}
use Rattle.street_line.proofs.kept_runs.run_kept.Goals as goal

pub loop-init : goal.loop-init
loop-init g c =
    ([], Consumes-nil _, passed_none g.S.Service.serves _ _ _, c.requires.synced, open_none _ _ c.new-text.ensures, c.requires.reader.calls, (λ some. absurd (omega (arith, some))), λ failed. failed)

pub loop-preserved : goal.loop-preserved
loop-preserved g c =
    let before = c.loop.invariant in
    let got : List ℕ = take c.in-Ok.count c.read_behind.new.buffer in
    let passed = c.in-Ok-serve_and_keep_more.ensures.passed (cut before.0).1 before.4 in (
      before.0 ++ got,
      Consumes-trans _ _ _ before.0 got before.1 c.in-Ok.ensures.bytes.0,
      passed_held g.S.Service.serves _ _ _ _ _ _ _ _ (passed_more g.S.Service.serves _ _ _ _ _ _ _ _ _ _ before.0 got before.2 passed),
      passed.stays,
      open_more _ _ before.0 got (c.in-Ok-serve_and_keep_more.ensures.open (cut before.0).1 before.4),
      omega (arith, c.in-Ok.ensures.calls, before.5),
      (λ some. (prompt_again c.loop.reader.calls c.loop.reader.is_prompt c.loop.writer.is_flushed _ c.in-Ok.ensures.prompt (λ more. before.6 (omega (arith, before.5, more))), c.in-Ok-serve_and_keep_more.ensures.flushed)),
      λ failed. before.7 (c.in-Ok-serve_and_keep_more.ensures.sound failed),
    )

pub returns-in-Err-clause-exact : goal.returns-in-Err-clause-exact
returns-in-Err-clause-exact g c =
    let before = c.loop.invariant in
    rw before.3 (ends_between g.S.Service.serves _ _ _ _ _ _ _ _ before.0 Read (inl refl) before.2 (Consumes-kept _ _ _ before.0 before.1 c.in-Err.ensures.bytes))

pub returns-clause-exact : goal.returns-clause-exact
returns-clause-exact g c =
    let before = c.loop.invariant in
    rw before.3 (ends_between g.S.Service.serves _ _ _ _ _ _ _ _ before.0 Endless (inr refl) before.2 before.1)

pub returns-then-count-eq0-clause-whole : goal.returns-then-count-eq0-clause-whole
returns-then-count-eq0-clause-whole g c =
    let before = c.loop.invariant in
    on_ok c.serve_and_keep_last.result _ _
    (λ passed. record {
      text = before.0;
      read = consumes_end _ _ _ before.0 c.in-Ok.count c.read_behind.new.buffer c.if-count-eq0.true before.1 c.in-Ok.ensures.bytes.0;
      at_end = c.in-Ok.ensures.bytes.1 c.if-count-eq0.true (omega arith);
      passed = passed_last g.S.Service.serves _ _ _ _ _ _ _ _ _ _ before.0 before.2 passed;
    })
    (c.serve_and_keep_last.ensures.passed (cut before.0).1 before.4)

pub returns-then-count-eq0-clause-exact : goal.returns-then-count-eq0-clause-exact
returns-then-count-eq0-clause-exact g c =
    let before = c.loop.invariant in
    let read = consumes_end _ _ _ before.0 c.in-Ok.count c.read_behind.new.buffer c.if-count-eq0.true before.1 c.in-Ok.ensures.bytes.0 in
    IfErr-weaker c.serve_and_keep_last.result _ _
    (λ fault stops. record {
      earlier = before.0;
      got = [];
      last = if_any (cut before.0).1;
      begun = [];
      mid = c.loop.service;
      owed = g.L.WriteAheadLog.held c.loop.log;
      told = g.W.Write.contents c.loop.writer.stream;
      read = rw (append-nil before.0) read;
      is_last = inr (refl, c.in-Ok.ensures.bytes.1 c.if-count-eq0.true (omega arith), refl, refl);
      passed = before.2;
      stops = rw before.3 at stops;
    })
    (c.serve_and_keep_last.ensures.stops (cut before.0).1 before.4)

pub returns-in-Err-serve_and_keep_more-clause-exact : goal.returns-in-Err-serve_and_keep_more-clause-exact
returns-in-Err-serve_and_keep_more-clause-exact g c =
    let before = c.loop.invariant in
    let got : List ℕ = take c.in-Ok.count c.read_behind.new.buffer in
    record {
      earlier = before.0;
      got = got;
      last = (cut ((cut before.0).1 ++ got)).0;
      begun = if_any (cut ((cut before.0).1 ++ got)).1;
      mid = c.loop.service;
      owed = g.L.WriteAheadLog.held c.loop.log;
      told = g.W.Write.contents c.loop.writer.stream;
      read = Consumes-trans _ _ _ before.0 got before.1 c.in-Ok.ensures.bytes.0;
      is_last = inl (refl, refl);
      passed = before.2;
      stops = rw before.3 at (c.in-Err-serve_and_keep_more.ensures.stops (cut before.0).1 before.4);
    }

pub returns-in-Err-clause-broken : goal.returns-in-Err-clause-broken
returns-in-Err-clause-broken g c = first_up_to g.S.Service.serves _ _ _ _ _ _ _ _ _ _ (returns-in-Err-clause-exact g c)

pub returns-clause-broken : goal.returns-clause-broken
returns-clause-broken g c = first_up_to g.S.Service.serves _ _ _ _ _ _ _ _ _ _ (returns-clause-exact g c)

pub returns-in-Err-serve_and_keep_more-clause-broken : goal.returns-in-Err-serve_and_keep_more-clause-broken
returns-in-Err-serve_and_keep_more-clause-broken g c = first_up_to g.S.Service.serves _ _ _ _ _ _ _ _ _ _ (returns-in-Err-serve_and_keep_more-clause-exact g c)

pub returns-then-count-eq0-clause-broken : goal.returns-then-count-eq0-clause-broken
returns-then-count-eq0-clause-broken g c =
    IfErr-weaker c.serve_and_keep_last.result _ _ (λ fault exact. first_up_to g.S.Service.serves _ _ _ _ fault _ _ _ _ _ exact) (returns-then-count-eq0-clause-exact g c)
