use Rattle.std.proofs.Common.{◌≡◌, ◌+◌, ◌≤◌, ap, ◌++◌, ◌∙◌, [], List, ℕ, take, length, arith, refl, length-append}
use Rattle.std.proofs.KnownBytes.{Consumes-kept, Consumes-nil, Consumes-trans}
use Rattle.std.proofs.lemmas.List.{length-take}
use Rattle.street_stream.proofs.Cut.{cut_none}
use Rattle.street_stream.proofs.CutParts.{cut_append}
use Rattle.street_stream.specs.Lines.{cut}
use Rattle.street_line.proofs.KeptLines.{redo_halts, redo_more, redo_none, lines_few, open_more, open_none}
use Rattle.street_line.proofs.redo.redo_log.Goals as goal

pub loop-init : goal.loop-init
loop-init g c =
    ([], Consumes-nil _, redo_none g.S.Service.serves _, open_none _ _ c.new-text.ensures, rw cut_none refl, refl, omega arith, c.requires.reader.calls, rw cut_none refl)

pub loop-preserved : goal.loop-preserved
loop-preserved g c =
    let before = c.loop.invariant in
    let got : List ℕ = take c.in-Ok.count c.read.new.buffer in
    let done = c.in-Ok-do_more.ensures.done (cut before.0).1 before.3 in
    let opened = c.in-Ok-do_more.ensures.open (cut before.0).1 before.3 in
    let few = lines_few ((cut before.0).1 ++ got) in
    let size : length ((cut before.0).1 ++ got) ≤ length (cut before.0).1 + 4096 = omega (arith, length-append (cut before.0).1 got, length-take c.in-Ok.count c.read.new.buffer, c.in-Ok.ensures.bound) in
    let lines : length (cut (before.0 ++ got)).0 ≡ length (cut before.0).0 + length (cut ((cut before.0).1 ++ got)).0 = ap (λ (p : List (List ℕ) × List ℕ). length p.0) (cut_append before.0 got) ∙ length-append (cut before.0).0 (cut ((cut before.0).1 ++ got)).0 in
    let ended = c.ended_bytes.ensures before.0 before.4 before.5 in (
      before.0 ++ got,
      Consumes-trans _ _ _ before.0 got before.1 c.in-Ok.ensures.bytes.0,
      redo_more g.S.Service.serves _ _ _ before.0 got before.2 done.0,
      open_more _ _ before.0 got opened,
      ended,
      omega (arith, before.5, length-append before.0 got, length-take c.in-Ok.count c.read.new.buffer, c.in-Ok.ensures.bound),
      omega (arith, before.6, c.in-Ok.ensures.bound),
      omega (arith, c.in-Ok.ensures.calls, before.7),
      c.saturating_add.ensures ∙ omega (arith, before.8, before.4, before.5, before.6, done.1, lines, few, size, lines_few before.0),
    )

pub returns-in-Err-clause-broken : goal.returns-in-Err-clause-broken
returns-in-Err-clause-broken g c =
    let before = c.loop.invariant in
    record { text = before.0; read = Consumes-kept _ _ _ before.0 before.1 c.in-Err.ensures.bytes; halts = before.2 }

pub returns-clause-broken : goal.returns-clause-broken
returns-clause-broken g c =
    let before = c.loop.invariant in
    record { text = before.0; read = before.1; halts = before.2 }

pub returns-in-Err-do_more-clause-broken : goal.returns-in-Err-do_more-clause-broken
returns-in-Err-do_more-clause-broken g c =
    let before = c.loop.invariant in
    let got : List ℕ = take c.in-Ok.count c.read.new.buffer in
    let few = lines_few before.0 in
    let halted = c.in-Err-do_more.ensures.halted (cut before.0).1 before.3 (omega (arith, before.4, before.5, before.6, before.8, few)) in
    record {
      text = before.0 ++ got;
      read = Consumes-trans _ _ _ before.0 got before.1 c.in-Ok.ensures.bytes.0;
      halts = redo_halts g.S.Service.serves _ _ _ before.0 got _ before.2 (rw before.8 at halted);
    }
