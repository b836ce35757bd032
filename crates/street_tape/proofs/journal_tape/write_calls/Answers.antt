use Rattle.std.proofs.Common.{◌≡◌, ◌≤◌, ◌+◌, ◌-◌, ◌^◌, ◌++◌, List, ℕ, length, take, sym, ap, ◌∙◌, append_assoc, append-nil, arith, length-append}
use Rattle.std.proofs.KnownBytes.{Appends-trans, Appends-kept}
use Rattle.std.proofs.lemmas.List.{take_all}
use Rattle.std.proofs.lemmas.Result.{err_from_is_err_and}
use Rattle.street_tape.specs.Tapes.{entry_line, entry_lines, head_line}
use Rattle.street_tape.proofs.Prefixes.{lines_more, prefix_none, prefix_line}
use Rattle.street_tape.proofs.journal_tape.write_calls.Goals as goal

pub loop-at-init : goal.loop-at-init
loop-at-init g c =
    let head : List ℕ = head_line (length c.args.journal.now) in
    let line : c.as_slice.result.now ≡ head = c.as_slice.ensures.value ∙ c.in_ok-head_text.ensures ∙ ap head_line c.len.ensures in
    let wrote = rw line at c.in_ok-write_line.ensures.written in
    let few : length head ≤ 2 ^ 64 - 1 = rw (← line) (omega (arith, c.as_slice.ensures.len)) in
    rw (append-nil head) (omega (arith, wrote.0), wrote.1, omega (arith, wrote.0, few))

pub loop-at-preserved : goal.loop-at-preserved
loop-at-preserved g c =
    let before = c.loop-at.invariant in
    let call = c.in-Some.entry.now in
    let head : List ℕ = head_line (length c.args.journal.now) in
    let lines : List ℕ = entry_lines (take c.loop-at.at c.args.journal.now) in
    let line : c.as_slice-in-loop-at.result.now ≡ entry_line call = c.as_slice-in-loop-at.ensures.value ∙ c.in_ok-entry_text.ensures in
    let wrote = rw line at c.in_ok-write_line-2.ensures.written in
    let few : length (entry_line call) ≤ 2 ^ 64 - 1 = rw (← line) (omega (arith, c.as_slice-in-loop-at.ensures.len)) in
    let more : head ++ entry_lines (take (c.loop-at.at + 1) c.args.journal.now) ≡ (head ++ lines) ++ entry_line call =
    ap (λ (t : List ℕ). head ++ t) (lines_more c.args.journal.now c.loop-at.at call (sym c.in-Some.ensures)) ∙ sym (append_assoc head lines (entry_line call))
    in
    rw more (omega (arith, wrote.0, before.0, length-append (head ++ lines) (entry_line call)), Appends-trans _ _ _ _ _ before.1 wrote.1, omega (arith, wrote.0, before.2, few))

pub returns-clause-written : goal.returns-clause-written
returns-clause-written g c =
    let before = c.loop-at.invariant in
    let whole = rw (take_all c.loop-at.at c.args.journal.now (omega (arith, c.len-at-end.ensures))) at before in
    (whole.0, Appends-kept _ _ _ _ whole.1 c.in_ok-flush_out.ensures.kept)

pub returns-in_err-entry_text-clause-part : goal.returns-in_err-entry_text-clause-part
returns-in_err-entry_text-clause-part g c =
    let before = c.loop-at.invariant in
    let p = err_from_is_err_and c.from_residual-in_err-entry_text.result c.from_residual-in_err-entry_text.ensures.1 in
    rw (p.1, p.2) (tt, prefix_line _ _ _ _ _ (head_line (length c.args.journal.now)) c.args.journal.now c.loop-at.at c.in-Some.entry.now (sym c.in-Some.ensures) before.1 before.0 (prefix_none _ _ _))

pub returns-in_err-write_line-2-clause-part : goal.returns-in_err-write_line-2-clause-part
returns-in_err-write_line-2-clause-part g c =
    let before = c.loop-at.invariant in
    let line = c.as_slice-in-loop-at.ensures.value ∙ c.in_ok-entry_text.ensures in
    let p = err_from_is_err_and c.from_residual-in_err-write_line-2.result c.from_residual-in_err-write_line-2.ensures.1 in
    let part = rw line at c.in_err-write_line-2.ensures.part in
    let failed = c.in_err-write_line-2.ensures.failed in
    rw (p.1, p.2) (rw failed.0 failed.1, prefix_line _ _ _ _ _ (head_line (length c.args.journal.now)) c.args.journal.now c.loop-at.at c.in-Some.entry.now (sym c.in-Some.ensures) before.1 before.0 part)
