use Rattle.std.proofs.Common.{arith}
use Rattle.std.proofs.KnownBytes.{Appends-trans}
use Rattle.std.proofs.lemmas.List.{take_all}
use Rattle.std.proofs.lemmas.Result.{err_from_is_err_and}
use Rattle.street_runs.proofs.Begun.{begun_kept, begun_within, replies_more, replies_rest}
use Rattle.street_runs.proofs.clients.print_replies.Goals as goal

pub loop-script-preserved : goal.loop-script-preserved
loop-script-preserved g c =
    let s = c.script-item.result in
    let more = replies_more c.args.scripts.now c.loop-script.script-index s s c.loop-script-test.true c.script-item.is in
    rw more (Appends-trans _ _ _ _ _ c.loop-script.invariant (rw c.as_slice.ensures.value at c.in_ok-write_out.ensures.written))

pub returns-in_err-write_out-clause-part : goal.returns-in_err-write_out-clause-part
returns-in_err-write_out-clause-part g c =
    let s = c.script-item.result in
    let all = replies_rest c.args.scripts.now c.loop-script.script-index s s c.loop-script-test.true c.script-item.is in
    let p = err_from_is_err_and c.from_residual.result c.from_residual.ensures.1 in
    rw (p.1, all) (begun_within _ _ _ _ _ _ c.loop-script.invariant (rw c.as_slice.ensures.value at c.in_err-write_out.ensures.part))

pub returns-in_err-pass_on-clause-part : goal.returns-in_err-pass_on-clause-part
returns-in_err-pass_on-clause-part g c =
    let all = take_all c.loop-script.script-index c.args.scripts.now (omega (arith, c.loop-script-test.false)) in
    let p = err_from_is_err_and c.from_residual-in_err-pass_on.result c.from_residual-in_err-pass_on.ensures.1 in
    rw p.1 (begun_kept _ _ _ _ (rw all at c.loop-script.invariant) c.in_err-pass_on.ensures.kept)
