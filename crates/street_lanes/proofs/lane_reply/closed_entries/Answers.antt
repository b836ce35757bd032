use Rattle.std.proofs.Common.{ℕ, [], ◌∷◌, ◌++◌, map, sym, ap, ◌∙◌, arith}
use Rattle.std.proofs.lemmas.List.{map_more, take_all}
use Rattle.std.proofs.lemmas.Result.{IfOk-from_err}
use Rattle.street_base.specs.declared.reply.Stretch.{Stretch as StretchEntry}
use Rattle.street_lanes.specs.Prelude.{shown_stretch}
use Rattle.street_lanes.proofs.lane_reply.closed_entries.Goals as goal

pub returns-in_err-entries : goal.returns-in_err-entries
returns-in_err-entries c = IfOk-from_err c.from_residual.result _ c.from_residual.ensures.0

pub returns-in_err-push : goal.returns-in_err-push
returns-in_err-push c = IfOk-from_err c.from_residual-in_err-push.result _ c.from_residual-in_err-push.ensures.0

pub returns : goal.returns
returns c = c.from_vec.ensures ∙ c.loop-stretch.invariant ∙ ap (map shown_stretch) (take_all c.loop-stretch.stretch-index c.args.stretches.now (omega arith))

pub loop-stretch-preserved : goal.loop-stretch-preserved
loop-stretch-preserved c =
    let entry : ℕ → ℕ → StretchEntry = λ first last. record { first = first; last = last } in
    c.in_ok-push.ensures.items
    ∙ (λ i. c.loop-stretch.invariant i ++ entry (c.from.ensures i) (c.from-in-loop-stretch.ensures i) ∷ [])
    ∙ sym (map_more shown_stretch c.args.stretches.now c.loop-stretch.stretch-index (record { first = 0; last = 0 }) c.loop-stretch-test.true)
