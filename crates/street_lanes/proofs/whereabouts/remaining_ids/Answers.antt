use Rattle.std.proofs.Common.{◌++◌, ◌∷◌, [], map, sym, ap, ◌∙◌, arith}
use Rattle.std.proofs.lemmas.List.{map_more, take_all}
use Rattle.std.proofs.lemmas.Result.{IfOk-from_err}
use Rattle.street_base.specs.Prelude.{link_at}
use Rattle.street_lanes.proofs.whereabouts.remaining_ids.Goals as goal

pub returns-in_err-ids : goal.returns-in_err-ids
returns-in_err-ids c = IfOk-from_err c.from_residual.result _ c.from_residual.ensures.0

pub returns-in_err-push : goal.returns-in_err-push
returns-in_err-push c = IfOk-from_err c.from_residual-in_err-push.result _ c.from_residual-in_err-push.ensures.0

pub loop-link-preserved : goal.loop-link-preserved
loop-link-preserved c =
    c.in_ok-push.ensures.items
    ∙ (λ i. c.loop-link.invariant i ++ (c.link_id.ensures ∙ ap (λ link. (link_at c.args.net.now link).id) c.link-item.is) i ∷ [])
    ∙ sym (map_more (λ link. (link_at c.args.net.now link).id) c.remaining_plan-plan.result.now c.loop-link.link-index c.link-item.result c.loop-link-test.true)

pub returns : goal.returns
returns c =
    c.from_vec.ensures
    ∙ c.loop-link.invariant
    ∙ ap (map (λ link. (link_at c.args.net.now link).id)) (take_all c.loop-link.link-index c.remaining_plan-plan.result.now (omega arith) ∙ c.remaining_plan-plan.ensures)
