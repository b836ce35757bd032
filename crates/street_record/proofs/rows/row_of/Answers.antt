use Rattle.std.proofs.Common.{rules, subst}
use Rattle.std.specs.List.Sorted.{IsBinarySearchResult}
use Rattle.std.specs.Ordering.{nat_cmp}
use Rattle.std.proofs.lemmas.List.Elements.{Contains-get_or}
use Rattle.std.proofs.lemmas.List.Sorted.{answers_always}
use Rattle.street_base.specs.declared.record.RecordRow.{RecordRow}
use Rattle.street_record.proofs.Searched.{searched-ok, searched-err}
use Rattle.street_record.proofs.rows.row_of.Goals as goal

pub returns-in-Ok : goal.returns-in-Ok
returns-in-Ok c rising =
    let found : IsBinarySearchResult (λ (r : RecordRow). nat_cmp r.slot c.args.slot) c.args.rows.now c.binary_search_by_key.result = c.binary_search_by_key.ensures.position (λ r. r.slot) (answers_always _ _ _ (λ f a r g called. search rules)) in
    let here = subst (IsBinarySearchResult (λ (r : RecordRow). nat_cmp r.slot c.args.slot) c.args.rows.now) c.in-Ok.is found in (
      Contains-get_or c.args.rows.now c.in-Ok.at _ c.in-Ok.ensures.bound,
      searched-ok c.args.rows.now rising c.args.slot c.in-Ok.at _ c.in-Ok.ensures.bound here,
    )

pub returns-in-Err : goal.returns-in-Err
returns-in-Err c rising =
    let found : IsBinarySearchResult (λ (r : RecordRow). nat_cmp r.slot c.args.slot) c.args.rows.now c.binary_search_by_key.result = c.binary_search_by_key.ensures.position (λ r. r.slot) (answers_always _ _ _ (λ f a r g called. search rules)) in
    let here = subst (IsBinarySearchResult (λ (r : RecordRow). nat_cmp r.slot c.args.slot) c.args.rows.now) c.in-Err.is found in
    λ k d h same. searched-err c.args.rows.now rising c.args.slot c.in-Err.field-0 here k d h same
