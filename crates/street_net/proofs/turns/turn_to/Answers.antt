use Rattle.std.proofs.Common.{◌∙◌, rules, subst, sym, ap}
use Rattle.std.specs.List.Sorted.{IsBinarySearchResult}
use Rattle.std.specs.Ordering.{nat_cmp}
use Rattle.std.proofs.lemmas.List.Sorted.{answers_always}
use Rattle.street_base.specs.declared.net.Turn.{Turn}
use Rattle.street_net.proofs.TurnTable.{searched-ok, searched-err}
use Rattle.street_net.proofs.turns.turn_to.Goals as goal

pub returns-in-Ok : goal.returns-in-Ok
returns-in-Ok c =
    let found : IsBinarySearchResult (λ (t : Turn). nat_cmp t.next c.position-position.result) c.args.turns.now c.binary_search_by_key.result = c.binary_search_by_key.ensures.position (λ t. t.next) (answers_always _ _ _ (λ f a r g called. search rules)) in
    let here = subst (IsBinarySearchResult (λ (t : Turn). nat_cmp t.next c.position-position.result) c.args.turns.now) c.in-Ok.is found in (
      (c.in-Ok.at, c.in-Ok.ensures.bound, sym c.index-turns-at.is),
      ap (λ (t : Turn). t.next) c.index-turns-at.is ∙ searched-ok c.args.turns.now c.requires c.position-position.result c.in-Ok.at c.index-turns-at.result c.in-Ok.ensures.bound here ∙ c.position-position.ensures,
    )

pub returns-in-Err : goal.returns-in-Err
returns-in-Err c =
    let found : IsBinarySearchResult (λ (t : Turn). nat_cmp t.next c.position-position.result) c.args.turns.now c.binary_search_by_key.result = c.binary_search_by_key.ensures.position (λ t. t.next) (answers_always _ _ _ (λ f a r g called. search rules)) in
    let here = subst (IsBinarySearchResult (λ (t : Turn). nat_cmp t.next c.position-position.result) c.args.turns.now) c.in-Err.is found in
    λ k d h same. searched-err c.args.turns.now c.requires c.position-position.result c.in-Err.field-0 here k d h (same ∙ sym c.position-position.ensures)
