use Rattle.std.proofs.Common.{◌∙◌, rules, sym, ap, subst, map}
use Rattle.std.specs.Int.{bit_at}
use Rattle.std.specs.List.{list_any}
use Rattle.std.specs.List.Sorted.{IsBinarySearchResult}
use Rattle.std.proofs.lemmas.Fn.{always_returns_same}
use Rattle.street_node.specs.declared.phase.GreenTurn.{GreenTurn}
use Rattle.street_node.specs.Prelude.{turn_cmp, green_seen, IsInOrder}
use Rattle.street_node.proofs.GreenSearch.{answered, unmarked, leads_from, place_from}
use Rattle.street_node.proofs.phase.KeptPhase.shows.Goals as goal

pub returns : goal.returns
returns c =
    let wanted : GreenTurn = record { link = c.args.turn.now.link; next = c.args.turn.now.next; lane = c.args.turn.now.lane } in
    let greens = c.as_slice-greens.result.now in
    let found : IsBinarySearchResult (λ (t : GreenTurn). turn_cmp t wanted) greens c.binary_search_by.result = c.binary_search_by.ensures.position (λ (t : GreenTurn). turn_cmp t wanted) (always_returns_same _ _ _ (λ a r q called. search rules)) in
    let order : IsInOrder greens = subst IsInOrder (sym c.as_slice-greens.ensures.value) c.self.invariant.ordered in
    rw (← c.self.view_is) (
    c.is_ok.ensures.value
    ∙ answered greens wanted order c.binary_search_by.result c.binary_search_by.ensures.bound found
    ∙ ap (λ ts. list_any (leads_from (place_from wanted) wanted.next) (map green_seen ts)) c.as_slice-greens.ensures.value)

pub returns-then-self-mark_of-eq0 : goal.returns-then-self-mark_of-eq0
returns-then-self-mark_of-eq0 c =
    let wanted : GreenTurn = record { link = c.args.turn.now.link; next = c.args.turn.now.next; lane = c.args.turn.now.lane } in
    rw (← c.self.view_is) (sym (unmarked c.self.inside.greens.items wanted c.self.inside.marks c.self.invariant.marked (ap (λ k. bit_at c.self.inside.marks k) (sym c.mark_of.ensures.is) ∙ c.if-self-mark_of-eq0.true)))
