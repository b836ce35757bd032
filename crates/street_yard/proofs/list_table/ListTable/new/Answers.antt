use Rattle.std.proofs.Common.{replicate, ◌≡◌, ◌∙◌, None, ap}
use Rattle.street_yard.proofs.Joined.{no_rest, joined-empty}
use Rattle.street_yard.proofs.Totals.{listed-empty}
use Rattle.street_yard.proofs.list_table.ListTable.new.Goals as goal

fronts_are : (c : goal.In_ok-filled) → c.in_ok-fronts.fronts.items ≡ replicate c.args.lists None
fronts_are c = c.in_ok-fronts.ensures.items_if_clones_equal (λ y e. e) ∙ ap (replicate c.args.lists) c.nobody-2.ensures

rests_are : (c : goal.In_ok-filled) → c.in_ok-rests.rests.items ≡ replicate c.args.lists no_rest
rests_are c = c.in_ok-rests.ensures.items_if_clones_equal (λ y e. e) ∙ (λ i. replicate c.args.lists (record { back = c.nobody.ensures i; count = 0 }))

pub invariant_of-result : goal.invariant_of-result
invariant_of-result c = listed-empty c.args.lists c.in_ok-fronts.fronts.items c.in_ok-rests.rests.items c.in_ok-filled.filled c.requires (fronts_are c) (rests_are c) c.in_ok-filled.ensures.many c.in_ok-filled.ensures.none

pub returns : goal.returns
returns c = joined-empty c.args.lists c.in_ok-fronts.fronts.items c.in_ok-rests.rests.items (fronts_are c) (rests_are c)
