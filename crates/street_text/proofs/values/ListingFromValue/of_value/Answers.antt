use Rattle.std.proofs.Common.{◌≡◌, ◌∙◌, Some, None, Err, [], ◌∷◌, ◌++◌, refl, rules, sym}
use Rattle.serde_json.specs.View.{view, items_view}
use Rattle.serde_json.specs.Find.{as_array}
use Rattle.street_text.proofs.ListEntries.{entry_fails, fault_is, no_front, no_part, one_more_entry, read_entry, whole_list}
use Rattle.street_text.proofs.values.ListingFromValue.of_value.Goals as goal

pub loop-item-init : goal.loop-item-init
loop-item-init g c =
    let is : as_array (view c.args.value.now) ≡ Some (items_view c.in_ok-list.list.now.items) = search rules in
    rw (c.in-Ok.ensures.items, c.deref-item-items.ensures.value, is) (no_front _)

pub loop-item-preserved : goal.loop-item-preserved
loop-item-preserved g c =
    let pushed : c.push.new.self.items ≡ c.loop-item.found.items ++ c.in_ok-entry.entry ∷ [] = search rules in
    rw pushed (one_more_entry g.T.FromValue.entry c.loop-item.found.items c.deref-item-items.result.now c.loop-item.item-index c.item-item.result c.in_ok-entry.entry c.loop-item-test.true
    (rw (← c.item-item.is) (read_entry _ _ c.in_ok-entry.ensures)) ∙ c.loop-item.invariant)

pub returns : goal.returns
returns g c = rw c.from_vec.ensures (whole_list g.T.FromValue.entry c.loop-item.found.items c.deref-item-items.result.now c.loop-item.item-index _ c.loop-item-test.false c.loop-item.invariant)

pub returns-in_err-list : goal.returns-in_err-list
returns-in_err-list g c =
    let none : as_array (view c.args.value.now) ≡ None = sym (rw c.in_err-list.ensures.ok_part at c.as_array.ensures) in
    rw (none, no_part _ c.from_residual.result c.in_err-list.field-0.0 c.in_err-list.ensures.ok_part c.in_err-list.ensures.value c.from_residual.ensures.0 c.from_residual.ensures.1) refl

pub returns-in_err-entry : goal.returns-in_err-entry
returns-in_err-entry g c =
    let fault : c.from_residual-in_err-entry.result ≡ Err c.in_err-entry.field-0.0 = fault_is _ _ c.from_residual-in_err-entry.ensures.0 c.from_residual-in_err-entry.ensures.1 in
    rw fault (entry_fails g.T.FromValue.entry c.loop-item.found.items c.deref-item-items.result.now c.loop-item.item-index c.item-item.result c.in_err-entry.field-0.0 _ c.loop-item-test.true
    (rw (← c.item-item.is) c.in_err-entry.ensures) c.loop-item.invariant)
