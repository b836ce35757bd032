use Rattle.std.proofs.Common.{◌≡◌, ◌∙◌, [], sym, rules, arith, drop}
use Rattle.std.proofs.Math.ListN.{drop_of_length-le}
use Rattle.serde_json.specs.View.{items_view}
use Rattle.serde_json.specs.declared.value.Value.{the_lemmas}
use Rattle.street_text.specs.ReplyLines.{items_from}
use Rattle.street_text.proofs.Items.{before_end}
use Rattle.street_text.proofs.lists.list_value.Goals as goal

pub returns : goal.returns
returns g c =
    let over : drop c.loop-entry.entry-index c.args.list.now ≡ [] = drop_of_length-le c.args.list.now (omega arith) in
    let same : items_view c.loop-entry.items.items ≡ items_from g.T.Printed.prints c.args.list.now = sym (before_end c.loop-entry.items.items) ∙ (rw over at c.loop-entry.invariant) in
    search (rules, the_lemmas, same)
