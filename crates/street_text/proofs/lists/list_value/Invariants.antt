use Rattle.std.proofs.Common.{◌≡◌, drop}
use Rattle.street_text.specs.ReplyLines.{items_from}
use Rattle.street_text.proofs.Items.{before}
use Rattle.street_text.proofs.lists.list_value.Given as goal

abbrev pub invariant-loop-entry : goal.invariant-loop-entry
invariant-loop-entry g l = before l.items.items (items_from g.T.Printed.prints (drop l.entry-index l.list)) ≡ items_from g.T.Printed.prints l.list
