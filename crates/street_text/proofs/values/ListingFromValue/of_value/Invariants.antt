use Rattle.std.proofs.Common.{◌≡◌, drop}
use Rattle.serde_json.specs.View.{view, items_view}
use Rattle.street_text.specs.LineCommands.{entries_of, list_in}
use Rattle.street_text.proofs.ListEntries.{with_front}
use Rattle.street_text.proofs.values.ListingFromValue.of_value.Given as goal

abbrev pub invariant-loop-item : goal.invariant-loop-item
invariant-loop-item g l =
    with_front l.found.items (entries_of g.T.FromValue.entry (items_view (drop l.item-index l.item-items))) ≡ list_in g.T.FromValue.entry (view l.fn.value)
