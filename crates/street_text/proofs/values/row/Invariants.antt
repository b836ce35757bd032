use Rattle.std.proofs.Common.{◌≡◌, take, drop, length}
use Rattle.serde_json.specs.View.{view, items_view}
use Rattle.street_text.specs.LineCommands.{entries_of, list_in, number_in}
use Rattle.street_text.proofs.ListEntries.{with_front}
use Rattle.street_text.proofs.values.row.Given as goal

abbrev pub invariant-loop-i : goal.invariant-loop-i
invariant-loop-i g l =
    (length l.row ≡ g.row.N)
    × (with_front (take l.i l.row) (entries_of number_in (items_view (drop l.i l.item-items))) ≡ list_in number_in (view l.fn.value))
