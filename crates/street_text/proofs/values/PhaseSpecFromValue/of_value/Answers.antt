use Rattle.std.proofs.Common.{◌≡◌, ◌∙◌, Some, refl, rules}
use Rattle.serde_json.specs.View.{view, items_view}
use Rattle.serde_json.specs.Find.{as_array}
use Rattle.street_text.specs.LineCommands.{phase_in}
use Rattle.street_text.proofs.ListEntries.{no_phase}
use Rattle.street_text.proofs.values.PhaseSpecFromValue.of_value.Goals as goal

pub returns-then-len-ne2 : goal.returns-then-len-ne2
unfolding phase_in
returns-then-len-ne2 c =
    let none = no_phase c.in_ok-list.list.now.items (λ e. c.if-len-ne2.true (c.len.ensures ∙ c.in_ok-list.list.now.ok.0 ∙ e)) in
    let is : as_array (view c.args.value.now) ≡ Some (items_view c.in_ok-list.list.now.items) = search rules in
    rw (is, none) refl
