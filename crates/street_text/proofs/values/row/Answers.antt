use Rattle.std.proofs.Common.{◌≡◌, ◌<◌, ◌∙◌, sym, arith, length}
use Rattle.std.proofs.Math.ListN.{length-set}
use Rattle.std.proofs.lemmas.Grind.{common_steps}
use Rattle.street_text.specs.LineCommands.{row_in}
use Rattle.street_text.proofs.ListEntries.{no_row, one_more, whole_row}
use Rattle.street_text.proofs.values.row.Goals as goal

pub returns-then-len : goal.returns-then-len
unfolding row_in
returns-then-len g c =
    let none = no_row g.row.N c.in_ok-list.list.now.items (λ e. c.if-len.true (c.len.ensures ∙ c.in_ok-list.list.now.ok.0 ∙ e)) in
    rw (← c.in_ok-list.ensures) (sym none)

pub loop-i-preserved : goal.loop-i-preserved
loop-i-preserved g c =
    let within : c.loop-i.i < length c.loop-i.row = omega arith in
    (length-set _ _ _ ∙ c.loop-i.invariant.0, sym (one_more c.loop-i.row c.deref-item-items.result.now c.loop-i.i c.item-item.result c.in_ok-row.field-0 within c.loop-i-test.true (grind (arith, common_steps))) ∙ c.loop-i.invariant.1)

pub returns : goal.returns
unfolding row_in
returns g c =
    let size : length c.deref-item-items.result.now ≡ g.row.N = c.deref-item-items.ensures.len ∙ sym c.len.ensures ∙ c.if-len.false in
    whole_row g.row.N c.loop-i.row c.deref-item-items.result.now c.loop-i.i _ c.loop-i.invariant.0 size (omega arith) (omega arith) c.loop-i.invariant.1
