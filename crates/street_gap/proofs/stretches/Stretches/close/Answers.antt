-- Cells closed: a stretch of its own where nothing closed touches it, and else all that touch it joined.
use Rattle.std.proofs.Common.{◌≡◌, ℕ, false, ◌≤◌, ◌+◌}
use Rattle.street_gap.specs.Prelude.{is_in}
use Rattle.street_gap.proofs.Edits.{close-apart-rises, close-apart-in, close-apart-open, close-joins-rises, close-joins-in, OnErr-from}
use Rattle.street_gap.proofs.stretches.Stretches.close.Goals as goal

pub invariant_of-self-then-high-low : goal.invariant_of-self-then-high-low
invariant_of-self-then-high-low c =
    let at_low = rw (c.deref.ensures.value, c.saturating_sub.ensures) at c.ending_below-low.ensures in
    let at_high = rw c.deref-2.ensures.value at c.beginning_beside-high.ensures in
    rw c.in_ok-insert.ensures.items (close-apart-rises c.self.inside.stretches.items _ _ c.args.first c.args.last c.requires c.self.invariant at_low at_high c.if-high-low.true)

pub returns-then-high-low-clause-ok : goal.returns-then-high-low-clause-ok
returns-then-high-low-clause-ok c =
    let at_low = rw (c.deref.ensures.value, c.saturating_sub.ensures) at c.ending_below-low.ensures in
    let at_high = rw c.deref-2.ensures.value at c.beginning_beside-high.ensures in
    rw (c.in_ok-insert.ensures.items, ← c.self.view_is) (close-apart-in c.self.inside.stretches.items _ _ c.args.first c.args.last c.requires c.self.invariant at_low at_high c.if-high-low.true)

pub returns-in_err-insert-clause-apart : goal.returns-in_err-insert-clause-apart
returns-in_err-insert-clause-apart c =
    let at_low = rw (c.deref.ensures.value, c.saturating_sub.ensures) at c.ending_below-low.ensures in
    let at_high = rw c.deref-2.ensures.value at c.beginning_beside-high.ensures in
    OnErr-from c.from_residual.result ((x : ℕ) → c.args.first ≤ x + 1 → x ≤ c.args.last + 1 → is_in c.args.self.now x ≡ false)
    (rw (← c.self.view_is) (close-apart-open c.self.inside.stretches.items _ _ c.args.first c.args.last c.requires c.self.invariant at_low at_high c.if-high-low.true))

pub invariant_of-self-2 : goal.invariant_of-self-2
invariant_of-self-2 c =
    let at_low = rw (c.deref.ensures.value, c.saturating_sub.ensures) at c.ending_below-low.ensures in
    let at_high = rw c.deref-2.ensures.value at c.beginning_beside-high.ensures in
    rw (c.replace.ensures, c.min.ensures, c.max.ensures) (close-joins-rises c.self.inside.stretches.items _ _ c.args.first c.args.last c.requires c.self.invariant at_low at_high c.if-high-low.false c.index.result.now c.index-2.result.now c.index.ensures c.index-2.ensures)

pub returns-clause-ok : goal.returns-clause-ok
returns-clause-ok c =
    let at_low = rw (c.deref.ensures.value, c.saturating_sub.ensures) at c.ending_below-low.ensures in
    let at_high = rw c.deref-2.ensures.value at c.beginning_beside-high.ensures in
    rw (c.replace.ensures, c.min.ensures, c.max.ensures, ← c.self.view_is) (close-joins-in c.self.inside.stretches.items _ _ c.args.first c.args.last c.requires c.self.invariant at_low at_high c.if-high-low.false c.index.result.now c.index-2.result.now c.index.ensures c.index-2.ensures)
