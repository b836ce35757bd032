-- Cells opened: of the stretches that have some of them, what lies below and above is left.
use Rattle.std.proofs.Common.{◌≡◌, ℕ, true, ◌≤◌, ◌+◌, sym, subst, take, drop, not, ◌&&◌}
use Rattle.street_gap.specs.Prelude.{is_in, is_between, IsRising}
use Rattle.street_gap.proofs.Edits.{open-apart, open-rises, open-in, open-within, none-left, left-left, right-left, both-left, OnErr-from, on_either}
use Rattle.street_gap.proofs.stretches.Stretches.reopen.Goals as goal

pub returns-then-high-low-clause-ok : goal.returns-then-high-low-clause-ok
returns-then-high-low-clause-ok c =
    let at_low = rw c.deref.ensures.value at c.ending_below-low.ensures in
    let at_high = rw c.deref-2.ensures.value at c.beginning_by-high.ensures in
    rw (← c.self.view_is) (open-apart c.self.inside.stretches.items _ _ c.args.first c.args.last c.requires c.self.invariant at_low at_high c.if-high-low.true)

pub invariant_of-self-in-false-false : goal.invariant_of-self-in-false-false
invariant_of-self-in-false-false c =
    let at_low = rw c.deref.ensures.value at c.ending_below-low.ensures in
    let at_high = rw c.deref-2.ensures.value at c.beginning_by-high.ensures in
    let ss = c.self.inside.stretches.items in
    let pieces = none-left (take c.ending_below-low.result ss) (drop c.beginning_by-high.result ss) c.args.first c.args.last c.index.result.now c.index-2.result.now c.in-false-false.is-0 c.in-false-false.is-1 in
    rw c.remove_from.ensures (subst IsRising pieces (open-rises ss _ _ c.args.first c.args.last c.requires c.self.invariant at_low at_high c.if-high-low.false c.index.result.now c.index-2.result.now c.index.ensures c.index-2.ensures))

pub returns-in-false-false-clause-ok : goal.returns-in-false-false-clause-ok
returns-in-false-false-clause-ok c =
    let at_low = rw c.deref.ensures.value at c.ending_below-low.ensures in
    let at_high = rw c.deref-2.ensures.value at c.beginning_by-high.ensures in
    let ss = c.self.inside.stretches.items in
    let pieces = none-left (take c.ending_below-low.result ss) (drop c.beginning_by-high.result ss) c.args.first c.args.last c.index.result.now c.index-2.result.now c.in-false-false.is-0 c.in-false-false.is-1 in
    rw (c.remove_from.ensures, ← c.self.view_is) (λ x. subst (λ l. is_in l x ≡ (is_in ss x && not (is_between c.args.first c.args.last x))) pieces (open-in ss _ _ c.args.first c.args.last c.requires c.self.invariant at_low at_high c.if-high-low.false c.index.result.now c.index-2.result.now c.index.ensures c.index-2.ensures x))

pub invariant_of-self-in-true-false : goal.invariant_of-self-in-true-false
invariant_of-self-in-true-false c =
    let at_low = rw c.deref.ensures.value at c.ending_below-low.ensures in
    let at_high = rw c.deref-2.ensures.value at c.beginning_by-high.ensures in
    let ss = c.self.inside.stretches.items in
    let pieces = left-left (take c.ending_below-low.result ss) (drop c.beginning_by-high.result ss) c.args.first c.args.last c.index.result.now c.index-2.result.now c.in-true-false.is-0 c.in-true-false.is-1 in
    rw c.replace.ensures (subst IsRising pieces (open-rises ss _ _ c.args.first c.args.last c.requires c.self.invariant at_low at_high c.if-high-low.false c.index.result.now c.index-2.result.now c.index.ensures c.index-2.ensures))

pub returns-in-true-false-clause-ok : goal.returns-in-true-false-clause-ok
returns-in-true-false-clause-ok c =
    let at_low = rw c.deref.ensures.value at c.ending_below-low.ensures in
    let at_high = rw c.deref-2.ensures.value at c.beginning_by-high.ensures in
    let ss = c.self.inside.stretches.items in
    let pieces = left-left (take c.ending_below-low.result ss) (drop c.beginning_by-high.result ss) c.args.first c.args.last c.index.result.now c.index-2.result.now c.in-true-false.is-0 c.in-true-false.is-1 in
    rw (c.replace.ensures, ← c.self.view_is) (λ x. subst (λ l. is_in l x ≡ (is_in ss x && not (is_between c.args.first c.args.last x))) pieces (open-in ss _ _ c.args.first c.args.last c.requires c.self.invariant at_low at_high c.if-high-low.false c.index.result.now c.index-2.result.now c.index.ensures c.index-2.ensures x))

pub invariant_of-self-in-false-true : goal.invariant_of-self-in-false-true
invariant_of-self-in-false-true c =
    let at_low = rw c.deref.ensures.value at c.ending_below-low.ensures in
    let at_high = rw c.deref-2.ensures.value at c.beginning_by-high.ensures in
    let ss = c.self.inside.stretches.items in
    let pieces = right-left (take c.ending_below-low.result ss) (drop c.beginning_by-high.result ss) c.args.first c.args.last c.index.result.now c.index-2.result.now c.in-false-true.is-0 c.in-false-true.is-1 in
    rw c.replace-in-false-true.ensures (subst IsRising pieces (open-rises ss _ _ c.args.first c.args.last c.requires c.self.invariant at_low at_high c.if-high-low.false c.index.result.now c.index-2.result.now c.index.ensures c.index-2.ensures))

pub returns-in-false-true-clause-ok : goal.returns-in-false-true-clause-ok
returns-in-false-true-clause-ok c =
    let at_low = rw c.deref.ensures.value at c.ending_below-low.ensures in
    let at_high = rw c.deref-2.ensures.value at c.beginning_by-high.ensures in
    let ss = c.self.inside.stretches.items in
    let pieces = right-left (take c.ending_below-low.result ss) (drop c.beginning_by-high.result ss) c.args.first c.args.last c.index.result.now c.index-2.result.now c.in-false-true.is-0 c.in-false-true.is-1 in
    rw (c.replace-in-false-true.ensures, ← c.self.view_is) (λ x. subst (λ l. is_in l x ≡ (is_in ss x && not (is_between c.args.first c.args.last x))) pieces (open-in ss _ _ c.args.first c.args.last c.requires c.self.invariant at_low at_high c.if-high-low.false c.index.result.now c.index-2.result.now c.index.ensures c.index-2.ensures x))

pub invariant_of-self : goal.invariant_of-self
invariant_of-self c =
    let at_low = rw c.deref.ensures.value at c.ending_below-low.ensures in
    let at_high = rw c.deref-2.ensures.value at c.beginning_by-high.ensures in
    let ss = c.self.inside.stretches.items in
    let pieces = both-left (take c.ending_below-low.result ss) (drop c.beginning_by-high.result ss) c.args.first c.args.last c.index.result.now c.index-2.result.now c.in-true-true.is-0 c.in-true-true.is-1 in
    on_either c.replace_by_two.result _ _ (IsRising c.replace_by_two.new.stretches.items) c.replace_by_two.ensures.ok c.replace_by_two.ensures.err
    (λ e. subst IsRising (sym e) (subst IsRising pieces (open-rises ss _ _ c.args.first c.args.last c.requires c.self.invariant at_low at_high c.if-high-low.false c.index.result.now c.index-2.result.now c.index.ensures c.index-2.ensures)))
    (λ e. subst IsRising (sym e.0) c.self.invariant)

pub returns-in_ok-replace_by_two-in-true-true-clause-ok : goal.returns-in_ok-replace_by_two-in-true-true-clause-ok
returns-in_ok-replace_by_two-in-true-true-clause-ok c =
    let at_low = rw c.deref.ensures.value at c.ending_below-low.ensures in
    let at_high = rw c.deref-2.ensures.value at c.beginning_by-high.ensures in
    let ss = c.self.inside.stretches.items in
    let pieces = both-left (take c.ending_below-low.result ss) (drop c.beginning_by-high.result ss) c.args.first c.args.last c.index.result.now c.index-2.result.now c.in-true-true.is-0 c.in-true-true.is-1 in
    rw (c.in_ok-replace_by_two-in-true-true.ensures.ok, ← c.self.view_is) (λ x. subst (λ l. is_in l x ≡ (is_in ss x && not (is_between c.args.first c.args.last x))) pieces (open-in ss _ _ c.args.first c.args.last c.requires c.self.invariant at_low at_high c.if-high-low.false c.index.result.now c.index-2.result.now c.index.ensures c.index-2.ensures x))

pub returns-in_err-replace_by_two-in-true-true-clause-within : goal.returns-in_err-replace_by_two-in-true-true-clause-within
returns-in_err-replace_by_two-in-true-true-clause-within c =
    let at_low = rw c.deref.ensures.value at c.ending_below-low.ensures in
    let at_high = rw c.deref-2.ensures.value at c.beginning_by-high.ensures in
    OnErr-from c.from_residual.result ((x : ℕ) → c.args.first ≤ x + 1 → x ≤ c.args.last + 1 → is_in c.args.self.now x ≡ true)
    (rw (← c.self.view_is) (open-within c.self.inside.stretches.items _ _ c.args.first c.args.last c.requires c.self.invariant at_low at_high c.if-high-low.false c.index.result.now c.index-2.result.now c.index.ensures c.index-2.ensures c.in_err-replace_by_two-in-true-true.ensures.err.1 c.in-true-true.is-0 c.in-true-true.is-1))
