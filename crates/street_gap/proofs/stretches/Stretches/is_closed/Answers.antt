use Rattle.std.proofs.Common.{sym, ap, ◌∙◌, arith, nat_le}
use Rattle.std.proofs.lemmas.Bool.{le-ltb}
use Rattle.street_gap.specs.declared.closures.Stretch.{Stretch}
use Rattle.street_gap.proofs.Marks.{found-at, found-none}
use Rattle.street_gap.proofs.stretches.Stretches.is_closed.Goals as goal

pub returns-then-at-len : goal.returns-then-at-len
returns-then-at-len c =
    let cut = rw c.deref.ensures.value at c.ending_below-at.ensures in
    rw (← c.self.view_is)
    (ap (λ (s : Stretch). nat_le s.first c.args.cell) c.index.ensures ∙ sym (found-at c.self.inside.stretches.items c.args.cell c.ending_below-at.result c.self.invariant cut c.index.result.now (omega (arith, c.self.inside.stretches.ok.0))))

pub returns-else-at-len : goal.returns-else-at-len
returns-else-at-len c =
    let cut = rw c.deref.ensures.value at c.ending_below-at.ensures in
    rw (← c.self.view_is)
    (le-ltb c.ending_below-at.result c.len.result c.if-at-len.false ∙ sym (found-none c.self.inside.stretches.items c.args.cell c.ending_below-at.result c.self.invariant cut (omega (arith, c.self.inside.stretches.ok.0))))
