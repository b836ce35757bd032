use Rattle.std.proofs.Common.{Some, sym, ap, subst, ◌∙◌, arith}
use Rattle.street_gap.specs.declared.closures.Stretch.{Stretch}
use Rattle.street_gap.specs.Prelude.{IsWithin}
use Rattle.street_gap.proofs.Entrances.{entrance-some, entrance-none}
use Rattle.street_gap.proofs.stretches.Stretches.entrance_after.Goals as goal

pub returns-then-at-len : goal.returns-then-at-len
returns-then-at-len c count within =
    let cut = rw c.deref.ensures.value at c.beginning_by-at.ensures in
    let h = subst (λ l. IsWithin l count) (sym c.self.view_is) within in
    rw (← c.self.view_is)
    (ap (λ (s : Stretch). Some s.first) c.index.ensures ∙ sym (entrance-some c.self.inside.stretches.items c.args.cell c.beginning_by-at.result c.self.invariant cut count h c.index.result.now (omega (arith, c.self.inside.stretches.ok.0))))

pub returns-else-at-len : goal.returns-else-at-len
returns-else-at-len c count within =
    let cut = rw c.deref.ensures.value at c.beginning_by-at.ensures in
    let h = subst (λ l. IsWithin l count) (sym c.self.view_is) within in
    rw (← c.self.view_is)
    (sym (entrance-none c.self.inside.stretches.items c.args.cell c.beginning_by-at.result c.self.invariant cut count h (omega (arith, c.self.inside.stretches.ok.0))))
