use Rattle.std.proofs.Common.{sym, ap, ◌∙◌, arith}
use Rattle.street_desk.specs.Passes.{PassView, DeskView}
use Rattle.street_desk.proofs.Steps.{notes}
use Rattle.street_desk.proofs.desk.Desk.note.Goals as goal

pub split_seat-seat-requires : goal.split_seat-seat-requires
split_seat-seat-requires g c =
    let one = c.self.invariant.2 in
    let table = ap (λ (k : PassView). k.desk.table) c.pass.view_is ∙ (ap (λ (w : DeskView). w.table) c.requires ∙ sym (ap (λ (w : DeskView). w.table) c.self.view_is)) in
    (table, omega arith, notes _ _ _ _ c.pass.invariant.1.also)
