use Rattle.std.proofs.Common.{◌≡◌, sym, ap, ap₂, ◌∙◌, arith, subst, []}
use Rattle.street_desk.specs.History.{calls_of}
use Rattle.street_desk.specs.Passes.{pass_view, without_last, of_last, PassView, DeskView}
use Rattle.street_desk.specs.Steps.{Sat}
use Rattle.street_desk.specs.declared.view.SeatView.{SeatView}
use Rattle.street_desk.proofs.Steps.{splits}
use Rattle.street_desk.proofs.desk.Desk.split.Goals as goal

pub split_seat-seat-requires : goal.split_seat-seat-requires
split_seat-seat-requires g c =
    let one = c.self.invariant.2 in
    let i = c.pass.invariant in
    let lo = i.2 in
    let hi = i.3 in
    let le = i.4 in
    let ne = c.if-pass.false in
    let table = ap (λ (k : PassView). k.desk.table) c.pass.view_is ∙ (ap (λ (w : DeskView). w.table) c.requires ∙ sym (ap (λ (w : DeskView). w.table) c.self.view_is)) in
    (table, omega arith, splits _ _ _ _ i.1.turn (omega arith))

pub overflow_sub-pass : goal.overflow_sub-pass
overflow_sub-pass g c = let le = c.pass.invariant.4 in let ne = c.if-pass.false in omega arith

pub returns-clause-ok : goal.returns-clause-ok
returns-clause-ok g c =
    let i = c.pass.invariant in
    let is = c.pass.view_is in
    let e = c.split_seat-seat.ensures in
    let lo = i.2 in
    let hi = i.3 in
    let le = i.4 in
    let ne = c.if-pass.false in
    let a = ap (λ (k : PassView). k.least) is in
    let b = ap (λ (k : PassView). k.greatest) is in (
      omega arith,
      ap₂ pass_view e.0 (ap (λ (m : Sat). m.0) e.2) ∙ ap without_last is,
      ap₂ pass_view e.3 (ap (λ (m : Sat). m.0) e.4) ∙ ap of_last is,
      subst (λ (v : SeatView). calls_of v.least v.seen ≡ []) (sym (ap (λ (m : Sat). m.0) e.4)) (i.1.unused _ (omega arith) (omega arith)),
    )
