use Rattle.std.proofs.Common.{sym, ap, ◌∙◌, arith, subst}
use Rattle.street_desk.specs.Passes.{PassView, NoteView, DeskView, Heard, pass_view}
use Rattle.street_desk.specs.Steps.{Sat}
use Rattle.street_desk.proofs.Steps.{hears}
use Rattle.street_desk.proofs.Told.{heard_both}
use Rattle.street_desk.proofs.desk.Desk.hear.Goals as goal

pub join_seat-requires : goal.join_seat-requires
join_seat-requires g c =
    let one = c.self.invariant.2 in
    let here = sym (ap (λ (w : DeskView). w.table) c.self.view_is) in
    let table = ap (λ (k : PassView). k.desk.table) c.pass.view_is ∙ (ap (λ (w : DeskView). w.table) c.requires.0 ∙ here) in
    let other = ap (λ (k : NoteView). k.desk.table) c.note.view_is ∙ (ap (λ (w : DeskView). w.table) c.requires.1 ∙ here) in
    (table, other, c.note.invariant, omega arith, hears _ _ _ _ _ _ c.pass.invariant.1.turn)

pub returns : goal.returns
returns g c =
    let j = c.join_seat.ensures in
    let x = pass_view c.look.new.seat.table_id c.look.new.seat.me.0 in
    let all = heard_both c.pass.inside.seat.table_id _ c.note.inside.seat.table_id c.pass.inside.seat.me.0 c.note.inside.seat.me.0 c.join_seat.new.seat.me.0 c.look.new.seat.me.0 c.look.result
    (c.look.ensures.same.0 ∙ j.0) c.pass.invariant.1 (ap (λ (m : Sat). m.0) j.2) c.look.ensures.looks in
    subst (λ (k : PassView). Heard k c.args.note x) c.pass.view_is (subst (λ (n : NoteView). Heard (pass_view c.pass.inside.seat.table_id c.pass.inside.seat.me.0) n x) c.note.view_is all)
