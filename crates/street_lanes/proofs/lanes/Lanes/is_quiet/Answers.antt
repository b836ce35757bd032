use Rattle.std.proofs.Common.{◌≡◌, ◌<◌, ◌/◌, get_or, sym, ap, ◌∙◌, arith}
use Rattle.street_lanes.proofs.Access.{in-extents, stands-in}
use Rattle.street_lanes.proofs.FirstDue.{quiet-stays}
use Rattle.street_lanes.proofs.lanes.Lanes.is_quiet.Goals as goal

pub returns-then-due_of-clock : goal.returns-then-due_of-clock
returns-then-due_of-clock c = λ yes k same h s stands.
    let later : c.args.clock < get_or c.self.inside.due.items (k / 64) 0 = (let e : c.due_of.result ≡ get_or c.self.inside.due.items (k / 64) 0 = c.due_of.ensures ∙ ap (λ g. get_or c.self.inside.due.items g 0) (sym same) in let more = c.if-due_of-clock.true in omega (arith, e, more)) in
    quiet-stays c.self.inside.yard c.self.inside.closures.items c.self.inside.extents.items c.self.inside.due.items c.self.invariant.due c.args.clock k (in-extents c.self.inside c.args.self.now c.self.view_is k h) later s (stands-in c.self.inside c.args.self.now c.self.view_is k h s stands)
