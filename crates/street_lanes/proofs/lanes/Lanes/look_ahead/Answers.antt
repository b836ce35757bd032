use Rattle.std.proofs.Common.{◌≡◌, length, sym, subst, arith}
use Rattle.street_lanes.specs.Prelude.{AreDue}
use Rattle.street_lanes.proofs.lanes.Lanes.look_ahead.Goals as goal

pub invariant_of-self : goal.invariant_of-self
invariant_of-self c =
    let count : c.len.result ≡ length c.self.inside.extents.items = omega (arith, c.len.ensures, c.self.inside.extents.ok) in
    record {
      laid = c.self.invariant.laid;
      due = subst (λ k. AreDue c.self.inside.yard k c.find_dues.new.due.items) count (c.find_dues.ensures (subst (λ k. AreDue c.self.inside.yard k c.self.inside.due.items) (sym count) c.self.invariant.due));
      none_closed = c.self.invariant.none_closed;
    }
