use Rattle.std.proofs.Common.{sym, ap, subst, ◌∙◌}
use Rattle.street_gap.specs.Prelude.{IsRising, closed_count}
use Rattle.street_gap.proofs.Counts.{closed_count-marks}
use Rattle.street_gap.proofs.stretches.Stretches.count_closed.Goals as goal

pub returns : goal.returns
returns c count within =
    c.cells_on.ensures ∙ ap closed_count (c.deref.ensures.value ∙ c.self.view_is)
    ∙ sym (closed_count-marks c.args.self.now count (subst IsRising c.self.view_is c.self.invariant) within)
