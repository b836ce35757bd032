use Rattle.std.proofs.Common.{Bool, sym, subst, OnOk}
use Rattle.street_lanes.specs.Prelude.{Marks}
use Rattle.street_lanes.proofs.ClosedMarks.{closing-marks, opening-marks, on-ok}
use Rattle.street_lanes.proofs.commands.mark.Goals as goal

pub returns-then-closed-clause-ok : goal.returns-then-closed-clause-ok
returns-then-closed-clause-ok c =
    subst (λ (b : Bool). OnOk c.close.result (Marks b c.args.first c.args.last c.args.closures.now c.close.new.self)) (sym c.if-closed.true)
    (on-ok c.close.result _ _ c.close.ensures.ok (λ h. closing-marks c.args.first c.args.last c.args.closures.now c.close.new.self h))

pub returns-else-closed-clause-ok : goal.returns-else-closed-clause-ok
returns-else-closed-clause-ok c =
    subst (λ (b : Bool). OnOk c.reopen.result (Marks b c.args.first c.args.last c.args.closures.now c.reopen.new.self)) (sym c.if-closed.false)
    (on-ok c.reopen.result _ _ c.reopen.ensures.ok (λ h. opening-marks c.args.first c.args.last c.args.closures.now c.reopen.new.self h))
