use Rattle.std.proofs.Common.{◌∙◌, ap, arith, slice_set}
use Rattle.street_gap.proofs.Cuts.{set-insert}
use Rattle.street_gap.proofs.stretches.replace_by_two.Goals as goal

-- one stretch becomes two
pub returns-in_ok-insert-clause-ok : goal.returns-in_ok-insert-clause-ok
returns-in_ok-insert-clause-ok c =
    ap (λ l. slice_set l c.args.high c.args.right) c.in_ok-insert.ensures.items
    ∙ set-insert c.args.stretches.now.items c.args.low c.args.high c.args.left c.args.right (omega arith) (omega arith)
