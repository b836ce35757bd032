use Rattle.std.proofs.Common.{arith}
use Rattle.street_gap.proofs.Counts.{stretch-at, closed_count-more}
use Rattle.street_gap.proofs.stretches.cells_on.Goals as goal

pub overflow_sub-stretch : goal.overflow_sub-stretch
overflow_sub-stretch c = (stretch-at 0 c.args.stretches.now c.loop-stretch.stretch-index (record { first = 0; last = 0 }) c.requires c.loop-stretch-test.true).1

-- the cells so far are no more than the cells below the stretch
pub overflow_add-cells-in-loop-stretch : goal.overflow_add-cells-in-loop-stretch
overflow_add-cells-in-loop-stretch c =
    let at = stretch-at 0 c.args.stretches.now c.loop-stretch.stretch-index (record { first = 0; last = 0 }) c.requires c.loop-stretch-test.true in
    omega (arith, at.0, at.1, c.loop-stretch.invariant, c.from.ensures)

pub loop-stretch-preserved : goal.loop-stretch-preserved
loop-stretch-preserved c =
    let at = stretch-at 0 c.args.stretches.now c.loop-stretch.stretch-index (record { first = 0; last = 0 }) c.requires c.loop-stretch-test.true in
    let more = closed_count-more c.args.stretches.now c.loop-stretch.stretch-index (record { first = 0; last = 0 }) c.loop-stretch-test.true in
    omega (arith, at.0, at.1, more, c.loop-stretch.invariant, c.from.ensures)
