use Rattle.std.proofs.Common.{arith}
use Rattle.street_base.specs.declared.command.GreenSpec.{GreenSpec}
use Rattle.street_base.specs.Prelude.{is_turn_to}
use Rattle.street_node.proofs.KeptPlan.{all-at, low-lane}
use Rattle.street_node.proofs.plan.green_turns.Goals as goal

abbrev none : GreenSpec
none = record { link = 0; lane = 0; next = 0 }

pub overflow_cast-green : goal.overflow_cast-green
overflow_cast-green c =
    let low = low-lane c.args.net.now c.args.node _ c.requires.faultless (all-at (is_turn_to c.args.net.now c.args.node) c.args.greens.now c.requires.good c.loop-green.green-index none c.loop-green-test.true) in
    omega (arith, low)
