use Rattle.std.proofs.Common.{ap, sym, ◌∙◌}
use Rattle.street_base.specs.declared.net.NetSpec.{NetSpec}
use Rattle.street_base.specs.Prelude.{named_lane}
use Rattle.street_engine.proofs.LaneCommands.{lane-refused, lane-starved, lane-shown}
use Rattle.street_engine.proofs.lane_commands.lane.Goals as goal

pub returns-in-Err : goal.returns-in-Err
returns-in-Err c = lane-refused c.args.streets.now c.args.link c.args.lane c.in-Err.refusal (λ m rest same. c.in-Err.ensures.refused m rest (same ∙ sym c.network.ensures))

pub returns-in-Ok-lane : goal.returns-in-Ok-lane
returns-in-Ok-lane c = lane-shown c.args.streets.now c.args.link c.args.lane (λ m rest same. c.in-Ok.ensures.passed m rest (same ∙ sym c.network.ensures)) _ _
    (c.in-Ok.ensures.place ∙ ap (λ (net : NetSpec). named_lane net c.args.link c.args.lane) c.network.ensures) c.in-Ok-lane.ensures

pub returns-in-Err-lane : goal.returns-in-Err-lane
returns-in-Err-lane c = lane-starved c.args.streets.now c.args.link c.args.lane (λ m rest same. c.in-Ok.ensures.passed m rest (same ∙ sym c.network.ensures))
