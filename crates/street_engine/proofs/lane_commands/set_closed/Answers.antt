use Rattle.std.proofs.Common.{ap, sym, ◌∙◌}
use Rattle.street_base.specs.declared.net.NetSpec.{NetSpec}
use Rattle.street_base.specs.Prelude.{named_lane}
use Rattle.street_engine.proofs.LaneCommands.{closing-refused, closing-starved, closing-done}
use Rattle.street_engine.proofs.lane_commands.set_closed.Goals as goal

pub returns-in-Err-clause-serves : goal.returns-in-Err-clause-serves
returns-in-Err-clause-serves c = closing-refused c.args.streets.now c.args.link c.args.lane c.args.first c.args.last c.args.closed c.in-Err.refusal (λ m same. c.in-Err.ensures.refused m (same ∙ sym c.network.ensures))

pub returns-in-Ok-set_closed-clause-serves : goal.returns-in-Ok-set_closed-clause-serves
returns-in-Ok-set_closed-clause-serves c = closing-done c.args.streets.now c.args.link c.args.lane c.args.first c.args.last c.args.closed
    (λ m same. c.in-Ok.ensures.passed m (same ∙ sym c.network.ensures)) _ _ _ _ _
    (c.in-Ok.ensures.place ∙ ap (λ (net : NetSpec). named_lane net c.args.link c.args.lane) c.network.ensures) c.in-Ok.ensures.first c.in-Ok.ensures.last
    c.in-Ok-set_closed.ensures.marks c.in-Ok-set_closed.ensures.count

pub returns-in-Err-set_closed-clause-serves : goal.returns-in-Err-set_closed-clause-serves
returns-in-Err-set_closed-clause-serves c = closing-starved c.args.streets.now c.args.link c.args.lane c.args.first c.args.last c.args.closed (λ m same. c.in-Ok.ensures.passed m (same ∙ sym c.network.ensures)) _ c.in-Err-set_closed.ensures.starved
