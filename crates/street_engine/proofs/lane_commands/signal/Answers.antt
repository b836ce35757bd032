use Rattle.std.proofs.Common.{subst, ap, sym, ◌∙◌, Some}
use Rattle.street_base.specs.declared.net.NetSpec.{NetSpec}
use Rattle.street_base.specs.Prelude.{node_of, signal_fault, plan_of}
use Rattle.street_node.specs.Prelude.{ShowsAs, TellsSignalFault, node_id}
use Rattle.street_engine.proofs.SignalCommand.{no-node, bad-signal, signal-starved, signal-done}
use Rattle.street_engine.proofs.lane_commands.signal.Goals as goal

pub returns-in_default-clause-serves : goal.returns-in_default-clause-serves
returns-in_default-clause-serves c = no-node c.args.streets.now c.args.node c.args.offset c.args.phases.now
    (ap (λ (net : NetSpec). node_of net c.args.node) (sym c.network.ensures) ∙ sym c.node_of.ensures.position ∙ c.in_default.is)

pub returns-in-Ok-clause-serves : goal.returns-in-Ok-clause-serves
returns-in-Ok-clause-serves c = signal-done c.args.streets.now c.args.node c.args.offset c.args.phases.now c.in-Some.position
    (ap (λ (net : NetSpec). node_of net c.args.node) (sym c.network.ensures) ∙ sym c.in-Some.ensures.position)
    (ap (λ (net : NetSpec). signal_fault net (node_id net c.in-Some.position) c.args.offset c.args.phases.now) (sym c.network-2.ensures) ∙ c.in-Ok.ensures.faultless)
    _ c.in-Ok.plan _ (c.from-cycle.ensures ∙ c.cycle.ensures)
    (subst (λ (net : NetSpec). ShowsAs c.in-Ok.plan (plan_of net c.args.offset c.args.phases.now)) c.network-2.ensures c.in-Ok.ensures.plan)
    c.set_signal.ensures

pub returns-in-Err-Bad-clause-serves : goal.returns-in-Err-Bad-clause-serves
returns-in-Err-Bad-clause-serves c = bad-signal c.args.streets.now c.args.node c.args.offset c.args.phases.now c.in-Some.position
    (ap (λ (net : NetSpec). node_of net c.args.node) (sym c.network.ensures) ∙ sym c.in-Some.ensures.position) _
    (ap (λ (net : NetSpec). signal_fault net (node_id net c.in-Some.position) c.args.offset c.args.phases.now) (sym c.network-2.ensures)
    ∙ subst (TellsSignalFault (signal_fault c.network-2.result.now (node_id c.network-2.result.now c.in-Some.position) c.args.offset c.args.phases.now)) c.in-Err-Bad.field-0-is c.in-Err-Bad.ensures.fault
    ∙ ap (λ n. Some n) (sym c.in-Err-Bad.at-is))

pub returns-in-Err-Starved-clause-serves : goal.returns-in-Err-Starved-clause-serves
returns-in-Err-Starved-clause-serves c = signal-starved c.args.streets.now c.args.node c.args.offset c.args.phases.now c.in-Some.position
    (ap (λ (net : NetSpec). node_of net c.args.node) (sym c.network.ensures) ∙ sym c.in-Some.ensures.position)
    (ap (λ (net : NetSpec). signal_fault net (node_id net c.in-Some.position) c.args.offset c.args.phases.now) (sym c.network-2.ensures)
    ∙ subst (TellsSignalFault (signal_fault c.network-2.result.now (node_id c.network-2.result.now c.in-Some.position) c.args.offset c.args.phases.now)) c.in-Err-Starved.field-0-is c.in-Err-Starved.ensures.fault)
