use Rattle.std.proofs.lemmas.Result.{err_from_is_err_and}
use Rattle.street_net.proofs.TellsFault.{tells-nodes, tells-links, tells-turns, tells-values, nothing-told}
use Rattle.street_net.proofs.network.identifiers.Goals as goal

pub returns-in_err-nodes-clause-fault : goal.returns-in_err-nodes-clause-fault
returns-in_err-nodes-clause-fault c =
    let p = err_from_is_err_and c.from_residual.result c.from_residual.ensures.1 in
    rw (p.1, p.2) (tells-nodes c.args.spec.now c.in_err-nodes.field-0.0 c.in_err-nodes.ensures.fault)

pub returns-in_err-links-clause-fault : goal.returns-in_err-links-clause-fault
returns-in_err-links-clause-fault c =
    let p = err_from_is_err_and c.from_residual-in_err-links.result c.from_residual-in_err-links.ensures.1 in
    rw (p.1, p.2) (tells-links c.args.spec.now c.in_ok-nodes.ensures.faultless c.in_err-links.field-0.0 c.in_err-links.ensures.fault)

pub returns-in_err-read_turns-clause-fault : goal.returns-in_err-read_turns-clause-fault
returns-in_err-read_turns-clause-fault c =
    let p = err_from_is_err_and c.from_residual-in_err-read_turns.result c.from_residual-in_err-read_turns.ensures.1 in
    rw (p.1, p.2) (tells-turns c.args.spec.now c.in_ok-nodes.ensures.faultless c.in_ok-links.ensures.faultless c.in_err-read_turns.field-0.0 c.in_err-read_turns.ensures.fault)

pub returns-in_err-read_values-clause-fault : goal.returns-in_err-read_values-clause-fault
returns-in_err-read_values-clause-fault c =
    let p = err_from_is_err_and c.from_residual-in_err-read_values.result c.from_residual-in_err-read_values.ensures.1 in
    rw (p.1, p.2) (tells-values c.args.spec.now c.in_ok-nodes.ensures.faultless c.in_ok-links.ensures.faultless c.in_ok-read_turns.ensures.faultless c.in_err-read_values.field-0.0 c.in_err-read_values.ensures.fault)

pub returns-clause-faultless : goal.returns-clause-faultless
returns-clause-faultless c =
    nothing-told c.args.spec.now c.in_ok-nodes.ensures.faultless c.in_ok-links.ensures.faultless c.in_ok-read_turns.ensures.faultless c.in_ok-read_values.ensures.faultless
