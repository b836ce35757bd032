use Rattle.street_line.proofs.KeptLeads.{redo-machine, kept-machine}
use Rattle.street_line.proofs.kept_laws.kept_lines_are_the_machines.Goals as goal

pub returns-clause-kept : goal.returns-clause-kept
returns-clause-kept c = kept-machine

pub returns-clause-redo : goal.returns-clause-redo
returns-clause-redo c = redo-machine
