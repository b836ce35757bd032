use Rattle.street_line.proofs.KeptFunction.{redo_are, is_session, lines_are, whole_machine}
use Rattle.street_line.specs.Engines.{MachineServes}
use Rattle.street_line.proofs.kept_laws.kept_sessions_are_a_function.Goals as goal

pub returns-clause-session : goal.returns-clause-session
returns-clause-session g = is_session MachineServes whole_machine

pub returns-clause-served : goal.returns-clause-served
returns-clause-served g = lines_are

pub returns-clause-redo : goal.returns-clause-redo
returns-clause-redo g = redo_are
