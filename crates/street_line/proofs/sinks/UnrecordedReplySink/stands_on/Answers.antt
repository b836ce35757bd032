use Rattle.street_line.proofs.SinkSessions.{plain-served}
use Rattle.street_line.proofs.sinks.UnrecordedReplySink.stands_on.Goals as goal

pub returns : goal.returns
returns c start before command served after h old stands = plain-served _ before command served after h old stands
