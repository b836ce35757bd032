use Rattle.street_line.proofs.RecordedRuns.{record-served}
use Rattle.street_line.proofs.sinks.RecordWriterReplySink.stands_on.Goals as goal

pub returns : goal.returns
returns g c start before command served after h old stands = record-served g.F.Write.contents start before command served after h old stands
