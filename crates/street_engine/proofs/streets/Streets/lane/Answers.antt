use Rattle.std.proofs.lemmas.Result.{IfOk-weaker}
use Rattle.street_engine.proofs.StreetsStandFor.{traffic-of}
use Rattle.street_engine.proofs.streets.Streets.lane.Goals as goal

pub returns : goal.returns
returns c = IfOk-weaker c.lane.result _ _ (λ found is m stands. is m (traffic-of c.self.view_is stands).tiles) c.lane.ensures
