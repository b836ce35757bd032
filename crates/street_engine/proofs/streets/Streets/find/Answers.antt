use Rattle.std.proofs.lemmas.Result.{IfOk-weaker}
use Rattle.street_engine.proofs.StreetsStandFor.{traffic-of}
use Rattle.street_engine.proofs.streets.Streets.find.Goals as goal

pub returns : goal.returns
returns c = IfOk-weaker c.find.result _ _ (λ found is m stands. let t = traffic-of c.self.view_is stands in is m t.sound t.tiles) c.find.ensures
