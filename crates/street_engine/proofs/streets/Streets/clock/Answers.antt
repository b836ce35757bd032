use Rattle.street_engine.proofs.StreetsStandFor.{stands-seen}
use Rattle.street_engine.proofs.streets.Streets.clock.Goals as goal

pub returns-clause-stands : goal.returns-clause-stands
returns-clause-stands c = (c.self.invariant.some.0, stands-seen c.self.view_is c.self.invariant.some.1)
