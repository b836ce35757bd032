use Rattle.street_engine.specs.Prelude.{StandsFor}
use Rattle.street_engine.proofs.engine.Engine.new.Goals as goal

pub returns : goal.returns
unfolding StandsFor
returns g c = tt
