use Rattle.street_runs.proofs.Scripts.{are_told}
use Rattle.street_runs.proofs.laws.scripts_are_told.Goals as goal

pub returns : goal.returns
returns g c = are_told
