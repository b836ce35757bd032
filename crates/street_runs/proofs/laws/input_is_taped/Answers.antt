use Rattle.street_line.proofs.Alone.{ends_alone}
use Rattle.street_runs.proofs.laws.input_is_taped.Goals as goal

pub returns : goal.returns
returns c = λ pass journal alone ended. ends_alone pass journal alone ended.finished
