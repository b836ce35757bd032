use Rattle.street_line.proofs.EngineRuns.{goes-runs}
use Rattle.street_line.specs.Engines.{commands_of}
use Rattle.street_line.proofs.laws.lines_are_a_run.Goals as goal

pub returns-clause-run : goal.returns-clause-run
returns-clause-run c = goes-runs

pub returns-clause-census : goal.returns-clause-census
returns-clause-census c = λ ls out new went.
    let run = goes-runs _ ls out new went in
    c.census_holds.ensures (commands_of ls) run.0 new run.1
