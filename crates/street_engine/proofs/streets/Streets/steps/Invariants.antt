use Rattle.std.proofs.Common.{◌≡◌, ◌+◌, ◌≤◌}
use Rattle.street_base.specs.Prelude.{steps}
use Rattle.street_engine.specs.Prelude.{StreetsGo, ToldOf}
use Rattle.street_engine.proofs.streets.Streets.steps.Given as goal

abbrev pub invariant-loop : goal.invariant-loop
invariant-loop g l = record {
  most : l.done ≤ l.count;
  clock : l.streets.clock ≡ l.fn.self.clock + l.done;
  stands : StreetsGo (steps l.done) l.fn.self l.streets;
  noted : ToldOf g.K.StepSink.notes l.fn.self l.done l.fn.sink l.noting;
}
