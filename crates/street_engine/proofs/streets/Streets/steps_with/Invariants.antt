use Rattle.std.proofs.Common.{◌≡◌, ◌+◌}
use Rattle.street_base.specs.Prelude.{Traffic, steps}
use Rattle.street_engine.specs.Prelude.{StreetsGo, ToldOf}
use Rattle.street_engine.proofs.streets.Streets.steps_with.Given as goal

abbrev pub invariant-loop-done : goal.invariant-loop-done
invariant-loop-done g l = record {
  stands : StreetsGo (λ m. steps l.done m) l.fn.self l.streets;
  lender : g.L.Lender.knows l.lender l.streets.tiles.network;
  noted : ToldOf g.K.StepSink.notes l.fn.self l.done l.fn.sink l.noting;
  clock : l.streets.clock ≡ l.fn.self.clock + l.done;
}
