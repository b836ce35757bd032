-- The names that contracts and proofs cite most, passed on from one place. Declares nothing.
pub use Rattle.street_engine.specs.Ends.{AreComing, AreCounted, EndsView}
pub use Rattle.street_engine.specs.Noted.{HasStepped, KeepsSink, ToldOf, ToldSteps, advanced, befores, befores_in, recorded_in, steps_made}
pub use Rattle.street_engine.specs.Shifts.{HaveRun, MakesSteps, ShiftResultView}
pub use Rattle.street_engine.specs.Refines.{EngineView, KeepsRefused, PassesLane, RefusesLane, Serves, ServesAll, TellsEntry, closing}
unfoldable pub use Rattle.street_engine.specs.Refines.{StandsFor}
pub use Rattle.street_engine.specs.Sites.{AreDetectorSites, IsDetectorSite}
pub use Rattle.street_engine.specs.Streets.{IsKept, IsTrafficOf, StreetsAdmit, StreetsGo, StreetsSignal, StreetsView, no_streets, streets_of}
unfoldable pub use Rattle.street_engine.specs.Streets.{StreetsStandFor}
