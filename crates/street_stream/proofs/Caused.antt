-- What causes a fault while a line is handled causes it in a run.
use Rattle.std.proofs.Common.{ℕ}
use Rattle.street_stream.specs.Faults.{IsCausedByWriting, IsCaused, IsCausedBy, IsCausedByLine}
use Rattle.street_stream.specs.declared.answer.StopCause.{StopCause}
use Rattle.street_stream.specs.declared.answer.StopCause.TheVariants.{Run, Line}
use Rattle.street_stream.specs.declared.counted.Counted.{Counted}
use Rattle.street_stream.specs.declared.tally.FaultKind.{FaultKind}
use Rattle.street_stream.specs.declared.tally.FaultKind.TheVariants.{Read, Write, Starved, Endless}

caused_in_run : {R W : Type 0} (kind : FaultKind) (reader : Counted R) (writer : Counted W) (reads : ℕ) → IsCausedByWriting kind writer → IsCaused kind reader writer reads
caused_in_run Read reader writer reads h = absurd h
caused_in_run Write reader writer reads h = h
caused_in_run Starved reader writer reads h = h
caused_in_run Endless reader writer reads h = absurd h

pub caused_by_line : {S R W : Type 0} (cause : StopCause S) (reader : Counted R) (writer : Counted W) (reads : ℕ) → IsCausedByLine cause writer → IsCausedBy cause reader writer reads
caused_by_line (Run kind) reader writer reads h = caused_in_run kind reader writer reads h
caused_by_line (Line stop) reader writer reads h = tt
