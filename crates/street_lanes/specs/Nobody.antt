-- Lanes on which somebody is, and lanes on which nobody is, which a phase of a step may leave out.
use Rattle.std.specs.Prelude.{◌≡◌, ℕ, [], None}
use Rattle.street_base.specs.Prelude.{Cells, vehicle_at}
use Rattle.street_yard.specs.declared.names.ListKind.{ListKind}
use Rattle.street_yard.specs.declared.names.ListKind.TheVariants.{Cells as InCells, Buffer, Waiting}
use Rattle.street_lanes.specs.Views.{LaneView}

-- that no vehicle's front stands in any cell, and so no vehicle in any of them
abbrev pub IsDeserted : Cells → Type 0
IsDeserted cells = (x : ℕ) → vehicle_at cells x ≡ None

-- that no vehicle has its front in the lane's cells; of buffer and who waits nothing is said
abbrev pub HasNobodyInCells : LaneView → Type 0
HasNobodyInCells x = IsDeserted x.track.cells

-- that no vehicle is in the lane's buffer; of its cells and who waits nothing is said
abbrev pub HasEmptyBuffer : LaneView → Type 0
HasEmptyBuffer x = x.queue ≡ []

-- that no vehicle waits on the lane; of its cells and buffer nothing is said
abbrev pub HasNobodyWaiting : LaneView → Type 0
HasNobodyWaiting x = x.waiting ≡ []

-- that no vehicle is on the lane's list of this kind: in its cells, in its buffer, or among those who wait
abbrev pub HasNobody : ListKind → LaneView → Type 0
HasNobody InCells x = HasNobodyInCells x
HasNobody Buffer x = HasEmptyBuffer x
HasNobody Waiting x = HasNobodyWaiting x
