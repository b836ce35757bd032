-- What the field of `Detectors` stands for.
use Rattle.std.specs.Prelude.{[]}
use Rattle.street_lanes.specs.declared.detectors.Detectors.TheInside.{Inside}
use Rattle.street_lanes.specs.declared.detectors.Kind.{Kind}
use Rattle.street_lanes.specs.declared.detectors.Kind.TheVariants.{Bare, Watched}
use Rattle.street_lanes.specs.Detectors.{Detectors}

-- what contracts see of a lane's detectors: no meters and no watches on a bare lane, of which only its count of cells
-- is kept; else the length, meters and watches that are kept of it
abbrev pub detectors_of : Kind → Detectors
detectors_of (Bare length) = record { size = length; meters = []; watches = [] }
detectors_of (Watched meters) = meters.value

-- what contracts see of the detectors of a lane, which keeps either its length alone or its meters (`detectors_of`)
abbrev pub seen : Inside → Detectors
seen x = detectors_of x.kind
