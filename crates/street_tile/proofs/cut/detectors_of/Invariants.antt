use Rattle.std.proofs.Common.{◌≡◌, map, take}
use Rattle.street_tile.specs.Prelude.{bare}
use Rattle.street_tile.proofs.cut.detectors_of.Given as goal

abbrev pub invariant-loop-at : goal.invariant-loop-at
invariant-loop-at l = l.detectors.items ≡ map (bare l.net) (take l.at-index l.own)
