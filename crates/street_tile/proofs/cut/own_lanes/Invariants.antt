use Rattle.std.proofs.Common.{◌≡◌, filter}
use Rattle.street_net.proofs.InLanes.{places_below}
use Rattle.street_tile.specs.Prelude.{is_own}
use Rattle.street_tile.proofs.cut.own_lanes.Given as goal

abbrev pub invariant-loop-at : goal.invariant-loop-at
invariant-loop-at l = l.own.items ≡ filter (is_own l.net l.low l.high) (places_below l.net l.at)
