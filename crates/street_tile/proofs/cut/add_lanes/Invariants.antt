use Rattle.std.proofs.Common.{◌≡◌, ◌++◌, map}
use Rattle.std.specs.List.{range_with_len}
use Rattle.street_tile.proofs.cut.add_lanes.Given as goal

abbrev pub invariant-loop-lane : goal.invariant-loop-lane
invariant-loop-lane l = l.list.items ≡ l.fn.list.items ++ map (λ k. record { link = l.link; lane = k }) (range_with_len 0 l.lane)
