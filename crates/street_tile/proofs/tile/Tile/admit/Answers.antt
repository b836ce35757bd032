use Rattle.std.specs.Prelude.{◌≡◌}
use Rattle.street_base.specs.Prelude.{in_lane, with_waiting}
use Rattle.street_lanes.specs.Prelude.{waiting_of}
use Rattle.street_tile.proofs.DoesIf.{seen-if}
use Rattle.street_tile.proofs.tile.Tile.admit.Goals as goal

pub returns-clause-waits : goal.returns-clause-waits
returns-clause-waits c = seen-if c.args.net.now c.self.view_is c.requires.tile c.number-lane.result c.args.at c.number-lane.ensures (λ s. in_lane c.args.car.number s ≡ 0) (with_waiting (waiting_of c.args.car)) c.reserve.new.self c.admit.new.self c.reserve.new.self.room c.in_ok-reserve.ensures.rest_kept c.admit.ensures.waits
