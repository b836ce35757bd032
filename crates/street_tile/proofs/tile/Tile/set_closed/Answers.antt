use Rattle.std.proofs.Common.{◌≡◌, length}
use Rattle.street_base.specs.Prelude.{with_marks, link_at}
use Rattle.street_lanes.specs.Prelude.{lane_of}
use Rattle.street_tile.proofs.DoesIf.{seen-length, seen-within, seen-at, seen-count}
use Rattle.street_tile.proofs.tile.Tile.set_closed.Goals as goal

pub set_closed-requires-clause-within : goal.set_closed-requires-clause-within
set_closed-requires-clause-within c =
    let long : length (lane_of c.self.inside.own c.number-lane.result).track.cells ≡ (link_at c.args.net.now c.args.at.link).length = seen-length c.args.net.now c.self.view_is c.requires.tile c.number-lane.result c.args.at c.number-lane.ensures in
    λ is. rw long c.requires.within

pub closed_cells-requires : goal.closed_cells-requires
closed_cells-requires c = seen-within c.args.net.now c.self.view_is c.requires.tile c.number-lane.result c.args.at c.number-lane.ensures c.set_closed.new.self c.in_ok-set_closed.ensures.ok.same

pub returns-clause-marks : goal.returns-clause-marks
returns-clause-marks c = seen-at c.args.net.now c.self.view_is c.requires.tile c.number-lane.result c.args.at c.number-lane.ensures (with_marks c.args.closed c.args.first c.args.last) c.set_closed.new.self c.in_ok-set_closed.ensures.ok

pub returns-clause-count : goal.returns-clause-count
returns-clause-count c = λ m on s. seen-count c.args.net.now c.self.view_is c.requires.tile c.number-lane.result c.args.at c.number-lane.ensures c.args.closed c.args.first c.args.last c.set_closed.new.self c.closed_cells.result c.in_ok-set_closed.ensures.ok c.closed_cells.ensures m s
