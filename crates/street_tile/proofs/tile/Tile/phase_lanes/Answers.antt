use Rattle.street_tile.specs.Inside.{seen}
use Rattle.street_tile.specs.Prelude.{LanePhase}
use Rattle.street_tile.proofs.SameTile.{tile-seen, at-view}
use Rattle.street_tile.proofs.Phases.{tile-pairs, changes-of}
use Rattle.street_tile.proofs.tile.Tile.phase_lanes.Goals as goal

pub change_lanes-requires-clause-pairs : goal.change_lanes-requires-clause-pairs
change_lanes-requires-clause-pairs c = tile-pairs c.args.net.now (seen c.self.inside) (tile-seen c.self.view_is c.requires)

pub returns : goal.returns
returns c =
    let tile = tile-seen c.self.view_is c.requires in
    at-view (LanePhase c.args.net.now) c.self.view_is (changes-of c.args.net.now (seen c.self.inside) tile c.change_lanes.new.own c.change_lanes.ensures.same c.change_lanes.ensures.room c.change_lanes.ensures.stand)
