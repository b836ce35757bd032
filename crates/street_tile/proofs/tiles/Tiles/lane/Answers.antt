use Rattle.std.proofs.Common.{refl}
use Rattle.street_tile.proofs.Together.{tile-at, owns-here}
use Rattle.street_tile.proofs.tiles.Tiles.lane.Goals as goal

pub lane-requires-clause-own : goal.lane-requires-clause-own
lane-requires-clause-own c =
    let t = tile-at c.self.view_is c.owner_of_link-i.ensures.inside c.deref.ensures c.index.ensures in
    owns-here t c.args.at.link c.args.at c.owner_of_link-i.ensures.own refl
