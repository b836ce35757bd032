use Rattle.std.proofs.Common.{◌≡◌, length, refl, arith}
use Rattle.street_tile.proofs.Rows.{roads-of, one-tile}
use Rattle.street_tile.proofs.LaneOwners.{share-owns}
use Rattle.street_tile.proofs.Sums.{all-own}
use Rattle.street_tile.proofs.hand_over.owner_of_lane.Goals as goal

-- one tile has all lanes
pub returns-then-tiles-eq1-clause-own : goal.returns-then-tiles-eq1-clause-own
returns-then-tiles-eq1-clause-own c = λ d.
    let net = c.args.net.now in
    let xs = c.args.tiles.now in
    let one : length xs ≡ 1 = omega arith in
    let all = one-tile net xs c.requires.tiles one d in
    rw (all.0, all.1) (all-own net (roads-of net xs c.requires.tiles) c.args.to c.requires.lane)

pub returns-clause-own : goal.returns-clause-own
returns-clause-own c = λ d. share-owns c.args.net.now c.args.tiles.now c.requires.tiles (length c.args.tiles.now) c.owner_of_node.result c.end_of.result c.args.to refl c.owner_of_node.ensures.inside c.owner_of_node.ensures.low c.owner_of_node.ensures.high c.end_of.ensures.position d
