use Rattle.street_tile.proofs.DoesIf.{number-seen}
use Rattle.street_tile.proofs.tile.Tile.number.Goals as goal

pub returns : goal.returns
returns c = number-seen c.args.net.now c.self.view_is c.args.at c.self.inside.numbers.items c.slot.result c.index.result.now c.index.result.now c.requires.tile c.self.invariant.wide.numbered c.requires.lane c.requires.own c.slot.ensures c.index.ensures
