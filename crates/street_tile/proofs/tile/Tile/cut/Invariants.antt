use Rattle.street_tile.proofs.MadeTiles.{AreMade}
use Rattle.street_tile.proofs.tile.Tile.cut.Given as goal

abbrev pub invariant-loop-i : goal.invariant-loop-i
invariant-loop-i l = AreMade l.net l.count l.i l.tiles.items
