use Rattle.street_tile.proofs.tiles.Tiles.find_on_link.Given as goal

abbrev pub invariant-loop-lane : goal.invariant-loop-lane
invariant-loop-lane l = Unit {0}
