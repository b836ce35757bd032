use Rattle.std.proofs.Common.{refl}
use Rattle.street_tile.proofs.Together.{tile-at, kept-room, room-goes}
use Rattle.street_tile.proofs.tiles.Tiles.prepare_one.Goals as goal

pub invariant_of-self : goal.invariant_of-self
invariant_of-self c = kept-room (tile-at c.self.view_is c.requires refl c.index_mut.ensures.value) c.self.invariant _ c.prepare.ensures.same

pub returns-clause-kept : goal.returns-clause-kept
returns-clause-kept c = room-goes (tile-at c.self.view_is c.requires refl c.index_mut.ensures.value) _ c.prepare.ensures.same
