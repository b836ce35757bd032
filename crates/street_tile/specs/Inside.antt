-- What the fields of `Tile` stand for, and what is true of every tile.
use Rattle.std.specs.Prelude.{◌≡◌, ◌+◌, ◌*◌, ◌≤◌, map, length, false, vec_capacity}
use Rattle.street_tile.specs.declared.tile.Tile.TheInside.{Inside}
use Rattle.street_tile.specs.Halves.{vehicle_in}
use Rattle.street_tile.specs.Tiles.{TileView, AreNumbers, AreNextPairs, AreBare, AreDue}

-- what contracts see of the fields of a tile: all that it keeps, but for its tables of own numbers and next pairs and `has_meters`; of
-- each transfer that comes only the vehicle
abbrev pub seen : Inside → TileView
seen t = record {
  low = t.low;
  high = t.high;
  links = t.links;
  own = t.own;
  clock = t.clock;
  signals = t.signals.items;
  mouths = t.mouths.items;
  handed = t.handed.items;
  coming = map vehicle_in t.coming;
  arrived = t.arrived.items;
  left = t.left.items;
  detectors = t.detectors.items;
}

-- that a tile's arrays are wide enough: a signal plan or none for each node, two mouths a link, each own lane's number
-- at its slot, 2 * link + lane, and the next one behind it that begins a link of two lanes; an entry of who comes for each own lane, and memory for at least one hand-over, arrival
-- and row each
pub record IsWideEnough (t : Inside) : Type 0 where
  pub nodes : t.low + length t.signals.items ≡ t.high
  pub numbered : AreNumbers t.links t.own.places t.numbers.items
  pub pairs : AreNextPairs t.own.places t.next_pairs.items
  pub mouths : length t.mouths.items ≡ 2 * t.links
  pub coming : length t.coming ≡ length t.own.places
  pub handed : length t.own.places ≤ vec_capacity t.handed
  pub arrived : length t.own.places ≤ vec_capacity t.arrived
  pub left : length t.own.places ≤ vec_capacity t.left

-- that the next step that each detector of the tile notes is that of its clock; and that no lane has a detector where
-- `has_meters` is false
pub record HasNotedAll (t : Inside) : Type 0 where
  pub bare : t.has_meters ≡ false → AreBare t.detectors.items
  pub due : AreDue t.clock t.detectors.items

-- that the tile's arrays are wide enough for its nodes, links and own lanes (`IsWideEnough`), and its detectors have
-- noted all steps before its clock (`HasNotedAll`)
pub record IsSound (t : Inside) : Type 0 where
  pub wide : IsWideEnough t
  pub noted : HasNotedAll t
