-- Hand-overs on their way from the tiles that let them go to the tiles that own their lanes.
use Rattle.std.specs.Prelude.{◌≡◌, ℕ, ◌*◌, ◌<◌, ◌==◌, Bool, false, Option, None, List, [], ◌∷◌, ◌++◌, map, length, slice_index_or, if◌then◌else◌, All}
use Rattle.street_base.specs.declared.names.Place.{Place}
use Rattle.street_tile.specs.Halves.{Transfer, entry_in}
use Rattle.street_tile.specs.Tiles.{TileView}

-- that there is a bit for each of these lanes, of its first list, and that nobody comes to a lane whose bit is not set
pub record AreMarked (by_lane : List (Option Transfer)) (bits : List Bool) : Type 0 where
  pub many : 3 * length by_lane < length bits
  pub nobody : (n : ℕ) → slice_index_or bits (3 * n) false ≡ false → slice_index_or by_lane n None ≡ None

-- the hand-overs of all tiles: those of the last tile first, each tile's in their own order
abbrev pub all_handed : List TileView → List Transfer
all_handed [] = []
all_handed (x ∷ xs) = all_handed xs ++ x.handed

-- the own lanes of all tiles: those of the last tile first, each tile's in their own order
abbrev pub all_places : List TileView → List Place
all_places [] = []
all_places (x ∷ xs) = all_places xs ++ x.own.places

-- a tile after all hand-overs of `entries` were moved: it has none left, and for each own lane, by its own number, the
-- vehicle of the first of `entries` into that lane comes, or none; all else is as it was
abbrev pub received : List Transfer → TileView → TileView
received entries x = record x { handed = []; coming = map (entry_in entries) x.own.places }

-- that the vehicles that come to a tile's lanes are just those of `entries`: for each own lane the first that enters
-- it, or none
abbrev pub Awaits : List Transfer → TileView → Type 0
Awaits entries x = x.coming ≡ map (entry_in entries) x.own.places

-- the tile x at j while the hand-overs of tile i are moved: tile i still has those in `left`, other tiles theirs, and
-- to each own lane comes the vehicle of the first of `moved` into it, or none
abbrev pub moved_at : ℕ → List Transfer → List Transfer → ℕ → TileView → TileView
moved_at i left moved j x = record x { handed = if j == i then left else x.handed; coming = map (entry_in moved) x.own.places }

-- that the tiles ys are the tiles xs, one by one, while tile i's hand-overs are moved: tile i has `left`, and to each
-- own lane of any tile comes the first of `moved` into it; that ys is as long as xs is not said
abbrev pub IsMoved : ℕ → List Transfer → List Transfer → List TileView → List TileView → Type 0
IsMoved i left moved xs ys = (j : ℕ) (d : TileView) → j < length xs → slice_index_or ys j d ≡ moved_at i left moved j (slice_index_or xs j d)

-- that the last hand-over e of tile i is moved to the tile that owns its lane: those before it, `left`, stay, and those
-- moved so far, `es`, become `e ∷ es`; claimed where tile i has one and all tiles await `es`
abbrev pub MovesLast : ℕ → List TileView → List TileView → Type 0
MovesLast i xs ys = (left : List Transfer) (e : Transfer) (es : List Transfer) (d : TileView)
    → (slice_index_or xs i d).handed ≡ left ++ e ∷ [] → All (Awaits es) xs → IsMoved i left (e ∷ es) xs ys
