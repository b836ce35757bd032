-- All tiles of a network together, between two steps, and what a call does to them.
use Rattle.std.specs.Prelude.{◌≡◌, ◌*◌, ◌≤◌, ◌++◌, ◌∷◌, ℕ, List, [], length, true, slice_index_or, slice_set, filter_map, All}
use Rattle.street_base.specs.declared.net.NetSpec.{NetSpec}
use Rattle.street_base.specs.declared.names.Place.{Place}
use Rattle.street_base.specs.Prelude.{most_workers, Traffic, IsWhole, changed, step}
use Rattle.street_tile.specs.Commands.{HaveNot}
use Rattle.street_record.specs.Rows.{arrival_at}
use Rattle.street_tile.specs.Tiles.{TileView, IsStill, IsPrepared, Each, AreTiles, AllStand, is_own}
use Rattle.street_tile.specs.TileDetectors.{AllMetersStand}

-- what contracts see of all tiles together: the network and its tiles
pub record TilesView : Type 0 where
  pub network : NetSpec
  pub tiles : List TileView

-- the tiles and their network, as contracts see them
abbrev pub tiles_of : NetSpec → List TileView → TilesView
tiles_of net xs = record { network = net; tiles = xs }

-- that these tiles are as calls leave them: all tiles of the network, at most `most_workers`, nobody on the way; and
-- `mouths`, a count of marks, is two for each link
pub record AreKept (net : NetSpec) (xs : List TileView) (mouths : ℕ) : Type 0 where
  pub tiles : AreTiles net xs
  pub few : length xs ≤ most_workers
  pub still : All IsStill xs
  pub wide : mouths ≡ 2 * length net.links

-- that the tiles stand for the traffic of their network, each at its own lanes and nodes, and their meters for its
-- detectors, lane by lane
pub record TilesStandFor (x : TilesView) (m : Traffic) : Type 0 where
  pub lanes : AllStand x.network x.tiles m
  pub meters : AllMetersStand x.tiles m

-- that the tiles have made the step from this traffic: with their meters they stand for the next state, and each holds
-- the rows of those who arrived from its lanes in the step
pub record HaveStepped (x : TilesView) (m : Traffic) : Type 0 where
  pub stand : TilesStandFor x (step m)
  pub left : All (λ t. t.left ≡ filter_map (arrival_at (changed m)) t.own.places) x.tiles

-- that no tile holds the number of a vehicle that arrived and is not yet noted
abbrev pub NobodyArrived : TilesView → Type 0
NobodyArrived x = All (λ t. t.arrived ≡ []) x.tiles

-- that, whatever traffic the tiles x stood for, if P held of it, the tiles y stand for f of it; network and count of
-- tiles are as they were; where x held nobody's number as arrived, y holds none either
pub record TilesGo (P : Traffic → Type 0) (f : Traffic → Traffic) (x y : TilesView) : Type 0 where
  pub network : y.network ≡ x.network
  pub long : length y.tiles ≡ length x.tiles
  pub nobody : NobodyArrived x → NobodyArrived y
  pub goes : (m : Traffic) → P m → TilesStandFor x m → TilesStandFor y (f m)

-- that, whatever traffic the tiles x stood for, the tiles y stand for it, too; network and count of tiles are as they
-- were; where x held nobody's number as arrived, y holds none either
abbrev pub TilesKeep : TilesView → TilesView → Type 0
TilesKeep x y = TilesGo (λ m. Unit {0}) (λ m. m) x y

-- that tile i owns all lanes of the link at this position, as the link runs to one of the tile's nodes, from its `low`
-- to below its `high`
abbrev pub OwnsLink : TilesView → ℕ → ℕ → Type 0
OwnsLink x i link = (d : TileView) (p : Place) → p.link ≡ link → is_own x.network (slice_index_or x.tiles i d).low (slice_index_or x.tiles i d).high p ≡ true

-- that no vehicle of this number is on tile i's lanes, in all traffic for which the tiles stand and that is whole
-- (`IsWhole`): each number in one place or ended
abbrev pub TileHasNot : TilesView → ℕ → ℕ → Type 0
TileHasNot x i number = (m : Traffic) → IsWhole m → TilesStandFor x m → (d : TileView) → HaveNot (slice_index_or x.tiles i d).own.places m number

-- that tile i now has room for a vehicle more on each own lane (`IsPrepared`), and all other tiles are as they were;
-- that tile i else is as it was is not said
pub record PreparesOne (i : ℕ) (xs ys : List TileView) : Type 0 where
  pub here : (d : TileView) → IsPrepared (slice_index_or ys i d)
  pub others : (k : ℕ) (d : TileView) → (k ≡ i → ⊥) → slice_index_or ys k d ≡ slice_index_or xs k d

-- the numbers of those who arrived, of all tiles: those of the last tile first, each tile's in their own order
abbrev pub all_arrived : List TileView → List ℕ
all_arrived [] = []
all_arrived (x ∷ xs) = all_arrived xs ++ x.arrived

-- that tile y is tile x, but perhaps for the list of numbers of those who arrived
abbrev pub SameButArrived : TileView → TileView → Type 0
SameButArrived x y = y ≡ record x { arrived = y.arrived }

-- that `number` was taken from the tiles as the last of those who arrived, in the order of `all_arrived`, the last
-- tile's first; network, count of tiles and all else of them are as they were
pub record TakesArrival (number : ℕ) (x y : TilesView) : Type 0 where
  pub network : y.network ≡ x.network
  pub long : length y.tiles ≡ length x.tiles
  pub tiles : Each SameButArrived x.tiles y.tiles
  pub rest : all_arrived x.tiles ≡ all_arrived y.tiles ++ number ∷ []

-- that `number` was taken from tile i, from `old` to `new`, as the last of those who arrived there; the network, all
-- else of the tile and other tiles are as they were
pub record TakesArrivalOf (i number : ℕ) (x y : TilesView) : Type 0 where
  pub network : y.network ≡ x.network
  pub old : TileView
  pub new : TileView
  pub at : (d : TileView) → slice_index_or x.tiles i d ≡ old
  pub tiles : y.tiles ≡ slice_set x.tiles i new
  pub same : SameButArrived old new
  pub rest : old.arrived ≡ new.arrived ++ number ∷ []
