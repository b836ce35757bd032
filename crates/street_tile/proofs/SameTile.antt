-- A tile that stays the tile that it was.
use Rattle.std.proofs.Common.{◌≡◌, ℕ, List, map, refl, sym, ◌∙◌, ap, subst, Option, Some, slice_get}
use Rattle.street_base.specs.declared.net.NetSpec.{NetSpec}
use Rattle.street_base.specs.declared.names.Place.{Place}
use Rattle.street_base.specs.Prelude.{Vehicle}
use Rattle.street_lanes.specs.Prelude.{cells_on}
use Rattle.street_tile.specs.Prelude.{Transfer, TileView, IsTileOf, SameTile}
use Rattle.street_tile.proofs.SameLanes.{same-none, of-same}

pub tile-none : (x : TileView) → SameTile x x
tile-none x = record { low = refl; high = refl; links = refl; own = same-none x.own; sized = refl }

-- of what the fields of a tile show and of its view the same holds
pub at-view : (R : TileView → TileView → Type 0) {x v y : TileView} → x ≡ v → R x y → R v y
at-view R {x} {v} {y} is r = subst (λ (t : TileView). R t y) is r

pub tile-seen : {net : NetSpec} {x v : TileView} → x ≡ v → IsTileOf net v → IsTileOf net x
tile-seen {net} is tile = subst (IsTileOf net) (sym is) tile

pub place-seen : {x v : TileView} (n : ℕ) (p : Place) → x ≡ v → slice_get v.own.places n ≡ Some p → slice_get x.own.places n ≡ Some p
place-seen n p is at = subst (λ (t : TileView). slice_get t.own.places n ≡ Some p) (sym is) at

-- whoever is on the way to it
pub same-moved : (x y : TileView) (handed : List Transfer) (coming : List (Option Vehicle)) → y ≡ record x { handed = handed; coming = coming } → SameTile x y
same-moved x y handed coming e = subst (SameTile x) (sym e) (record { low = refl; high = refl; links = refl; own = same-none x.own; sized = refl })

pub tile-of-same : (net : NetSpec) (x y : TileView) → SameTile x y → IsTileOf net x → IsTileOf net y
tile-of-same net x y s tile = record {
  roads = tile.roads;
  links = s.links ∙ tile.links;
  within = rw s.high tile.within;
  places = s.own.places ∙ tile.places ∙ rw (s.low, s.high) refl;
  own = of-same net x.own y.own s.own tile.own;
  sized = s.sized ∙ tile.sized ∙ ap (map (cells_on net)) (sym s.own.places);
}
