-- Counts over the lanes of tiles, one tile after another.
use Rattle.std.proofs.Common.{◌≡◌, ℕ, zero, suc, ◌+◌, ◌<◌, ◌≤◌, List, [], ◌∷◌, length, take, get_or, sym, ◌∙◌, ap, arith, sum_by}
use Rattle.std.proofs.lemmas.List.{take_more, take_all}
use Rattle.std.proofs.lemmas.List.Sums.{sum_by-append}
use Rattle.street_base.specs.declared.net.NetSpec.{NetSpec}
use Rattle.street_base.specs.declared.names.Place.{Place}
use Rattle.street_base.specs.Prelude.{places, Traffic, LaneState, lane_at, over_all}
use Rattle.street_base.proofs.FormLemmas.{shape-of}
use Rattle.street_tile.specs.Prelude.{TileView, AreTiles, AllStand, all_places, over}
use Rattle.street_tile.proofs.Rows.{in-row, roads-of}
use Rattle.street_tile.proofs.PublishedView.{all_places-push}
use Rattle.street_tile.proofs.Sums.{tiles-sums, over_all-places}

first-le : (f : Place → ℕ) (n : ℕ) (xs : List TileView) → sum_by f (all_places (take n xs)) ≤ sum_by f (all_places xs)
first-le f zero xs = omega arith
first-le f (suc n) [] = omega arith
first-le f (suc n) (x ∷ xs) = omega (arith, sum_by-append f (all_places (take n xs)) x.own.places, sum_by-append f (all_places xs) x.own.places, first-le f n xs)

module _ (net : NetSpec) (xs : List TileView) (tiles : AreTiles net xs) (m : Traffic) (f : LaneState → ℕ) where
  total : AllStand net xs m → over_all f m ≡ over (all_places xs) f m
  total s =
      over_all-places m (shape-of m s.on.formed) f
      ∙ ap (λ (n : NetSpec). sum_by (λ p. f (lane_at m p)) (places n)) s.on.network
      ∙ sym (tiles-sums net (roads-of net xs tiles) (λ p. f (lane_at m p)) xs (in-row net xs tiles))

  -- one more tile
  pub count-next : (i : ℕ) (d : TileView) → i < length xs → over (all_places (take (i + 1) xs)) f m ≡ over (all_places (take i xs)) f m + over (get_or xs i d).own.places f m
  count-next i d h =
      ap (λ (ys : List TileView). over (all_places ys) f m) (take_more xs i d h)
      ∙ ap (λ (ps : List Place). over ps f m) (all_places-push (take i xs) (get_or xs i d))
      ∙ omega (arith, sum_by-append (λ p. f (lane_at m p)) (get_or xs i d).own.places (all_places (take i xs)))

  -- no more than all
  pub count-part : AllStand net xs m → (i : ℕ) → over (all_places (take i xs)) f m ≤ over_all f m
  count-part s i = let all = total s in let le = first-le (λ p. f (lane_at m p)) i xs in omega arith

  -- all
  pub count-all : AllStand net xs m → (i : ℕ) → length xs ≤ i → over (all_places (take i xs)) f m ≡ over_all f m
  count-all s i h = ap (λ (ys : List TileView). over (all_places ys) f m) (take_all i xs h) ∙ sym (total s)

  -- one more tile's own count
  pub count-more : (i : ℕ) (x : TileView) (all own : ℕ) → i < length xs → x ≡ get_or xs i x → all ≡ over (all_places (take i xs)) f m → own ≡ over x.own.places f m → all + own ≡ over (all_places (take (i + 1) xs)) f m
  count-more i x all own h is e o =
      let next = count-next i x h in
      let same : over x.own.places f m ≡ over (get_or xs i x).own.places f m = ap (λ (t : TileView). over t.own.places f m) is in
      omega arith

  -- it stays within the number of vehicles
  pub count-few : AllStand net xs m → (most : ℕ) → over_all f m ≤ most → (i : ℕ) (x : TileView) (all own : ℕ) → i < length xs → x ≡ get_or xs i x → all ≡ over (all_places (take i xs)) f m → own ≡ over x.own.places f m → all + own ≤ most
  count-few s most le i x all own h is e o =
      let sum = count-more i x all own h is e o in
      let part = count-part s (i + 1) in
      omega arith
