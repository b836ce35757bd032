-- Tiles that have made a step.
use Rattle.std.proofs.Common.{◌≡◌, ℕ, ◌+◌, ◌<◌, ◌≤◌, List, length, take, get_or, filter_map, sum_by, count_by, is_some, sym, ap, subst, ◌∙◌, arith, All}
use Rattle.std.specs.List.{enumerate_from}
use Rattle.std.proofs.lemmas.List.{take_more, take_all, length-map}
use Rattle.std.proofs.lemmas.List.FromFn.{length-enumerate_from}
use Rattle.std.proofs.lemmas.List.Sums.{sum_by-append}
use Rattle.street_base.specs.declared.net.NetSpec.{NetSpec}
use Rattle.street_base.specs.declared.names.Place.{Place}
use Rattle.street_base.specs.Prelude.{Traffic, changed, driven, released, departed, step, in_buffers, in_cells, leaver_of, places, rows_of_step}
use Rattle.street_base.proofs.FormLemmas.{shape-of}
use Rattle.street_lanes.specs.Prelude.{IsOn}
use Rattle.street_record.specs.Rows.{arrival_at}
use Rattle.street_record.proofs.Counted.{rows-count, told-count}
use Rattle.street_record.proofs.InOrder.{arrivals-few}
use Rattle.street_tile.specs.Record.{arrived_at}
use Rattle.street_tile.specs.Prelude.{TileView, Each, AllStand, TileStandsFor, MetersStand, SameButArrived, Steps, HaveStepped, TilesStandFor, TilesView, tiles_of, AreTiles, IsTileOf, all_places, is_own, own_places}
use Rattle.street_tile.proofs.PublishedView.{all_places-push}
use Rattle.street_tile.proofs.Rows.{in-row, roads-of}
use Rattle.street_tile.proofs.Sums.{tiles-sums, over_all-places}
use Rattle.street_tile.proofs.Together.{IsTileAt}

-- all tiles have made the step from whatever they stood for
pub have-stepped : (net : NetSpec) (xs ys : List TileView) → Steps net xs ys → (m : Traffic) → TilesStandFor (tiles_of net xs) m → HaveStepped (tiles_of net ys) m
have-stepped net xs ys steps m s = record {
  stand = record { lanes = steps.machine m s.lanes; meters = steps.meters m s.lanes s.meters };
  left = steps.left m s.lanes;
}

-- who takes the numbers of those who arrived leaves the rest as it was
pub stepped-kept : (x y : TilesView) (m : Traffic) → HaveStepped x m → y.network ≡ x.network → length y.tiles ≡ length x.tiles → Each SameButArrived x.tiles y.tiles → HaveStepped y m
stepped-kept x y m s network long same = record {
  stand = record {
    lanes = subst (λ (net : NetSpec). AllStand net y.tiles (step m)) (sym network) (record {
      on = s.stand.lanes.on;
      each = λ i d h. subst (λ (t : TileView). TileStandsFor t (step m)) (sym (same i d (omega (arith, long, h)))) (stood (get_or x.tiles i d) (get_or y.tiles i d) (s.stand.lanes.each i d (omega (arith, long, h))));
    });
    meters = λ i d h. subst (λ (t : TileView). MetersStand t (step m)) (sym (same i d (omega (arith, long, h)))) (s.stand.meters i d (omega (arith, long, h)));
  };
  left = λ i d h. subst (λ (t : TileView). t.left ≡ filter_map (arrival_at (changed m)) t.own.places) (sym (same i d (omega (arith, long, h)))) (s.left i d (omega (arith, long, h)));
}
  where
    stood : (a b : TileView) → TileStandsFor a (step m) → TileStandsFor (record a { arrived = b.arrived }) (step m)
    stood a b t = record { clock = t.clock; lanes = t.lanes; none_loose = t.none_loose; signals = t.signals }

-- one of the tiles holds the rows of its own lanes
module _ {net here : NetSpec} {xs : List TileView} {v : TilesView} {i : ℕ} {x : TileView} (t : IsTileAt net here xs v i x) where
  pub left-here : (m : Traffic) → HaveStepped v m → x.left ≡ filter_map (arrival_at (changed m)) x.own.places
  left-here m s =
      let each : All (λ u. u.left ≡ filter_map (arrival_at (changed m)) u.own.places) xs =
      subst (λ (w : TilesView). All (λ u. u.left ≡ filter_map (arrival_at (changed m)) u.own.places) w.tiles) (sym t.seen) s.left in
      subst (λ (u : TileView). u.left ≡ filter_map (arrival_at (changed m)) u.own.places) (sym t.is) (each i x t.within)

  -- at most two arrive a link
  pub left-few : (m : Traffic) → HaveStepped v m → IsTileOf here x → length x.left ≤ 8192
  left-few m s tile =
      let own : x.left ≡ filter_map (arrival_at (changed m)) (own_places here x.low x.high) = left-here m s ∙ ap (filter_map (arrival_at (changed m))) tile.places in
      let few = arrivals-few here tile.roads.two (is_own here x.low x.high) (leaver_of (changed m)) in
      let links = tile.roads.few in
      omega (arith, ap length own, few, links)

  -- how many arrived on one of the tiles
  pub left-count : (m : Traffic) → HaveStepped v m → length x.left ≡ sum_by (arrived_at m) x.own.places
  left-count m s = ap length (left-here m s) ∙ told-count (arrival_at (changed m)) x.own.places

-- ---- over all tiles

-- one more tile
pub sum-next : (g : Place → ℕ) (xs : List TileView) (i : ℕ) (d : TileView) → i < length xs → sum_by g (all_places (take (i + 1) xs)) ≡ sum_by g (all_places (take i xs)) + sum_by g (get_or xs i d).own.places
sum-next g xs i d h =
    ap (λ (ys : List TileView). sum_by g (all_places ys)) (take_more xs i d h)
    ∙ ap (λ (ps : List Place). sum_by g ps) (all_places-push (take i xs) (get_or xs i d))
    ∙ omega (arith, sum_by-append g (get_or xs i d).own.places (all_places (take i xs)))

-- all tiles
pub sum-all : (g : Place → ℕ) (net : NetSpec) (xs : List TileView) → AreTiles net xs → (i : ℕ) → length xs ≤ i → sum_by g (all_places (take i xs)) ≡ sum_by g (places net)
sum-all g net xs tiles i h = ap (λ (ys : List TileView). sum_by g (all_places ys)) (take_all i xs h) ∙ tiles-sums net (roads-of net xs tiles) g xs (in-row net xs tiles)

-- ---- the rows of a step

pub step-long : (m : Traffic) → length (step m).ends ≡ length m.ends
unfolding step departed released driven changed
step-long m = length-map (enumerate_from 0 m.ends) _ ∙ length-enumerate_from 0 m.ends

-- as many as are in cells and in buffers after it, and arrived in it
pub step-count : (net : NetSpec) (m : Traffic) → IsOn net (step m) → length (rows_of_step m) ≡ in_cells (step m) + in_buffers (step m) + sum_by (arrived_at m) (places net)
step-count net m on =
    let cells = over_all-places (step m) (shape-of (step m) on.formed) (λ lane. count_by is_some lane.track.cells) in
    let buffers = over_all-places (step m) (shape-of (step m) on.formed) (λ lane. length lane.queue) in
    let arrived = ap (λ (n : NetSpec). sum_by (arrived_at m) (places n)) on.network in
    omega (arith, rows-count (changed m) (step m), cells, buffers, arrived)
