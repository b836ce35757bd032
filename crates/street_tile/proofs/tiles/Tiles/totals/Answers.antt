use Rattle.std.proofs.Common.{◌≡◌, ℕ, ◌+◌, ◌<◌, ◌≤◌, List, length, take, get_or, sym, ◌∙◌, subst, arith, is_some, count_by}
use Rattle.street_base.specs.declared.net.NetSpec.{NetSpec}
use Rattle.street_base.specs.Prelude.{most_vehicles, over_all, Traffic, LaneState}
use Rattle.street_base.proofs.CountLemmas.{adds-up}
use Rattle.street_tile.specs.Prelude.{over, all_places, TileView, TileStandsFor, AreTiles, TilesView, TilesStandFor, tiles_of}
use Rattle.street_tile.proofs.LaneCounts.{count-more, count-few, count-all}
use Rattle.street_tile.proofs.Together.{stands-seen}
use Rattle.street_tile.proofs.tiles.Tiles.totals.Goals as goal

-- what was added up over the first tiles, by the traffic that all stand for
module _ (net : NetSpec) (xs : List TileView) (v : TilesView) (seen : tiles_of net xs ≡ v) (tiles : AreTiles net xs) (i : ℕ) (f : LaneState → ℕ) (sum : ℕ)
    (so_far : (m : Traffic) → TilesStandFor v m → sum ≡ over (all_places (take i v.tiles)) f m) where
  first : (m : Traffic) → TilesStandFor v m → sum ≡ over (all_places (take i xs)) f m
  first m s = subst (λ (u : TilesView). sum ≡ over (all_places (take i u.tiles)) f m) (sym seen) (so_far m s)

  all : length xs ≤ i → (m : Traffic) → TilesStandFor v m → sum ≡ over_all f m
  all h m s = first m s ∙ count-all net xs tiles m f (stands-seen net xs v m seen s).lanes i h

  module _ (x : TileView) (h : i < length xs) (is : x ≡ get_or xs i x) (own : ℕ) (one : (m : Traffic) → TileStandsFor x m → own ≡ over x.own.places f m) where
    this : (m : Traffic) → TilesStandFor v m → own ≡ over x.own.places f m
    this m s = one m (subst (λ (t : TileView). TileStandsFor t m) (sym is) ((stands-seen net xs v m seen s).lanes.each i x h))

    more : (m : Traffic) → TilesStandFor v m → sum + own ≡ over (all_places (take (i + 1) v.tiles)) f m
    more m s = subst (λ (u : TilesView). sum + own ≡ over (all_places (take (i + 1) u.tiles)) f m) seen (count-more net xs tiles m f i x sum own h is (first m s) (this m s))

    few : (m : Traffic) → TilesStandFor v m → over_all f m ≤ most_vehicles → sum + own ≤ most_vehicles
    few m s le = count-few net xs tiles m f (stands-seen net xs v m seen s).lanes most_vehicles le i x sum own h is (first m s) (this m s)

pub overflow_add-all : goal.overflow_add-all
overflow_add-all c =
    let sum = adds-up c.requires.0 c.requires.2 in
    let most = c.requires.3 in
    let h : c.loop-i.i < length c.self.inside.tiles.items = omega (arith, c.loop-i-test.true, c.len-i-end.ensures, c.self.inside.tiles.ok.0) in
    let le = few c.self.inside.network.value c.self.inside.tiles.items c.args.self.now c.self.view_is c.self.invariant.tiles c.loop-i.i (λ lane. count_by is_some lane.track.cells) c.loop-i.all.cells c.loop-i.invariant.cells c.index.result.now h c.index.ensures c.totals-own.result.cells c.totals-own.ensures.cells c.requires.0 c.requires.1 (omega arith) in
    omega arith

pub overflow_add-all-in-loop-i : goal.overflow_add-all-in-loop-i
overflow_add-all-in-loop-i c =
    let sum = adds-up c.requires.0 c.requires.2 in
    let most = c.requires.3 in
    let h : c.loop-i.i < length c.self.inside.tiles.items = omega (arith, c.loop-i-test.true, c.len-i-end.ensures, c.self.inside.tiles.ok.0) in
    let le = few c.self.inside.network.value c.self.inside.tiles.items c.args.self.now c.self.view_is c.self.invariant.tiles c.loop-i.i (λ lane. length lane.queue) c.loop-i.all.buffers c.loop-i.invariant.buffers c.index.result.now h c.index.ensures c.totals-own.result.buffers c.totals-own.ensures.buffers c.requires.0 c.requires.1 (omega arith) in
    omega arith

pub overflow_add-all-in-loop-i-2 : goal.overflow_add-all-in-loop-i-2
overflow_add-all-in-loop-i-2 c =
    let sum = adds-up c.requires.0 c.requires.2 in
    let most = c.requires.3 in
    let h : c.loop-i.i < length c.self.inside.tiles.items = omega (arith, c.loop-i-test.true, c.len-i-end.ensures, c.self.inside.tiles.ok.0) in
    let le = few c.self.inside.network.value c.self.inside.tiles.items c.args.self.now c.self.view_is c.self.invariant.tiles c.loop-i.i (λ lane. length lane.waiting) c.loop-i.all.waiting c.loop-i.invariant.waiting c.index.result.now h c.index.ensures c.totals-own.result.waiting c.totals-own.ensures.waiting c.requires.0 c.requires.1 (omega arith) in
    omega arith

pub loop-i-preserved : goal.loop-i-preserved
loop-i-preserved c =
    let s = c.self.inside in
    let h : c.loop-i.i < length s.tiles.items = omega (arith, c.loop-i-test.true, c.len-i-end.ensures, s.tiles.ok.0) in
    record {
      cells = more c.self.inside.network.value c.self.inside.tiles.items c.args.self.now c.self.view_is c.self.invariant.tiles c.loop-i.i (λ lane. count_by is_some lane.track.cells) c.loop-i.all.cells c.loop-i.invariant.cells c.index.result.now h c.index.ensures c.totals-own.result.cells c.totals-own.ensures.cells;
      buffers = more c.self.inside.network.value c.self.inside.tiles.items c.args.self.now c.self.view_is c.self.invariant.tiles c.loop-i.i (λ lane. length lane.queue) c.loop-i.all.buffers c.loop-i.invariant.buffers c.index.result.now h c.index.ensures c.totals-own.result.buffers c.totals-own.ensures.buffers;
      waiting = more c.self.inside.network.value c.self.inside.tiles.items c.args.self.now c.self.view_is c.self.invariant.tiles c.loop-i.i (λ lane. length lane.waiting) c.loop-i.all.waiting c.loop-i.invariant.waiting c.index.result.now h c.index.ensures c.totals-own.result.waiting c.totals-own.ensures.waiting;
    }

pub returns-clause-cells : goal.returns-clause-cells
returns-clause-cells c = λ m stood. let s = c.self.inside in all c.self.inside.network.value c.self.inside.tiles.items c.args.self.now c.self.view_is c.self.invariant.tiles c.loop-i.i (λ lane. count_by is_some lane.track.cells) c.loop-i.all.cells c.loop-i.invariant.cells (omega (arith, c.loop-i-test.false, c.len-i-end.ensures, s.tiles.ok.0)) m stood

pub returns-clause-buffers : goal.returns-clause-buffers
returns-clause-buffers c = λ m stood. let s = c.self.inside in all c.self.inside.network.value c.self.inside.tiles.items c.args.self.now c.self.view_is c.self.invariant.tiles c.loop-i.i (λ lane. length lane.queue) c.loop-i.all.buffers c.loop-i.invariant.buffers (omega (arith, c.loop-i-test.false, c.len-i-end.ensures, s.tiles.ok.0)) m stood

pub returns-clause-waiting : goal.returns-clause-waiting
returns-clause-waiting c = λ m stood. let s = c.self.inside in all c.self.inside.network.value c.self.inside.tiles.items c.args.self.now c.self.view_is c.self.invariant.tiles c.loop-i.i (λ lane. length lane.waiting) c.loop-i.all.waiting c.loop-i.invariant.waiting (omega (arith, c.loop-i-test.false, c.len-i-end.ensures, s.tiles.ok.0)) m stood
