use Rattle.std.proofs.Common.{◌≡◌, ℕ, ◌+◌, ◌<◌, ◌≤◌, List, length, take, get_or, sum_by, refl, sym, ap, subst, ◌∙◌, arith}
use Rattle.street_base.specs.declared.net.NetSpec.{NetSpec}
use Rattle.street_base.specs.Prelude.{Traffic, places}
use Rattle.street_tile.specs.Prelude.{TileView, TilesView, HaveStepped, IsTileOf, AreKept, all_places, tiles_of}
use Rattle.street_tile.specs.Record.{arrived_at}
use Rattle.street_tile.proofs.Together.{IsTileAt, tile-in}
use Rattle.street_tile.proofs.Stepped.{left-few, left-count, sum-next, sum-all}
use Rattle.street_tile.proofs.tiles.Tiles.arrivals.Goals as goal

-- what was added up over the first tiles
module _ (net : NetSpec) (xs : List TileView) (v : TilesView) (mouths : ℕ) (seen : tiles_of net xs ≡ v) (kept : AreKept net xs mouths) (i all : ℕ) (so_far : (m : Traffic) → HaveStepped v m → all ≡ sum_by (arrived_at m) (all_places (take i v.tiles))) where
  first : (m : Traffic) → HaveStepped v m → all ≡ sum_by (arrived_at m) (all_places (take i xs))
  first m s = subst (λ (u : TilesView). all ≡ sum_by (arrived_at m) (all_places (take i u.tiles))) (sym seen) (so_far m s)

  whole : length xs ≤ i → (m : Traffic) → HaveStepped v m → all ≡ sum_by (arrived_at m) (places v.network)
  whole h m s = subst (λ (u : TilesView). all ≡ sum_by (arrived_at m) (places u.network)) seen (first m s ∙ sum-all (arrived_at m) net xs kept.tiles i h)

  module _ (x : TileView) (h : i < length xs) (is : x ≡ get_or xs i x) (own : ℕ) (one : own ≡ length x.left) where
    here : IsTileAt net net xs v i x
    here = tile-in seen h refl is

    few : (m : Traffic) → HaveStepped v m → own ≤ 8192
    few m s = (let few = left-few here m s (subst (IsTileOf net) (sym is) (kept.tiles.shares i x h).tile) in omega (arith, one, few))

    more : (m : Traffic) → HaveStepped v m → all + own ≡ sum_by (arrived_at m) (all_places (take (i + 1) v.tiles))
    more m s =
        let next = sum-next (arrived_at m) xs i x h in
        let count = left-count here m s in
        let same : sum_by (arrived_at m) x.own.places ≡ sum_by (arrived_at m) (get_or xs i x).own.places = ap (λ (u : TileView). sum_by (arrived_at m) u.own.places) is in
        subst (λ (u : TilesView). all + own ≡ sum_by (arrived_at m) (all_places (take (i + 1) u.tiles))) seen (omega (arith, next, count, same, first m s, one))

pub overflow_add-all : goal.overflow_add-all
overflow_add-all c =
    let s = c.self.inside in
    let h : c.loop-i.i < length s.tiles.items = omega (arith, c.loop-i-test.true, c.len-i-end.ensures, s.tiles.ok.0) in
    let few = few s.network.value s.tiles.items c.args.self.now _ c.self.view_is c.self.invariant c.loop-i.i c.loop-i.all c.loop-i.invariant.count c.index.result.now h c.index.ensures c.arrivals-all.result c.arrivals-all.ensures c.requires.0 c.requires.1 in
    let most = c.self.invariant.few in
    omega (arith, few, most, h, c.loop-i.invariant.few)

pub loop-i-preserved : goal.loop-i-preserved
loop-i-preserved c =
    let s = c.self.inside in
    let h : c.loop-i.i < length s.tiles.items = omega (arith, c.loop-i-test.true, c.len-i-end.ensures, s.tiles.ok.0) in
    let few = few s.network.value s.tiles.items c.args.self.now _ c.self.view_is c.self.invariant c.loop-i.i c.loop-i.all c.loop-i.invariant.count c.index.result.now h c.index.ensures c.arrivals-all.result c.arrivals-all.ensures c.requires.0 c.requires.1 in
    record {
      few = omega (arith, few, c.loop-i.invariant.few);
      count = more s.network.value s.tiles.items c.args.self.now _ c.self.view_is c.self.invariant c.loop-i.i c.loop-i.all c.loop-i.invariant.count c.index.result.now h c.index.ensures c.arrivals-all.result c.arrivals-all.ensures;
    }

pub returns-clause-few : goal.returns-clause-few
returns-clause-few c =
    let most = c.self.invariant.few in
    omega (arith, most, c.loop-i.invariant.few, c.loop-i-test.false, c.len-i-end.ensures, c.self.inside.tiles.ok.0)

pub returns-clause-count : goal.returns-clause-count
returns-clause-count c = λ m stepped.
    let s = c.self.inside in
    whole s.network.value s.tiles.items c.args.self.now _ c.self.view_is c.self.invariant c.loop-i.i c.loop-i.all c.loop-i.invariant.count (omega (arith, c.loop-i-test.false, c.len-i-end.ensures, s.tiles.ok.0)) m stepped
