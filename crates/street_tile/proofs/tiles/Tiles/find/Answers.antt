use Rattle.std.proofs.Common.{◌<◌, length, sym, subst, arith}
use Rattle.street_tile.specs.Prelude.{Finds, TilesView, TileHasNot}
use Rattle.street_tile.proofs.Seen.{one-at, found-seen, not-next, nowhere-seen}
use Rattle.street_tile.proofs.Together.{tile-in, stands-here, stands-seen}
use Rattle.street_tile.proofs.tiles.Tiles.find.Goals as goal

pub returns-in-Some-3 : goal.returns-in-Some-3
returns-in-Some-3 c = λ m sound stood.
    let s = c.self.inside in
    let h : c.loop-i.i < length c.self.inside.tiles.items = omega (arith, c.loop-i-test.true, c.len-i-end.ensures, c.self.inside.tiles.ok.0) in
    let t = tile-in c.self.view_is h c.deref.ensures c.index.ensures in
    let here = stands-here t m stood in
    let most = one-at s.network.value s.tiles.items c.self.invariant.tiles c.args.number t m sound stood in
    sym (found-seen s.network.value s.tiles.items c.self.invariant.tiles c.args.number t m sound stood c.in-Some-3.found
    (subst (Finds c.deref.result.now c.index.result.now.own.places m c.args.number) c.in-Some-3.is (c.in_ok-found-2.ensures m here.0 here.1 most)))

pub returns-2 : goal.returns-2
returns-2 c = λ m sound stood.
    let s = c.self.inside in
    let stands = stands-seen s.network.value s.tiles.items c.args.self.now m c.self.view_is stood in
    sym (nowhere-seen s.network.value s.tiles.items c.self.invariant.tiles c.args.number m stands.lanes (λ k d h.
    subst (λ (v : TilesView). TileHasNot v k c.args.number) (sym c.self.view_is) (c.loop-i.invariant k (omega (arith, h, c.loop-i-test.false, c.len-i-end.ensures, s.tiles.ok.0))) m sound.whole stands d))

pub loop-i-preserved : goal.loop-i-preserved
loop-i-preserved c =
    let h : c.loop-i.i < length c.self.inside.tiles.items = omega (arith, c.loop-i-test.true, c.len-i-end.ensures, c.self.inside.tiles.ok.0) in
    let t = tile-in c.self.view_is h c.deref.ensures c.index.ensures in
    not-next c.self.inside.network.value c.self.inside.tiles.items c.self.invariant.tiles c.args.number t c.loop-i.invariant
    (λ m on stands most. subst (Finds c.deref.result.now c.index.result.now.own.places m c.args.number) c.in_default-2.is (c.in_ok-found-2.ensures m on stands most))
