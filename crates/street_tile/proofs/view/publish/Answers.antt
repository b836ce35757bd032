use Rattle.std.proofs.Common.{◌≡◌, get_or, subst, sym, ap, arith, false, ◌∙◌, Some, slice_get}
use Rattle.std.specs.List.{list_any}
use Rattle.street_base.specs.Prelude.{is_place}
use Rattle.street_net.specs.Prelude.{mouth}
use Rattle.street_tile.specs.Prelude.{TileView}
use Rattle.street_tile.proofs.Rows.{in-row, roads-of}
use Rattle.street_tile.proofs.PublishedView.{published-start, published-next, published-all}
use Rattle.street_tile.proofs.view.publish.Goals as goal

pub loop-i-init : goal.loop-i-init
loop-i-init c = published-start c.args.net.now c.args.tiles.now c.args.view.now c.requires.view

pub loop-i-preserved : goal.loop-i-preserved
loop-i-preserved c =
    let x : TileView = get_or c.args.tiles.now c.loop-i.i c.index-tiles-i.result in
    let is = c.index-tiles-i.is in
    published-next c.args.net.now c.args.tiles.now c.loop-i.i c.loop-i.view c.mouths.new.view c.index-tiles-i.result (omega arith) c.loop-i.invariant (omega arith)
    (λ m s j p at. c.mouths.ensures.own j p (subst (λ (t : TileView). slice_get t.own.places j ≡ Some p) (sym is) at)
    ∙ ap (λ (t : TileView). mouth t.mouths p) is
    ∙ c.requires.shown c.loop-i.i c.index-tiles-i.result (omega arith) m s j p at)
    (λ p there away. c.mouths.ensures.rest p there (subst (λ (t : TileView). list_any (is_place p) t.own.places ≡ false) (sym is) away))

pub returns-clause-shows : goal.returns-clause-shows
returns-clause-shows c = published-all c.args.net.now c.args.tiles.now (roads-of c.args.net.now c.args.tiles.now c.requires.tiles) (in-row c.args.net.now c.args.tiles.now c.requires.tiles) c.loop-i.i c.loop-i.view (omega arith) c.loop-i.invariant
