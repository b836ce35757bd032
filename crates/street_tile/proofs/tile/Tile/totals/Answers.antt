use Rattle.std.proofs.Common.{◌≡◌, sym, subst, length, is_some, count_by}
use Rattle.street_tile.specs.Prelude.{TileView, TileStandsFor, over}
use Rattle.street_tile.proofs.tile.Tile.totals.Goals as goal

pub returns-clause-cells : goal.returns-clause-cells
returns-clause-cells c m stand =
    subst (λ (t : TileView). c.totals.result.cells ≡ over t.own.places (λ lane. count_by is_some lane.track.cells) m) c.self.view_is
    (c.totals.ensures.cells m (subst (λ (t : TileView). TileStandsFor t m) (sym c.self.view_is) stand).lanes)

pub returns-clause-buffers : goal.returns-clause-buffers
returns-clause-buffers c m stand =
    subst (λ (t : TileView). c.totals.result.buffers ≡ over t.own.places (λ lane. length lane.queue) m) c.self.view_is
    (c.totals.ensures.buffers m (subst (λ (t : TileView). TileStandsFor t m) (sym c.self.view_is) stand).lanes)

pub returns-clause-waiting : goal.returns-clause-waiting
returns-clause-waiting c m stand =
    subst (λ (t : TileView). c.totals.result.waiting ≡ over t.own.places (λ lane. length lane.waiting) m) c.self.view_is
    (c.totals.ensures.waiting m (subst (λ (t : TileView). TileStandsFor t m) (sym c.self.view_is) stand).lanes)
