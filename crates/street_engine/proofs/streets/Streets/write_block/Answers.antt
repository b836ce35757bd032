use Rattle.std.proofs.Common.{sym, subst}
use Rattle.street_tile.specs.Prelude.{TilesView, HaveStepped}
use Rattle.street_engine.proofs.Recorded.{adds-block}
use Rattle.street_engine.proofs.streets.Streets.write_block.Goals as goal

pub returns : goal.returns
returns g c m s = adds-block g.W.Write.contents m _ _ _ _ (c.record_head.ensures m s) c.head.ensures (c.write_rows.ensures m (subst (λ (x : TilesView). HaveStepped x m) (sym c.tiles.ensures) s.tiles))
