use Rattle.std.proofs.Common.{refl}
use Rattle.std.proofs.lemmas.Result.{IfOk-weaker}
use Rattle.street_tile.proofs.Together.{tile-at, owns-here, stands-here}
use Rattle.street_tile.proofs.tiles.Tiles.read_meter.Goals as goal

pub read_meter-requires-clause-own : goal.read_meter-requires-clause-own
read_meter-requires-clause-own c =
    let t = tile-at c.self.view_is c.owner_of_link-i.ensures.inside c.deref.ensures c.index.ensures in
    owns-here t c.args.at.link c.args.at c.owner_of_link-i.ensures.own refl

pub returns : goal.returns
returns c =
    let t = tile-at c.self.view_is c.owner_of_link-i.ensures.inside c.deref.ensures c.index.ensures in
    IfOk-weaker c.read_meter.result _ _ (λ found is m stands. is m (stands-here t m stands).2) c.read_meter.ensures
