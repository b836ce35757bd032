use Rattle.std.proofs.Common.{refl}
use Rattle.std.proofs.lemmas.Result.{on_ok_weaker, on_err_weaker, IfOk-weaker}
use Rattle.street_tile.proofs.TileCommands.{kept-meter, meter-does}
use Rattle.street_tile.proofs.Together.{tile-at, owns-here, stands-here, kept-same, same-goes, either-way}
use Rattle.street_tile.proofs.tiles.Tiles.place_meter.Goals as goal

pub place_meter-requires-clause-own : goal.place_meter-requires-clause-own
place_meter-requires-clause-own c =
    let t = tile-at c.self.view_is c.owner_of_link-i.ensures.inside c.deref.ensures c.index_mut.ensures.value in
    owns-here t c.args.at.link c.args.at c.owner_of_link-i.ensures.own refl

pub invariant_of-self : goal.invariant_of-self
invariant_of-self c =
    let t = tile-at c.self.view_is c.owner_of_link-i.ensures.inside c.deref.ensures c.index_mut.ensures.value in
    either-way _ c.place_meter.result
    (on_ok_weaker c.place_meter.result (λ placed. kept-meter c.self.inside.network.value c.args.at c.args.cell c.args.period t _ placed c.self.invariant) c.place_meter.ensures.placed)
    (on_err_weaker c.place_meter.result (λ same. kept-same t c.self.invariant _ same) c.place_meter.ensures.starved)

pub returns-clause-placed : goal.returns-clause-placed
returns-clause-placed c =
    let t = tile-at c.self.view_is c.owner_of_link-i.ensures.inside c.deref.ensures c.index_mut.ensures.value in
    on_ok_weaker c.place_meter.result (λ placed. meter-does c.self.inside.network.value c.args.at c.args.cell c.args.period t _ placed c.self.invariant.tiles c.owner_of_link-i.ensures.own) c.place_meter.ensures.placed

pub returns-clause-number : goal.returns-clause-number
returns-clause-number c =
    let t = tile-at c.self.view_is c.owner_of_link-i.ensures.inside c.deref.ensures c.index_mut.ensures.value in
    IfOk-weaker c.place_meter.result _ _ (λ number is m stands. is m (stands-here t m stands).2) c.place_meter.ensures.number

pub returns-clause-starved : goal.returns-clause-starved
returns-clause-starved c =
    let t = tile-at c.self.view_is c.owner_of_link-i.ensures.inside c.deref.ensures c.index_mut.ensures.value in
    on_err_weaker c.place_meter.result (λ same. same-goes t _ same) c.place_meter.ensures.starved
