use Rattle.std.proofs.Common.{subst, sym, arith}
use Rattle.std.proofs.lemmas.Result.{IfOk-weaker}
use Rattle.street_lanes.specs.Prelude.{Detectors, MetersStandFor}
use Rattle.street_tile.specs.Prelude.{detectors_on}
use Rattle.street_tile.proofs.PlacesMeter.{seen-there, seen-meters}
use Rattle.street_tile.proofs.tile.Tile.read_meter.Goals as goal

pub index-requires : goal.index-requires
index-requires c = let h = seen-there c.args.net.now c.self.view_is c.requires.tile c.number-n.result c.args.at c.number-n.ensures in let ok = c.self.inside.detectors.ok in omega arith

pub returns : goal.returns
returns c =
    let p = c.args.at in
    let g = c.index.result.now in
    IfOk-weaker c.rows.result _ _ (λ reply reads m stand. reads (detectors_on p m.detectors)
    (subst (λ (h : Detectors). MetersStandFor h.meters (detectors_on p m.detectors)) (sym c.index.ensures) (seen-meters c.args.net.now c.self.view_is c.requires.tile c.number-n.result p c.number-n.ensures g m stand))) c.rows.ensures
