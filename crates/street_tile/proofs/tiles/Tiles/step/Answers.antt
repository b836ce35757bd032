use Rattle.std.proofs.Common.{sym, subst}
use Rattle.street_base.specs.declared.net.NetSpec.{NetSpec}
use Rattle.street_tile.specs.Prelude.{Steps, TilesView, TilesStandFor}
use Rattle.street_tile.proofs.Stepped.{have-stepped}
use Rattle.street_tile.proofs.tiles.Tiles.step.Goals as goal

pub returns-clause-stepped : goal.returns-clause-stepped
returns-clause-stepped g c m s =
    let steps = subst (λ (net : NetSpec). Steps net c.self.inside.tiles.items c.step_by.new.tiles.items) c.deref.ensures c.step_by.ensures.steps in
    have-stepped c.self.inside.network.value c.self.inside.tiles.items c.step_by.new.tiles.items steps m (subst (λ (v : TilesView). TilesStandFor v m) (sym c.self.view_is) s)
