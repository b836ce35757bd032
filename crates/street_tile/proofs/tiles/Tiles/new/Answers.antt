use Rattle.std.proofs.Common.{refl, sym, subst}
use Rattle.street_base.specs.declared.net.NetSpec.{NetSpec}
use Rattle.street_base.specs.Prelude.{loaded}
use Rattle.street_base.proofs.LoadLemmas.{loaded-sound}
use Rattle.street_tile.specs.Prelude.{TilesStandFor, tiles_of}
use Rattle.street_tile.proofs.tiles.Tiles.new.Goals as goal

pub returns-clause-stand : goal.returns-clause-stand
unfolding loaded
returns-clause-stand c =
    let net = c.args.network in
    let made = c.in_ok-tiles.ensures in
    subst (λ (n : NetSpec). TilesStandFor (tiles_of n c.in_ok-tiles.tiles.items) (loaded net)) (sym c.in_ok-network.ensures.ok) (record {
      lanes = record { on = record { network = refl; formed = (loaded-sound net c.spec-spec.ensures.faultless).formed }; each = made.stand };
      meters = made.meters;
    })
