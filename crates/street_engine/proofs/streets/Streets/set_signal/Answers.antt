use Rattle.std.proofs.Common.{◌≡◌, ◌<◌, length, refl, sym, subst, Some}
use Rattle.street_base.specs.declared.net.NetSpec.{NetSpec}
use Rattle.street_base.specs.Prelude.{node_of, Traffic, signalled}
use Rattle.street_tile.specs.Prelude.{planned}
use Rattle.street_engine.specs.Prelude.{StreetsView, IsTrafficOf, streets_of}
use Rattle.street_engine.proofs.StreetsStandFor.{planned-stands, signalled-planned, kept-goes, goes-with}
use Rattle.street_engine.proofs.streets.Streets.set_signal.Goals as goal

pub invariant_of-self : goal.invariant_of-self
invariant_of-self c =
    let within : c.args.node < length c.self.inside.tiles.network.nodes = subst (λ (v : StreetsView). c.args.node < length v.tiles.network.nodes) (sym c.self.view_is) c.requires in
    let does = c.set_signal.ensures c.args.plan (record { cycle_is = refl; green_is = λ place next step. refl }) in
    kept-goes (planned c.args.node c.args.plan) c.self.invariant does (planned-stands c.args.node c.args.plan does within)

pub returns : goal.returns
returns c = λ id other is shows.
    let s = c.self.inside in
    let node = c.args.node in
    let within : node < length s.tiles.network.nodes = subst (λ (v : StreetsView). node < length v.tiles.network.nodes) (sym c.self.view_is) c.requires in
    let named : node_of s.tiles.network id ≡ Some node = subst (λ (v : StreetsView). node_of v.tiles.network id ≡ Some node) (sym c.self.view_is) is in
    goes-with (λ m. signalled m id other) c.self.view_is (λ m t.
    subst (λ (k : Traffic). IsTrafficOf (streets_of c.set_signal.new.self s.sites.items s.clock s.ends.ends) k) (sym (signalled-planned m node id other (subst (λ (n : NetSpec). node_of n id ≡ Some node) (sym t.tiles.lanes.on.network) named)))
    (planned-stands node other (c.set_signal.ensures other shows) within m t))
