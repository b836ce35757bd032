use Rattle.std.proofs.Common.{◌≡◌, ◌<◌, length, vec_len, refl, arith}
use Rattle.street_base.specs.Prelude.{Traffic}
use Rattle.street_tile.proofs.LaneOwners.{share-holds}
use Rattle.street_tile.proofs.TileCommands.{plan-does}
use Rattle.street_tile.proofs.Together.{tile-in, kept-does}
use Rattle.street_tile.proofs.tiles.Tiles.set_signal.Goals as goal

pub invariant_of-self : goal.invariant_of-self
invariant_of-self c =
    let s = c.self.inside in
    let h : c.owner_of_node-i.result < length s.tiles.items = omega (arith, c.owner_of_node-i.ensures.inside, c.len.ensures, s.tiles.ok.0) in
    let t = tile-in c.self.view_is h refl c.index_mut.ensures.value in
    kept-does t c.self.invariant _ (c.set_signal.ensures s.network.value c.args.plan (record { cycle_is = refl; green_is = λ place next step. refl }))

pub returns : goal.returns
returns c = λ other shows.
    let s = c.self.inside in
    let net = s.network.value in
    let count : vec_len s.tiles ≡ length s.tiles.items = omega (arith, s.tiles.ok.0) in
    let own = rw (c.deref.ensures, c.len.ensures) at c.owner_of_node-i.ensures in
    let h : c.owner_of_node-i.result < length s.tiles.items = omega (arith, own.inside, count) in
    let t = tile-in c.self.view_is h refl c.index_mut.ensures.value in
    let P : Traffic → Type 0 = λ m. c.args.node < length m.signals in
    let holds = share-holds net s.tiles.items c.self.invariant.tiles (vec_len s.tiles) c.owner_of_node-i.result c.args.node count own.inside own.low own.high in
    plan-does net c.args.node other t c.self.invariant.tiles (λ e. (holds e).0) (λ e. (holds e).1) P _ (c.set_signal.ensures net other shows)
