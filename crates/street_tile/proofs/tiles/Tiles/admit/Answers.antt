use Rattle.std.proofs.Common.{◌≡◌, refl}
use Rattle.street_base.specs.Prelude.{Traffic, lane_at, in_lane, with_waiting}
use Rattle.street_lanes.specs.Prelude.{waiting_of}
use Rattle.street_tile.proofs.TileCommands.{place-does}
use Rattle.street_tile.proofs.Together.{tile-at, owns-here, kept-does, kept-room, room-goes, always-err}
use Rattle.street_tile.proofs.tiles.Tiles.admit.Goals as goal

pub admit-requires-clause-own : goal.admit-requires-clause-own
admit-requires-clause-own c =
    let t = tile-at c.self.view_is c.owner_of_link-i.ensures.inside c.deref.ensures c.index_mut.ensures.value in
    owns-here t c.args.at.link c.args.at c.owner_of_link-i.ensures.own refl

pub invariant_of-self-in_err-admit : goal.invariant_of-self-in_err-admit
invariant_of-self-in_err-admit c =
    let t = tile-at c.self.view_is c.owner_of_link-i.ensures.inside c.deref.ensures c.index_mut.ensures.value in
    kept-room t c.self.invariant _ c.in_err-admit.ensures.starved

pub returns-in_err-admit-clause-starved : goal.returns-in_err-admit-clause-starved
returns-in_err-admit-clause-starved c =
    let t = tile-at c.self.view_is c.owner_of_link-i.ensures.inside c.deref.ensures c.index_mut.ensures.value in
    always-err _ c.from_residual-in_err-admit.result (room-goes t _ c.in_err-admit.ensures.starved)

pub invariant_of-self-2 : goal.invariant_of-self-2
invariant_of-self-2 c =
    let t = tile-at c.self.view_is c.owner_of_link-i.ensures.inside c.deref.ensures c.index_mut.ensures.value in
    kept-does t c.self.invariant _ c.in_ok-admit.ensures.waits

pub returns-clause-waits : goal.returns-clause-waits
returns-clause-waits c =
    let t = tile-at c.self.view_is c.owner_of_link-i.ensures.inside c.deref.ensures c.index_mut.ensures.value in
    let P : Traffic → Type 0 = λ m. in_lane c.args.car.number (lane_at m c.args.at) ≡ 0 in
    place-does c.self.inside.network.value c.args.at (with_waiting (waiting_of c.args.car)) t c.self.invariant.tiles c.owner_of_link-i.ensures.own (λ s. refl) P _ c.in_ok-admit.ensures.waits
