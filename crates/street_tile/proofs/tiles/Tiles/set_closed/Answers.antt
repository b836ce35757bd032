use Rattle.std.proofs.Common.{refl}
use Rattle.std.proofs.lemmas.Result.{on_ok_weaker, on_err_weaker, IfOk-weaker}
use Rattle.street_base.specs.Prelude.{with_marks}
use Rattle.street_tile.proofs.TileCommands.{place-does}
use Rattle.street_tile.proofs.Together.{tile-at, owns-here, stands-here, kept-does, kept-room, room-goes, either-way}
use Rattle.street_tile.proofs.tiles.Tiles.set_closed.Goals as goal

pub set_closed-requires-clause-own : goal.set_closed-requires-clause-own
set_closed-requires-clause-own c =
    let t = tile-at c.self.view_is c.owner_of_link-i.ensures.inside c.deref.ensures c.index_mut.ensures.value in
    owns-here t c.args.at.link c.args.at c.owner_of_link-i.ensures.own refl

pub invariant_of-self : goal.invariant_of-self
invariant_of-self c =
    let t = tile-at c.self.view_is c.owner_of_link-i.ensures.inside c.deref.ensures c.index_mut.ensures.value in
    either-way _ c.set_closed.result
    (on_ok_weaker c.set_closed.result (λ does. kept-does t c.self.invariant _ does) c.set_closed.ensures.marks)
    (on_err_weaker c.set_closed.result (λ same. kept-room t c.self.invariant _ same) c.set_closed.ensures.starved)

pub returns-clause-marks : goal.returns-clause-marks
returns-clause-marks c =
    let t = tile-at c.self.view_is c.owner_of_link-i.ensures.inside c.deref.ensures c.index_mut.ensures.value in
    on_ok_weaker c.set_closed.result (λ does. place-does c.self.inside.network.value c.args.at (with_marks c.args.closed c.args.first c.args.last) t c.self.invariant.tiles c.owner_of_link-i.ensures.own (λ s. refl) (λ m. Unit {0}) _ does) c.set_closed.ensures.marks

pub returns-clause-count : goal.returns-clause-count
returns-clause-count c =
    let t = tile-at c.self.view_is c.owner_of_link-i.ensures.inside c.deref.ensures c.index_mut.ensures.value in
    IfOk-weaker c.set_closed.result _ _ (λ count is m stands. let here = stands-here t m stands in is m here.0 here.1) c.set_closed.ensures.count

pub returns-clause-starved : goal.returns-clause-starved
returns-clause-starved c =
    let t = tile-at c.self.view_is c.owner_of_link-i.ensures.inside c.deref.ensures c.index_mut.ensures.value in
    on_err_weaker c.set_closed.result (λ same. room-goes t _ same) c.set_closed.ensures.starved
