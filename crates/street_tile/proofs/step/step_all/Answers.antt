use Rattle.std.proofs.Common.{arith, ap, length, ◌∙◌, sym, subst, List, Bool}
use Rattle.street_base.specs.Prelude.{Traffic}
use Rattle.street_tile.specs.Prelude.{AllStand, Shows}
use Rattle.street_tile.proofs.BetweenPhases.{tiles-each, tiles-lanes, tiles-motion, tiles-release, tiles-move, tiles-enter, idle-handed, prepared-motion, prepared-release, prepared-move, in-time-lanes, shown-motion, stand-motion, release-lanes, in-time, whole-step}
use Rattle.street_tile.proofs.step.step_all.Goals as goal

pub share-requires-clause-may : goal.share-requires-clause-may
share-requires-clause-may g c κs within i d l = tiles-each c.args.net.now c.args.tiles.now c.requires.ready.tiles i d l

pub share-requires-2-clause-may : goal.share-requires-2-clause-may
share-requires-2-clause-may g c κs within i d l =
    let here = c.share.ensures.does i d (omega arith) in
    (tiles-each c.args.net.now c.share.new.tiles (tiles-lanes c.args.net.now c.args.tiles.now c.share.new.tiles (omega arith) c.share.ensures.does c.requires.ready.tiles) i d l, here.arrived ∙ (c.requires.ready.idle i d (omega arith)).arrived, in-time-lanes c.args.net.now c.args.tiles.now c.share.new.tiles c.share.new.tiles (omega arith) (omega arith) c.share.ensures.does c.requires.ready.stand.0 c.requires.ready.stand.1 c.requires.ready.stand.2 i d l)

pub publish-requires-clause-tiles : goal.publish-requires-clause-tiles
publish-requires-clause-tiles g c = (tiles-motion c.args.net.now c.share.new.tiles c.share-2.new.tiles (omega arith) c.share-2.ensures.does (tiles-lanes c.args.net.now c.args.tiles.now c.share.new.tiles (omega arith) c.share.ensures.does c.requires.ready.tiles))

pub publish-requires-clause-shown : goal.publish-requires-clause-shown
publish-requires-clause-shown g c = shown-motion c.args.net.now c.share.new.tiles c.share-2.new.tiles (omega arith) c.share-2.ensures.does

pub share-requires-3-clause-may : goal.share-requires-3-clause-may
share-requires-3-clause-may g c κs within i d l = (tiles-each c.args.net.now c.share-2.new.tiles (tiles-motion c.args.net.now c.share.new.tiles c.share-2.new.tiles (omega arith) c.share-2.ensures.does (tiles-lanes c.args.net.now c.args.tiles.now c.share.new.tiles (omega arith) c.share.ensures.does c.requires.ready.tiles)) i d l, idle-handed c.args.net.now c.args.tiles.now c.share.new.tiles c.share-2.new.tiles (omega arith) (omega arith) c.share.ensures.does c.share-2.ensures.does c.requires.ready.idle i d l, ap length (c.deref.ensures.value ∙ c.view.view_is) ∙ c.publish.ensures.wide ∙ c.requires.view)

pub move_all-requires-clause-tiles : goal.move_all-requires-clause-tiles
move_all-requires-clause-tiles g c = (tiles-release c.args.net.now c.deref.result.now c.share-2.new.tiles c.share-3.new.tiles (omega arith) c.share-3.ensures.does (tiles-motion c.args.net.now c.share.new.tiles c.share-2.new.tiles (omega arith) c.share-2.ensures.does (tiles-lanes c.args.net.now c.args.tiles.now c.share.new.tiles (omega arith) c.share.ensures.does c.requires.ready.tiles)))

pub move_all-requires-clause-lanes : goal.move_all-requires-clause-lanes
move_all-requires-clause-lanes g c =
    let two = stand-motion c.args.net.now c.args.tiles.now c.share.new.tiles c.share-2.new.tiles (omega arith) (omega arith) c.share.ensures.does c.share-2.ensures.does c.requires.ready.stand.0 c.requires.ready.stand.1 in
    release-lanes c.args.net.now c.deref.result.now c.share-2.new.tiles c.share-3.new.tiles (omega arith) c.share-3.ensures.does _ two ((subst (λ (v : List Bool). (m : Traffic) → AllStand c.args.net.now c.share-2.new.tiles m → Shows c.args.net.now v m) (sym (c.deref.ensures.value ∙ c.view.view_is)) c.publish.ensures.shows) _ two)

pub share-requires-4-clause-may : goal.share-requires-4-clause-may
share-requires-4-clause-may g c κs within i d l = (tiles-each c.args.net.now c.move_all.new.tiles (tiles-move c.args.net.now c.share-3.new.tiles c.move_all.new.tiles (omega arith) c.move_all.ensures.moved (tiles-release c.args.net.now c.deref.result.now c.share-2.new.tiles c.share-3.new.tiles (omega arith) c.share-3.ensures.does (tiles-motion c.args.net.now c.share.new.tiles c.share-2.new.tiles (omega arith) c.share-2.ensures.does (tiles-lanes c.args.net.now c.args.tiles.now c.share.new.tiles (omega arith) c.share.ensures.does c.requires.ready.tiles)))) i d l, prepared-move c.args.net.now c.share-3.new.tiles c.move_all.new.tiles c.move_all.new.tiles (omega arith) (omega arith) c.move_all.ensures.moved (prepared-release c.args.net.now c.deref.result.now c.share-2.new.tiles c.share-3.new.tiles (omega arith) c.share-3.ensures.does (prepared-motion c.args.net.now c.args.tiles.now c.share.new.tiles c.share-2.new.tiles (omega arith) (omega arith) c.share.ensures.does c.share-2.ensures.does c.requires.ready.prepared)) i d l)

pub share-requires-5-clause-may : goal.share-requires-5-clause-may
share-requires-5-clause-may g c κs within i d l = (tiles-each c.args.net.now c.share-4.new.tiles (tiles-enter c.args.net.now c.move_all.new.tiles c.share-4.new.tiles (omega arith) c.share-4.ensures.does (tiles-move c.args.net.now c.share-3.new.tiles c.move_all.new.tiles (omega arith) c.move_all.ensures.moved (tiles-release c.args.net.now c.deref.result.now c.share-2.new.tiles c.share-3.new.tiles (omega arith) c.share-3.ensures.does (tiles-motion c.args.net.now c.share.new.tiles c.share-2.new.tiles (omega arith) c.share-2.ensures.does (tiles-lanes c.args.net.now c.args.tiles.now c.share.new.tiles (omega arith) c.share.ensures.does c.requires.ready.tiles))))) i d l, in-time c.args.net.now c.deref.result.now c.args.tiles.now c.share.new.tiles c.share-2.new.tiles c.share-3.new.tiles c.move_all.new.tiles c.share-4.new.tiles (omega arith) (omega arith) (omega arith) (omega arith) (omega arith) c.requires.ready.tiles c.share.ensures.does c.share-2.ensures.does (subst (λ (v : List Bool). (m : Traffic) → AllStand c.args.net.now c.share-2.new.tiles m → Shows c.args.net.now v m) (sym (c.deref.ensures.value ∙ c.view.view_is)) c.publish.ensures.shows) c.share-3.ensures.does c.move_all.ensures.moved c.share-4.ensures.does c.requires.ready.stand.0 c.requires.ready.stand.1 c.requires.ready.stand.2 i d l)

pub returns-clause-steps : goal.returns-clause-steps
returns-clause-steps g c = whole-step c.args.net.now c.deref.result.now c.args.tiles.now c.share.new.tiles c.share-2.new.tiles c.share-3.new.tiles c.move_all.new.tiles c.share-4.new.tiles (omega arith) (omega arith) (omega arith) (omega arith) (omega arith) c.requires.ready.tiles c.share.ensures.does c.share-2.ensures.does (subst (λ (v : List Bool). (m : Traffic) → AllStand c.args.net.now c.share-2.new.tiles m → Shows c.args.net.now v m) (sym (c.deref.ensures.value ∙ c.view.view_is)) c.publish.ensures.shows) c.share-3.ensures.does c.move_all.ensures.moved c.share-4.ensures.does c.share-5.new.tiles (omega arith) c.share-5.ensures.does
