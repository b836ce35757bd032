use Rattle.std.proofs.Common.{◌≡◌, arith, ap, length, ◌∙◌, sym, subst, List, Bool}
use Rattle.std.specs.Vec.{with_items}
use Rattle.std.proofs.lemmas.List.{with_items_is}
use Rattle.street_base.specs.Prelude.{Traffic}
use Rattle.street_tile.specs.Prelude.{AllStand, Shows, TileView, Each, received, all_handed, Then, EnterPhase, MeterPhase}
use Rattle.street_tile.proofs.BetweenPhases.{tiles-each}
use Rattle.street_tile.proofs.Lent.{tiles-drive, shown-drive, handed-drive, tiles-released, nobody-released, lanes-released, tiles-moved, prepared-moved, in-time-moved, lent-step}
use Rattle.street_tile.proofs.step.step_by.Goals as goal

pub publish-requires-clause-tiles : goal.publish-requires-clause-tiles
publish-requires-clause-tiles g c = rw c.as_slice.ensures.value (tiles-drive c.args.net.now c.args.tiles.now.items c.lend.new.tiles.items c.lend.ensures.len c.lend.ensures.does c.requires.ready.tiles)

pub publish-requires-clause-shown : goal.publish-requires-clause-shown
publish-requires-clause-shown g c = rw c.as_slice.ensures.value (shown-drive c.args.net.now c.args.tiles.now.items c.lend.new.tiles.items c.lend.ensures.len c.lend.ensures.does)

pub lend-requires-clause-may : goal.lend-requires-clause-may
lend-requires-clause-may g c i d l =
    let stand = c.requires.ready.stand in
    let clock = (stand.1.each i d l).clock in
    let before = stand.2 in
    (tiles-each c.args.net.now c.args.tiles.now.items c.requires.ready.tiles i d l, (c.requires.ready.idle i d l).arrived, omega arith)

pub lend-requires-2-clause-may : goal.lend-requires-2-clause-may
lend-requires-2-clause-may g c i d l =
    (tiles-each c.args.net.now c.lend.new.tiles.items (tiles-drive c.args.net.now c.args.tiles.now.items c.lend.new.tiles.items c.lend.ensures.len c.lend.ensures.does c.requires.ready.tiles) i d l, handed-drive c.args.net.now c.args.tiles.now.items c.lend.new.tiles.items c.lend.ensures.len c.lend.ensures.does c.requires.ready.idle i d l, ap length (c.deref.ensures.value ∙ c.view.view_is) ∙ c.publish.ensures.wide ∙ c.requires.view)

pub move_all-requires-clause-tiles : goal.move_all-requires-clause-tiles
move_all-requires-clause-tiles g c =
    let shows = subst (λ (xs : List TileView). (m : Traffic) → AllStand c.args.net.now xs m → Shows c.args.net.now c.publish.new.view m) c.as_slice.ensures.value c.publish.ensures.shows in
    let seen = subst (λ (v : List Bool). (m : Traffic) → AllStand c.args.net.now c.lend.new.tiles.items m → Shows c.args.net.now v m) (sym (c.deref.ensures.value ∙ c.view.view_is)) shows in
    rw c.as_mut_slice.ensures.value (tiles-released c.args.net.now c.args.tiles.now.items c.lend.new.tiles.items c.lend.ensures.len c.lend.ensures.does c.requires.ready c.deref.result.now c.lend-2.new.tiles.items c.lend-2.ensures.len seen c.lend-2.ensures.does)

pub move_all-requires-clause-nobody : goal.move_all-requires-clause-nobody
move_all-requires-clause-nobody g c =
    let shows = subst (λ (xs : List TileView). (m : Traffic) → AllStand c.args.net.now xs m → Shows c.args.net.now c.publish.new.view m) c.as_slice.ensures.value c.publish.ensures.shows in
    let seen = subst (λ (v : List Bool). (m : Traffic) → AllStand c.args.net.now c.lend.new.tiles.items m → Shows c.args.net.now v m) (sym (c.deref.ensures.value ∙ c.view.view_is)) shows in
    rw c.as_mut_slice.ensures.value (nobody-released c.args.net.now c.args.tiles.now.items c.lend.new.tiles.items c.lend.ensures.len c.lend.ensures.does c.requires.ready c.deref.result.now c.lend-2.new.tiles.items c.lend-2.ensures.len seen c.lend-2.ensures.does)

pub move_all-requires-clause-lanes : goal.move_all-requires-clause-lanes
move_all-requires-clause-lanes g c =
    let shows = subst (λ (xs : List TileView). (m : Traffic) → AllStand c.args.net.now xs m → Shows c.args.net.now c.publish.new.view m) c.as_slice.ensures.value c.publish.ensures.shows in
    let seen = subst (λ (v : List Bool). (m : Traffic) → AllStand c.args.net.now c.lend.new.tiles.items m → Shows c.args.net.now v m) (sym (c.deref.ensures.value ∙ c.view.view_is)) shows in
    rw c.as_mut_slice.ensures.value (lanes-released c.args.net.now c.args.tiles.now.items c.lend.new.tiles.items c.lend.ensures.len c.lend.ensures.does c.requires.ready c.deref.result.now c.lend-2.new.tiles.items c.lend-2.ensures.len seen c.lend-2.ensures.does)

pub lend-requires-3-clause-may : goal.lend-requires-3-clause-may
lend-requires-3-clause-may g c =
    let shows = subst (λ (xs : List TileView). (m : Traffic) → AllStand c.args.net.now xs m → Shows c.args.net.now c.publish.new.view m) c.as_slice.ensures.value c.publish.ensures.shows in
    let seen = subst (λ (v : List Bool). (m : Traffic) → AllStand c.args.net.now c.lend.new.tiles.items m → Shows c.args.net.now v m) (sym (c.deref.ensures.value ∙ c.view.view_is)) shows in
    let long : length c.move_all.new.tiles ≡ length c.lend-2.new.tiles.items = (let e = c.move_all.auto in let f = c.as_mut_slice.ensures.len in omega arith) in
    let moved = subst (λ (ys : List TileView). Each (λ x y. y ≡ received (all_handed ys) x) ys c.move_all.new.tiles) c.as_mut_slice.ensures.value c.move_all.ensures.moved in
    let items : (with_items c.lend-2.new.tiles c.move_all.new.tiles).items ≡ c.move_all.new.tiles = with_items_is c.lend-2.new.tiles c.move_all.new.tiles (let ok = c.lend-2.new.tiles.ok in omega arith) in
    rw items (λ i d l. (
      tiles-each c.args.net.now c.move_all.new.tiles (tiles-moved c.args.net.now c.args.tiles.now.items c.lend.new.tiles.items c.lend.ensures.len c.lend.ensures.does c.requires.ready c.deref.result.now c.lend-2.new.tiles.items c.lend-2.ensures.len seen c.lend-2.ensures.does c.move_all.new.tiles long moved) i d l,
      prepared-moved c.args.net.now c.args.tiles.now.items c.lend.new.tiles.items c.lend.ensures.len c.lend.ensures.does c.requires.ready c.deref.result.now c.lend-2.new.tiles.items c.lend-2.ensures.len seen c.lend-2.ensures.does c.move_all.new.tiles long moved i d l,
      in-time-moved c.args.net.now c.args.tiles.now.items c.lend.new.tiles.items c.lend.ensures.len c.lend.ensures.does c.requires.ready c.deref.result.now c.lend-2.new.tiles.items c.lend-2.ensures.len seen c.lend-2.ensures.does c.move_all.new.tiles long moved i d l,
    ))

pub returns-clause-steps : goal.returns-clause-steps
returns-clause-steps g c =
    let shows = subst (λ (xs : List TileView). (m : Traffic) → AllStand c.args.net.now xs m → Shows c.args.net.now c.publish.new.view m) c.as_slice.ensures.value c.publish.ensures.shows in
    let seen = subst (λ (v : List Bool). (m : Traffic) → AllStand c.args.net.now c.lend.new.tiles.items m → Shows c.args.net.now v m) (sym (c.deref.ensures.value ∙ c.view.view_is)) shows in
    let long : length c.move_all.new.tiles ≡ length c.lend-2.new.tiles.items = (let e = c.move_all.auto in let f = c.as_mut_slice.ensures.len in omega arith) in
    let moved = subst (λ (ys : List TileView). Each (λ x y. y ≡ received (all_handed ys) x) ys c.move_all.new.tiles) c.as_mut_slice.ensures.value c.move_all.ensures.moved in
    let items : (with_items c.lend-2.new.tiles c.move_all.new.tiles).items ≡ c.move_all.new.tiles = with_items_is c.lend-2.new.tiles c.move_all.new.tiles (let ok = c.lend-2.new.tiles.ok in omega arith) in
    lent-step c.args.net.now c.args.tiles.now.items c.lend.new.tiles.items c.lend.ensures.len c.lend.ensures.does c.requires.ready c.deref.result.now c.lend-2.new.tiles.items c.lend-2.ensures.len seen c.lend-2.ensures.does c.move_all.new.tiles long moved c.lend-3.new.tiles.items (c.lend-3.ensures.len ∙ ap (λ (ws : List TileView). length ws) items) (subst (λ (ws : List TileView). Each (Then (EnterPhase c.args.net.now) (MeterPhase c.args.net.now)) ws c.lend-3.new.tiles.items) items c.lend-3.ensures.does)
