use Rattle.std.proofs.Common.{◌≡◌, ℕ, ◌<◌, true, List, [], ◌∷◌, ◌++◌, length, map, set, get_or, ap, ◌∙◌, sym, subst, arith, if◌then◌else◌, ◌==◌, All}
use Rattle.std.proofs.lemmas.List.{get_or-set_same, get_or-set_other, get_or_default, length-set, length-append, same_from_push}
use Rattle.street_base.specs.declared.net.NetSpec.{NetSpec}
use Rattle.street_base.specs.declared.names.Place.{Place}
use Rattle.street_lanes.specs.Prelude.{IsLane}
use Rattle.street_tile.specs.Prelude.{Transfer, entry_in, TileView, AreTiles, is_own, Awaits}
use Rattle.street_tile.proofs.Rows.{in-row}
use Rattle.street_tile.proofs.BetweenPhases.{tiles-same}
use Rattle.street_tile.proofs.MovedHandOvers.{popped-at, popped-same, last-holds, moves-one}
use Rattle.street_tile.proofs.hand_over.move_one.Goals as goal

tiles-popped : (net : NetSpec) (xs : List TileView) (i : ℕ) (y d : TileView) → i < length xs → y ≡ record (get_or xs i d) { handed = y.handed } → AreTiles net xs → AreTiles net (set xs i y)
tiles-popped net xs i y d h is tiles = tiles-same net xs (set xs i y) (length-set xs i y) (popped-same xs i y d h is) tiles

pub owner_of_lane-j-requires-clause-tiles : goal.owner_of_lane-j-requires-clause-tiles
owner_of_lane-j-requires-clause-tiles c = tiles-popped c.args.net.now c.args.tiles.now c.args.i c.next_hand_over.new.self c.index-tiles-i.result c.requires.inside c.next_hand_over.ensures.tile c.requires.tiles

pub owner_of_lane-j-requires-clause-lane : goal.owner_of_lane-j-requires-clause-lane
owner_of_lane-j-requires-clause-lane c =
    let there = last-holds (λ e. IsLane c.args.net.now e.to) c.next_hand_over.new.self.handed c.in-Some.hand_over (subst (All (λ (e : Transfer). IsLane c.args.net.now e.to)) c.in-Some.ensures.rest (c.requires.lanes c.args.i c.index-tiles-i.result c.requires.inside)) in
    subst (IsLane c.args.net.now) (sym c.to-to.ensures) there

pub bring-requires-clause-tile : goal.bring-requires-clause-tile
bring-requires-clause-tile c =
    ((tiles-popped c.args.net.now c.args.tiles.now c.args.i c.next_hand_over.new.self c.index-tiles-i.result c.requires.inside c.next_hand_over.ensures.tile c.requires.tiles).shares
    c.owner_of_lane-j.result c.index-tiles-j.result c.owner_of_lane-j.ensures.inside).tile

pub bring-requires-clause-lane : goal.bring-requires-clause-lane
bring-requires-clause-lane c = last-holds (λ e. IsLane c.args.net.now e.to) c.next_hand_over.new.self.handed c.in-Some.hand_over (subst (All (λ (e : Transfer). IsLane c.args.net.now e.to)) c.in-Some.ensures.rest (c.requires.lanes c.args.i c.index-tiles-i.result c.requires.inside))

pub bring-requires-clause-own : goal.bring-requires-clause-own
bring-requires-clause-own c =
    let ys = set c.args.tiles.now c.args.i c.next_hand_over.new.self in
    let x : TileView = get_or ys c.owner_of_lane-j.result c.index-tiles-j.result in
    subst (λ (p : Place). is_own c.args.net.now x.low x.high p ≡ true) c.to-to.ensures (c.owner_of_lane-j.ensures.own c.index-tiles-j.result)

pub returns-in-Some-clause-moved : goal.returns-in-Some-clause-moved
returns-in-Some-clause-moved c = λ left e es d is awaits.
    let xs = c.args.tiles.now in
    let i = c.args.i in
    let y : TileView = c.next_hand_over.new.self in
    let ys : List TileView = set xs i y in
    let j = c.owner_of_lane-j.result in
    let long : length ys ≡ length xs = length-set xs i y in
    let inside : j < length ys = c.owner_of_lane-j.ensures.inside in
    let pops : y.handed ++ c.in-Some.hand_over ∷ [] ≡ left ++ e ∷ [] = sym c.in-Some.ensures.rest ∙ ap (λ (t : TileView). t.handed) (get_or_default xs i c.index-tiles-i.result d c.requires.inside) ∙ is in
    let parts = same_from_push y.handed left c.in-Some.hand_over e pops in
    let popped = popped-at xs i y c.index-tiles-i.result c.requires.inside c.next_hand_over.ensures.tile in
    let hj : j < length xs = omega arith in
    let at_j = popped j c.index-tiles-j.result hj in
    let awaits_j : Awaits es (get_or ys j c.index-tiles-j.result) =
    ap (λ (t : TileView). t.coming) at_j ∙ awaits j c.index-tiles-j.result hj ∙ ap (λ (t : TileView). map (entry_in es) t.own.places) (sym at_j) in
    let brought : c.bring.new.self ≡ record (get_or ys j c.index-tiles-j.result) { coming = map (entry_in (e ∷ es)) (get_or ys j c.index-tiles-j.result).own.places } =
    c.bring.ensures es awaits_j ∙ ap (λ (f : Transfer). record (get_or ys j c.index-tiles-j.result) { coming = map (entry_in (f ∷ es)) (get_or ys j c.index-tiles-j.result).own.places }) parts.1 in
    let to : c.to-to.result ≡ e.to = c.to-to.ensures ∙ ap (λ (f : Transfer). f.to) parts.1 in
    moves-one c.args.net.now xs ys (set ys j c.bring.new.self) i j left e es (in-row c.args.net.now xs c.requires.tiles) long (length-set ys j c.bring.new.self ∙ long) c.requires.inside hj
    (λ k d' h. popped k d' h ∙ ap (λ (hs : List Transfer). record (get_or xs k d') { handed = if k == i then hs else (get_or xs k d').handed }) parts.0)
    (λ d'. subst (λ (p : Place). is_own c.args.net.now (get_or xs j d').low (get_or xs j d').high p ≡ true) to (subst (λ (t : TileView). is_own c.args.net.now t.low t.high c.to-to.result ≡ true) (popped j d' hj) (c.owner_of_lane-j.ensures.own d')))
    (λ d'. get_or-set_same ys j c.bring.new.self d' inside ∙ brought ∙ ap (λ (t : TileView). record t { coming = map (entry_in (e ∷ es)) t.own.places }) (get_or_default ys j c.index-tiles-j.result d' inside))
    (λ k d' ne. get_or-set_other ys j k c.bring.new.self d' ne)
    awaits

pub returns-in_default-clause-moved : goal.returns-in_default-clause-moved
returns-in_default-clause-moved c = λ left e es d is awaits.
    let empty : (get_or c.args.tiles.now c.args.i c.index-tiles-i.result).handed ≡ [] = c.next_hand_over.ensures.none c.in_default.is in
    let some : left ++ e ∷ [] ≡ [] = sym is ∙ ap (λ (t : TileView). t.handed) (get_or_default c.args.tiles.now c.args.i d c.index-tiles-i.result c.requires.inside) ∙ empty in
    absurd (omega (arith, ap length some, length-append left (e ∷ [])))
