-- What holds of all tiles between the phases of a step.
use Rattle.std.proofs.Common.{◌≡◌, ℕ, zero, suc, ◌<◌, ◌≤◌, Bool, true, List, [], ◌∷◌, length, map, get_or, refl, sym, ◌∙◌, ap, subst, arith, Option, Some, None, All, filter_map}
use Rattle.std.specs.List.{list_any, cons_option}
use Rattle.street_base.specs.declared.net.NetSpec.{NetSpec}
use Rattle.street_base.specs.Prelude.{last_clock, is_place, places, Traffic, changed, driven, step, arrival, leaver_of, released, departed}
use Rattle.street_base.specs.declared.names.Place.{Place}
use Rattle.street_base.proofs.OptionLemmas.{option_map-some}
use Rattle.street_lanes.specs.Prelude.{IsLane, IsOn, Detectors}
use Rattle.street_node.specs.Prelude.{Crossing, crossing as crosses}
use Rattle.street_node.proofs.Crossings.{crossing-leads}
use Rattle.street_tile.specs.Prelude.{Transfer, crossing, TileView, IsTileOf, IsShare, AreTiles, SameTile, Each, AllStand, IsIdle, IsPrepared, nobody, Shows, ShowsOwn, detectors_at, HaveWatched, MetersStand, AllMetersStand, noted_by, LanePhase, MotionPhase, ReleasePhase, EnterPhase, ticked, MeterPhase, all_handed, received, Steps}
use Rattle.street_record.specs.Rows.{arrival_at}
use Rattle.street_tile.proofs.Rows.{in-row, roads-of}
use Rattle.street_tile.proofs.OwnLanes.{lane-of}
use Rattle.street_tile.proofs.SameTile.{same-moved, tile-of-same}
use Rattle.street_tile.proofs.MetersStand.{meters-through}
use Rattle.street_tile.proofs.PhasesOfAll.{goes-all, on-changed, on-driven, on-ticked, enters-all, ends-step}

-- each hand-over leads to a lane of the network
crossing-lane : (net : NetSpec) (m : Traffic) → IsOn net m → (p : Place) (e : Transfer) → crossing m p ≡ Some e → IsLane net e.to
crossing-lane net m on p e is =
    let crossed = option_map-some (λ (c : Crossing). record { to = c.to; vehicle = c.vehicle }) (crosses m p) e is in
    let led = crossing-leads m p crossed.0 crossed.1 in
    let there = lane-of net crossed.0.to (subst (λ (n : NetSpec). list_any (is_place crossed.0.to) (places n) ≡ true) on.network (on.formed.turns p crossed.0.to led.0.vehicle led.1.exit)) in
    subst (λ (t : Transfer). IsLane net t.to) crossed.2 there

pub crossings-lanes : (net : NetSpec) (m : Traffic) → IsOn net m → (ps : List Place) → All (λ (e : Transfer). IsLane net e.to) (filter_map (crossing m) ps)
crossings-lanes net m on [] k d h = absurd (omega arith)
crossings-lanes net m on (p ∷ ps) k d h = by_entry (crossing m p) refl k h (crossings-lanes net m on ps)
  where
    by_entry : (o : Option Transfer) → crossing m p ≡ o → (k : ℕ) → k < length (cons_option o (filter_map (crossing m) ps)) → All (λ (e : Transfer). IsLane net e.to) (filter_map (crossing m) ps) → IsLane net (get_or (cons_option o (filter_map (crossing m) ps)) k d).to
    by_entry None is k h rest = rest k d h
    by_entry (Some e) is zero h rest = crossing-lane net m on p e is
    by_entry (Some e) is (suc k) h rest = rest k d (omega arith)

-- ---- tiles stay the tiles that they were

pub tiles-same : (net : NetSpec) (xs ys : List TileView) → length ys ≡ length xs → Each SameTile xs ys → AreTiles net xs → AreTiles net ys
tiles-same net xs ys e same tiles = let some = tiles.some in let few = tiles.few in record {
  some = omega arith;
  few = omega arith;
  shares = λ i d h.
      let within : i < length xs = omega arith in
      let share = tiles.shares i d within in
      let s = same i d within in
      let at : IsShare net (length xs) i (get_or ys i d) = record { tile = tile-of-same net (get_or xs i d) (get_or ys i d) s share.tile; low = s.low ∙ share.low; high = s.high ∙ share.high } in
      subst (λ (k : ℕ). IsShare net k i (get_or ys i d)) (sym e) at;
}

pub tiles-each : (net : NetSpec) (xs : List TileView) → AreTiles net xs → All (IsTileOf net) xs
tiles-each net xs tiles i d h = (tiles.shares i d h).tile

pub tiles-lanes : (net : NetSpec) (xs ys : List TileView) → length ys ≡ length xs → Each (LanePhase net) xs ys → AreTiles net xs → AreTiles net ys
tiles-lanes net xs ys e lanes tiles = tiles-same net xs ys e (λ i d h. (lanes i d h).goes.same) tiles

pub tiles-motion : (net : NetSpec) (xs ys : List TileView) → length ys ≡ length xs → Each (MotionPhase net) xs ys → AreTiles net xs → AreTiles net ys
tiles-motion net xs ys e motion tiles = tiles-same net xs ys e (λ i d h. (motion i d h).goes.same) tiles

-- after motion each tile holds its mouths
pub shown-motion : (net : NetSpec) (xs ys : List TileView) → length ys ≡ length xs → Each (MotionPhase net) xs ys → All ShowsOwn ys
shown-motion net xs ys e motion i d h = (motion i d (omega arith)).shown

pub tiles-release : (net : NetSpec) (view : List Bool) (xs ys : List TileView) → length ys ≡ length xs → Each (ReleasePhase net view) xs ys → AreTiles net xs → AreTiles net ys
tiles-release net view xs ys e releases tiles = tiles-same net xs ys e (λ i d h. (releases i d h).same) tiles

pub tiles-move : (net : NetSpec) (xs ys : List TileView) → length ys ≡ length xs → Each (λ x y. y ≡ received (all_handed xs) x) xs ys → AreTiles net xs → AreTiles net ys
tiles-move net xs ys e moves tiles = tiles-same net xs ys e (λ i d h. same-moved (get_or xs i d) (get_or ys i d) _ _ (moves i d h)) tiles

pub tiles-enter : (net : NetSpec) (xs ys : List TileView) → length ys ≡ length xs → Each (EnterPhase net) xs ys → AreTiles net xs → AreTiles net ys
tiles-enter net xs ys e enters tiles = tiles-same net xs ys e (λ i d h. (enters i d h).same) tiles

pub tiles-meter : (net : NetSpec) (xs ys : List TileView) → length ys ≡ length xs → Each (MeterPhase net) xs ys → AreTiles net xs → AreTiles net ys
tiles-meter net xs ys e ticks tiles = tiles-same net xs ys e (λ i d h. (ticks i d h).goes.same) tiles

-- a tile that has lost no room is as prepared as it was
prepared-same : (x y : TileView) → y.own.places ≡ x.own.places → x.own.room ≤ y.own.room → IsPrepared x → IsPrepared y
prepared-same x y e room prepared = let same : length y.own.places ≡ length x.own.places = ap length e in omega arith

changed-clock : (m : Traffic) → (changed m).clock ≡ m.clock
unfolding changed
changed-clock m = refl

module _ (net : NetSpec) (xs ys zs : List TileView) (a : length ys ≡ length xs) (b : length zs ≡ length xs) (lanes : Each (LanePhase net) xs ys) where
  pub in-time-lanes : (m : Traffic) → AllStand net xs m → m.clock < last_clock → All (λ x. x.clock < last_clock) ys
  in-time-lanes m s h i d l =
      let one = goes-all net changed xs ys a (λ i d h. (lanes i d h).goes) m (on-changed net m s.on) s in
      let e = (one.each i d l).clock ∙ changed-clock m in
      omega arith

  module _ (motion : Each (MotionPhase net) ys zs) where
    pub prepared-motion : All IsPrepared xs → All IsPrepared zs
    prepared-motion prepared i d h =
        let first = (lanes i d (omega arith)).goes in
        let second = (motion i d (omega arith)).goes in
        let middle = prepared-same (get_or xs i d) (get_or ys i d) first.same.own.places first.room (prepared i d (omega arith)) in
        prepared-same (get_or ys i d) (get_or zs i d) second.same.own.places second.room middle

    pub idle-handed : All IsIdle xs → All (λ x. x.handed ≡ []) zs
    idle-handed idle i d h = (motion i d (omega arith)).goes.handed ∙ (lanes i d (omega arith)).goes.handed ∙ (idle i d (omega arith)).handed

    pub idle-coming : All IsIdle xs → (i : ℕ) (d : TileView) → i < length xs → (get_or zs i d).coming ≡ nobody (get_or zs i d)
    idle-coming idle i d h =
        (motion i d (omega arith)).goes.coming ∙ (lanes i d (omega arith)).goes.coming ∙ (idle i d (omega arith)).coming
        ∙ ap (λ (ps : List Place). map (λ p. None) ps) (sym ((motion i d (omega arith)).goes.same.own.places ∙ (lanes i d (omega arith)).goes.same.own.places))

    pub stand-motion : (m : Traffic) → AllStand net xs m → AllStand net zs (driven (changed m))
    stand-motion m s =
        let one = goes-all net changed xs ys a (λ i d h. (lanes i d h).goes) m (on-changed net m s.on) s in
        goes-all net driven ys zs (omega arith) (λ i d h. (motion i d h).goes) (changed m) (on-driven net (changed m) one.on) one

    pub arrived-motion : (m : Traffic) → AllStand net xs m → Each (λ x z. z.arrived ≡ filter_map (λ p. arrival (leaver_of (changed m) p)) x.own.places) xs zs
    arrived-motion m s i d h =
        let one = goes-all net changed xs ys a (λ i d h. (lanes i d h).goes) m (on-changed net m s.on) s in
        (motion i d (omega arith)).arrived (changed m) one.on (one.each i d (omega arith))
        ∙ ap (filter_map (λ p. arrival (leaver_of (changed m) p))) (lanes i d h).goes.same.own.places

module _ (net : NetSpec) (view : List Bool) (xs ys : List TileView) (a : length ys ≡ length xs) (releases : Each (ReleasePhase net view) xs ys) where
  pub prepared-release : All IsPrepared xs → All IsPrepared ys
  prepared-release prepared i d h = let r = releases i d (omega arith) in prepared-same (get_or xs i d) (get_or ys i d) r.same.own.places r.room (prepared i d (omega arith))

  pub release-nobody : ((i : ℕ) (d : TileView) → i < length xs → (get_or xs i d).coming ≡ nobody (get_or xs i d)) → All (λ y. y.coming ≡ nobody y) ys
  release-nobody before i d h = (releases i d (omega arith)).coming ∙ before i d (omega arith) ∙ ap (λ (ps : List Place). map (λ p. None) ps) (sym (releases i d (omega arith)).same.own.places)

  pub release-lanes : (m : Traffic) → AllStand net xs m → Shows net view m → All (λ y. All (λ (e : Transfer). IsLane net e.to) y.handed) ys
  release-lanes m s shows i d h = subst (All (λ (e : Transfer). IsLane net e.to)) (sym ((releases i d (omega arith)).handed m s.on shows (s.each i d (omega arith)))) (crossings-lanes net m s.on (get_or xs i d).own.places)

module _ (net : NetSpec) (ys zs ws : List TileView) (a : length zs ≡ length ys) (b : length ws ≡ length ys) (moves : Each (λ y z. z ≡ received (all_handed ys) y) ys zs) where
  pub prepared-move : All IsPrepared ys → All IsPrepared zs
  prepared-move prepared i d h = subst IsPrepared (sym (moves i d (omega arith))) (prepared i d (omega arith))

  module _ (us : List TileView) (c : length us ≡ length ys) (enters : Each (EnterPhase net) zs ws) (meter : Each (MeterPhase net) ws us) where
    idle-again : All (λ u. (u.handed ≡ []) × (u.coming ≡ nobody u)) us
    idle-again i d h = (
      (meter i d (omega arith)).goes.handed ∙ (enters i d (omega arith)).handed ∙ ap (λ (t : TileView). t.handed) (moves i d (omega arith)),
      (meter i d (omega arith)).goes.coming ∙ (enters i d (omega arith)).coming ∙ ap (λ (ps : List Place). map (λ p. None) ps) (sym ((meter i d (omega arith)).goes.same.own.places ∙ (enters i d (omega arith)).same.own.places)),
    )

pub clock-through : (m : Traffic) → (departed (released (driven (changed m)))).clock ≡ m.clock
unfolding departed released driven changed
clock-through m = refl

pub detectors-through : (m : Traffic) → (departed (released (driven (changed m)))).detectors ≡ m.detectors
unfolding departed released driven changed
detectors-through m = refl

-- what the detectors note in the last phase is what they note in the step
ends-meters : (x : TileView) (m : Traffic) → MetersStand x (noted_by (changed m) (departed (released (driven (changed m))))) → MetersStand x (step m)
unfolding step noted_by
ends-meters x m s = s

-- a step whole: whatever the tiles stood for, they then stand for the machine's next state
module _ (net : NetSpec) (view : List Bool) (x0 x1 x2 x3 x4 x5 : List TileView) (e1 : length x1 ≡ length x0) (e2 : length x2 ≡ length x0) (e3 : length x3 ≡ length x0) (e4 : length x4 ≡ length x0) (e5 : length x5 ≡ length x0)
    (tiles : AreTiles net x0) (lanes : Each (LanePhase net) x0 x1) (motion : Each (MotionPhase net) x1 x2) (shows : (m : Traffic) → AllStand net x2 m → Shows net view m)
    (releases : Each (ReleasePhase net view) x2 x3) (moves : Each (λ y z. z ≡ received (all_handed x3) y) x3 x4) (enters : Each (EnterPhase net) x4 x5) where
  pub stand-enter : (m : Traffic) → AllStand net x0 m → AllStand net x5 (departed (released (driven (changed m))))
  stand-enter m s =
      let two = stand-motion net x0 x1 x2 e1 e2 lanes motion m s in
      let row = in-row net x2 (tiles-motion net x1 x2 (omega arith) motion (tiles-lanes net x0 x1 e1 lanes tiles)) in
      enters-all net (roads-of net x0 tiles) view x2 x3 x4 x5 (omega arith) (omega arith) (omega arith) row releases moves enters (driven (changed m)) (shows (driven (changed m)) two) two

  pub in-time : (m : Traffic) → AllStand net x0 m → m.clock < last_clock → All (λ x. x.clock < last_clock) x5
  in-time m s h i d l = let e = (stand-enter m s).each i d l in let c = e.clock ∙ clock-through m in omega arith

  stand-step : (x6 : List TileView) → length x6 ≡ length x0 → Each (MeterPhase net) x5 x6 → (m : Traffic) → AllStand net x0 m → AllStand net x6 (step m)
  stand-step x6 e6 meter m s =
      let five = stand-enter m s in
      ends-step net x6 m (goes-all net ticked x5 x6 (omega arith) (λ i d h. (meter i d h).goes) (departed (released (driven (changed m)))) (on-ticked net (departed (released (driven (changed m)))) five.on) five)

  arrived-step : (x6 : List TileView) → length x6 ≡ length x0 → Each (MeterPhase net) x5 x6 → (m : Traffic) → AllStand net x0 m → Each (λ x y. y.arrived ≡ filter_map (λ p. arrival (leaver_of (changed m) p)) x.own.places) x0 x6
  arrived-step x6 e6 meter m s i d h =
      (meter i d (omega arith)).arrived ∙ (enters i d (omega arith)).arrived ∙ ap (λ (t : TileView). t.arrived) (moves i d (omega arith)) ∙ (releases i d (omega arith)).arrived
      ∙ arrived-motion net x0 x1 x2 e1 e2 lanes motion m s i d h

  left-step : (x6 : List TileView) → length x6 ≡ length x0 → Each (MeterPhase net) x5 x6 → (m : Traffic) → AllStand net x0 m → All (λ y. y.left ≡ filter_map (arrival_at (changed m)) y.own.places) x6
  left-step x6 e6 meter m s i d h =
      let one = goes-all net changed x0 x1 e1 (λ j e l. (lanes j e l).goes) m (on-changed net m s.on) s in
      let moved = motion i d (omega arith) in
      let gone = releases i d (omega arith) in
      let came = moves i d (omega arith) in
      let entered = enters i d (omega arith) in
      let noted = meter i d (omega arith) in
      let places : (get_or x6 i d).own.places ≡ (get_or x1 i d).own.places =
      noted.goes.same.own.places ∙ entered.same.own.places ∙ ap (λ (t : TileView). t.own.places) came ∙ gone.same.own.places ∙ moved.goes.same.own.places in
      noted.left ∙ entered.left ∙ ap (λ (t : TileView). t.left) came ∙ gone.left ∙ moved.left (changed m) one.on (one.each i d (omega arith)) ∙ ap (filter_map (arrival_at (changed m))) (sym places)

  -- the detectors note the step
  meters-step : (x6 : List TileView) → length x6 ≡ length x0 → Each (MeterPhase net) x5 x6 → (m : Traffic) → AllStand net x0 m → AllMetersStand x0 m → AllMetersStand x6 (step m)
  meters-step x6 e6 meter m s stands i d h =
      let before = changed m in
      let after = departed (released (driven before)) in
      let sideways = lanes i d (omega arith) in
      let moved = motion i d (omega arith) in
      let left = releases i d (omega arith) in
      let came = moves i d (omega arith) in
      let entered = enters i d (omega arith) in
      let one = goes-all net changed x0 x1 e1 (λ j e l. (lanes j e l).goes) m (on-changed net m s.on) s in
      let five = stand-enter m s in
      let places : (get_or x5 i d).own.places ≡ (get_or x1 i d).own.places = entered.same.own.places ∙ ap (λ (t : TileView). t.own.places) came ∙ left.same.own.places ∙ moved.goes.same.own.places in
      let detectors : (get_or x5 i d).detectors ≡ (get_or x2 i d).detectors = entered.detectors ∙ ap (λ (t : TileView). t.detectors) came ∙ left.detectors in
      let saw : HaveWatched before (get_or x5 i d).own.places (get_or x5 i d).detectors = rw (places, detectors) (moved.watched before one.on (one.each i d (omega arith))) in
      let meters : (k : ℕ) → (detectors_at (get_or x5 i d).detectors k).meters ≡ (detectors_at (get_or x0 i d).detectors k).meters = λ k. ap (λ gs. (detectors_at gs k).meters) detectors ∙ ap (λ (g : Detectors). g.meters) (moved.detectors.each k) ∙ ap (λ gs. (detectors_at gs k).meters) sideways.detectors in
      let stood = meters-through (get_or x0 i d) (get_or x5 i d) m after (places ∙ sideways.goes.same.own.places) meters (detectors-through m) (stands i d (omega arith)) in
      ends-meters (get_or x6 i d) m ((meter i d (omega arith)).noted before after five.on (five.each i d (omega arith)) saw stood)

  pub whole-step : (x6 : List TileView) → length x6 ≡ length x0 → Each (MeterPhase net) x5 x6 → Steps net x0 x6
  whole-step x6 e6 meter = record {
    machine = stand-step x6 e6 meter;
    arrived = arrived-step x6 e6 meter;
    left = left-step x6 e6 meter;
    meters = meters-step x6 e6 meter;
    tiles =
        tiles-meter net x5 x6 (omega arith) meter
        (tiles-enter net x4 x5 (omega arith) enters
        (tiles-move net x3 x4 (omega arith) moves
        (tiles-release net view x2 x3 (omega arith) releases
        (tiles-motion net x1 x2 (omega arith) motion
        (tiles-lanes net x0 x1 e1 lanes tiles)))));
    handed = idle-again net x3 x4 x5 (omega arith) (omega arith) moves x6 (omega arith) enters meter;
  }
