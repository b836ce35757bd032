-- What phases that are one part of a step make of all tiles.
use Rattle.std.proofs.Common.{◌≡◌, ℕ, zero, suc, ◌<◌, List, [], ◌∷◌, length, get_or, refl, ◌∙◌, ap, arith, All, Bool}
use Rattle.street_base.specs.declared.net.NetSpec.{NetSpec}
use Rattle.street_base.specs.Prelude.{last_clock, Traffic, changed, driven}
use Rattle.street_lanes.specs.Prelude.{IsLane}
use Rattle.street_tile.specs.Prelude.{Transfer, TileView, Each, AllStand, AreTiles, IsIdle, IsPrepared, ShowsOwn, nobody, Shows, LanePhase, MotionPhase, ReleasePhase, EnterPhase, MeterPhase, Then, let_go, all_handed, received, MayStep, Steps}
use Rattle.street_tile.proofs.BetweenPhases.{tiles-lanes, tiles-motion, tiles-release, tiles-move, shown-motion, stand-motion, idle-handed, idle-coming, prepared-motion, release-nobody, release-lanes, prepared-release, prepared-move, whole-step}

each-cons : (R : TileView → TileView → Type 0) (x y : TileView) (xs ys : List TileView) → R x y → Each R xs ys → Each R (x ∷ xs) (y ∷ ys)
each-cons R x y xs ys r rs zero d h = r
each-cons R x y xs ys r rs (suc i) d h = rs i d (omega arith)

-- the tiles between two phases
record AreBetween (P Q : TileView → TileView → Type 0) (xs zs : List TileView) : Type 0 where
  tiles : List TileView
  long : length tiles ≡ length xs
  first : Each P xs tiles
  second : Each Q tiles zs

each-between : (P Q : TileView → TileView → Type 0) (xs zs : List TileView) → length zs ≡ length xs → Each (Then P Q) xs zs → AreBetween P Q xs zs
each-between P Q [] [] e each = record { tiles = []; long = refl; first = λ i d h. absurd (omega arith); second = λ i d h. absurd (omega arith) }
each-between P Q [] (z ∷ zs) e each = absurd (omega arith)
each-between P Q (x ∷ xs) [] e each = absurd (omega arith)
each-between P Q (x ∷ xs) (z ∷ zs) e each =
    let first : Then P Q x z = each 0 x (omega arith) in
    let rest = each-between P Q xs zs (omega arith) (λ i d h. each (suc i) d (omega arith)) in
    let long = rest.long in
    record {
      tiles = first.between ∷ rest.tiles;
      long = omega arith;
      first = each-cons P x first.between xs rest.tiles first.first rest.first;
      second = each-cons Q first.between z rest.tiles zs first.second rest.second;
    }

-- releases and hand-overs keep the clock
through-clock : (m : Traffic) → (let_go (driven (changed m))).clock ≡ m.clock
unfolding let_go driven changed
through-clock m = refl

-- lane changes and motion
module _ (net : NetSpec) (xs zs : List TileView) (e : length zs ≡ length xs) (drives : Each (Then (LanePhase net) (MotionPhase net)) xs zs) where
  between : AreBetween (LanePhase net) (MotionPhase net) xs zs
  between = each-between (LanePhase net) (MotionPhase net) xs zs e drives

  pub tiles-drive : AreTiles net xs → AreTiles net zs
  tiles-drive tiles = let long = between.long in tiles-motion net between.tiles zs (omega arith) between.second (tiles-lanes net xs between.tiles long between.first tiles)

  pub shown-drive : All ShowsOwn zs
  shown-drive = let long = between.long in shown-motion net between.tiles zs (omega arith) between.second

  stand-drive : (m : Traffic) → AllStand net xs m → AllStand net zs (driven (changed m))
  stand-drive = stand-motion net xs between.tiles zs between.long e between.first between.second

  pub handed-drive : All IsIdle xs → All (λ x. x.handed ≡ []) zs
  handed-drive = idle-handed net xs between.tiles zs between.long e between.first between.second

  coming-drive : All IsIdle xs → (i : ℕ) (d : TileView) → i < length xs → (get_or zs i d).coming ≡ nobody (get_or zs i d)
  coming-drive = idle-coming net xs between.tiles zs between.long e between.first between.second

  prepared-drive : All IsPrepared xs → All IsPrepared zs
  prepared-drive = prepared-motion net xs between.tiles zs between.long e between.first between.second

  -- and releases
  module _ (ready : MayStep net xs) (view : List Bool) (ys : List TileView) (e3 : length ys ≡ length zs) (shows : (m : Traffic) → AllStand net zs m → Shows net view m) (releases : Each (ReleasePhase net view) zs ys) where
    pub tiles-released : AreTiles net ys
    tiles-released = tiles-release net view zs ys e3 releases (tiles-drive ready.tiles)

    pub nobody-released : All (λ y. y.coming ≡ nobody y) ys
    nobody-released = release-nobody net view zs ys e3 releases (λ i d h. coming-drive ready.idle i d (omega arith))

    pub lanes-released : All (λ y. All (λ (h : Transfer). IsLane net h.to) y.handed) ys
    lanes-released = let two = stand-drive ready.stand.0 ready.stand.1 in release-lanes net view zs ys e3 releases _ two (shows _ two)

    -- and hand-overs
    module _ (ws : List TileView) (e4 : length ws ≡ length ys) (moves : Each (λ y w. w ≡ received (all_handed ys) y) ys ws) where
      pub tiles-moved : AreTiles net ws
      tiles-moved = tiles-move net ys ws e4 moves tiles-released

      pub prepared-moved : All IsPrepared ws
      prepared-moved = prepared-move net ys ws ws e4 e4 moves (prepared-release net view zs ys e3 releases (prepared-drive ready.prepared))

      pub in-time-moved : All (λ w. w.clock < last_clock) ws
      in-time-moved i d l =
          let m = ready.stand.0 in
          let two = stand-drive m ready.stand.1 in
          let h = ready.stand.2 in
          let let_go_clock = ((releases i d (omega arith)).stands (driven (changed m)) two.on (shows _ two) (two.each i d (omega arith))).clock ∙ through-clock m in
          let moved = ap (λ (t : TileView). t.clock) (moves i d (omega arith)) in
          omega arith

      -- a step whose phases are three parts
      pub lent-step : (us : List TileView) → length us ≡ length ws → Each (Then (EnterPhase net) (MeterPhase net)) ws us → Steps net xs us
      lent-step us e6 settles =
          let last = each-between (EnterPhase net) (MeterPhase net) ws us e6 settles in
          let long = last.long in
          whole-step net view xs between.tiles zs ys ws last.tiles
          between.long e (omega arith) (omega arith) (omega arith) ready.tiles between.first between.second shows releases moves
          last.first us (omega arith) last.second
