-- Tiles with nobody on them, after they took the memory for a step.
use Rattle.std.proofs.Common.{◌≡◌, ◌<◌, List, length, get_or, refl, sym, subst, arith, All, None}
use Rattle.street_base.specs.declared.net.NetSpec.{NetSpec}
use Rattle.street_base.specs.Prelude.{network_fault, last_clock, Traffic, loaded}
use Rattle.street_base.proofs.LoadLemmas.{loaded-sound}
use Rattle.street_tile.specs.Prelude.{KeepsAll, TileView, AreTiles, AllStand, TileStandsFor, SameTile, Each, IsIdle, IsPrepared}
use Rattle.street_tile.proofs.BetweenPhases.{tiles-same}

-- ---- one tile

keeps-same : (x y : TileView) → KeepsAll x y → SameTile x y
keeps-same x y e = subst (SameTile x) (sym e) (record { low = refl; high = refl; links = refl; own = record { places = refl; sizes = refl; loose = refl; odds = refl }; sized = refl })

keeps-idle : (x y : TileView) → KeepsAll x y → IsIdle x → IsIdle y
keeps-idle x y e idle = subst IsIdle (sym e) (record { handed = idle.handed; coming = idle.coming; arrived = idle.arrived })

keeps-stands : (x y : TileView) (m : Traffic) → KeepsAll x y → TileStandsFor x m → TileStandsFor y m
keeps-stands x y m e s = subst (λ (t : TileView). TileStandsFor t m) (sym e) (record { clock = s.clock; lanes = s.lanes; none_loose = s.none_loose; signals = s.signals })

-- ---- all tiles

module _ (net : NetSpec) (xs ys : List TileView) (long : length ys ≡ length xs) (kept : Each (λ x y. KeepsAll x y × IsPrepared y) xs ys) where
  pub tiles-kept : AreTiles net xs → AreTiles net ys
  tiles-kept = tiles-same net xs ys long (λ k d h. keeps-same (get_or xs k d) (get_or ys k d) (kept k d h).0)

  pub idle-kept : All IsIdle xs → All IsIdle ys
  idle-kept idle k d h =
      let within : k < length xs = omega arith in
      keeps-idle (get_or xs k d) (get_or ys k d) (kept k d within).0 (idle k d within)

  pub prepared-kept : All IsPrepared ys
  prepared-kept k d h = let within : k < length xs = omega arith in (kept k d within).1

  stands-kept : (m : Traffic) → All (λ x. TileStandsFor x m) xs → All (λ x. TileStandsFor x m) ys
  stands-kept m each k d h =
      let within : k < length xs = omega arith in
      keeps-stands (get_or xs k d) (get_or ys k d) m (kept k d within).0 (each k d within)

  -- they stand for the network with no vehicle
  pub new-stand : network_fault net ≡ None → net.start < last_clock → All (λ x. TileStandsFor x (loaded net)) xs → (m : Traffic) × AllStand net ys m × (m.clock < last_clock)
  unfolding loaded
  new-stand faultless early each = (loaded net, record { on = record { network = refl; formed = (loaded-sound net faultless).formed }; each = stands-kept (loaded net) each }, early)
