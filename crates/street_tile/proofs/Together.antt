-- One tile changes, the others stand as they did.
use Rattle.std.proofs.Common.{◌≡◌, ℕ, ◌<◌, true, List, [], length, set, get_or, refl, sym, ◌∙◌, ap, subst, arith, inl, inr, Result, Ok, Err, OnOk, OnErr, slice_get}
use Rattle.std.proofs.lemmas.Bool.{cases_eq}
use Rattle.std.proofs.lemmas.List.{get_or-set_same, get_or-set_other, get_or_default, length-set}
use Rattle.street_base.specs.declared.net.NetSpec.{NetSpec}
use Rattle.street_base.specs.declared.names.Place.{Place}
use Rattle.street_base.specs.Prelude.{Traffic}
use Rattle.street_lanes.specs.Prelude.{MetersStandFor, IsOn}
use Rattle.street_tile.specs.Prelude.{TileView, AllStand, TileStandsFor, SameTile, Each, IsStill, is_own, DoesIf, KeepsAll, MetersStand, detectors_at, detectors_on, TilesView, tiles_of, AreKept, TilesStandFor, TilesGo, TilesKeep, OwnsLink}
use Rattle.street_tile.proofs.SameTile.{tile-none}
use Rattle.street_tile.proofs.BetweenPhases.{tiles-same}

-- a tile with the same detectors on the same lanes, of traffic with the same ones
pub same-meters : (x y : TileView) (m n : Traffic) → y.own.places ≡ x.own.places → y.detectors ≡ x.detectors → n.detectors ≡ m.detectors → MetersStand x m → MetersStand y n
same-meters x y m n places kept detectors stand k p at =
    subst (λ gs. MetersStandFor (detectors_at gs k).meters (detectors_on p n.detectors)) (sym kept)
    (subst (λ ds. MetersStandFor (detectors_at x.detectors k).meters (detectors_on p ds)) (sym detectors) (stand k p (ap (λ (ps : List Place). slice_get ps k) (sym places) ∙ at)))

-- what holds of the new tile at i, and of the others as they are, holds of each
at-set : (R : TileView → Type 0) (xs : List TileView) (i : ℕ) (y e : TileView) (k : ℕ) → i < length xs → (k ≡ i → R y) → ((k ≡ i → ⊥) → R (get_or xs k e)) → R (get_or (set xs i y) k e)
at-set R xs i y e k h here there = elim (cases_eq k i) as (λ _. R (get_or (set xs i y) k e)) [
  | inl same ↦ (
      let is : get_or (set xs i y) k e ≡ y = rw same (get_or-set_same xs i y e h) in
      subst R (sym is) (here same))
  | inr other ↦ subst R (sym (get_or-set_other xs i k y e other)) (there other)
]

set-same : (xs : List TileView) (i : ℕ) (y d : TileView) → i < length xs → SameTile (get_or xs i d) y → Each SameTile xs (set xs i y)
set-same xs i y d h same k e l = at-set (SameTile (get_or xs k e)) xs i y e k h
    (λ here. subst (λ (t : TileView). SameTile t y) (sym (ap (λ (j : ℕ). get_or xs j e) here ∙ get_or_default xs i e d h)) same)
    (λ other. tile-none (get_or xs k e))

still-after : (x y : TileView) → SameTile x y → y.handed ≡ x.handed → y.coming ≡ x.coming → IsStill x → IsStill y
still-after x y same handed coming still = (handed ∙ still.0, coming ∙ still.1 ∙ rw same.own.places refl)

-- the tile at i is another of the same nodes, with nobody more on the way
pub kept-set : (net : NetSpec) (xs : List TileView) (i : ℕ) (y d : TileView) (mouths : ℕ) → AreKept net xs mouths → i < length xs → SameTile (get_or xs i d) y → y.handed ≡ (get_or xs i d).handed → y.coming ≡ (get_or xs i d).coming → AreKept net (set xs i y) mouths
kept-set net xs i y d mouths kept h same handed coming =
    let long = length-set xs i y in
    let few = kept.few in
    record {
      tiles = tiles-same net xs (set xs i y) long (set-same xs i y d h same) kept.tiles;
      few = omega (arith, long, few);
      still = λ k e l. at-set IsStill xs i y e k h (λ here. still-after (get_or xs i d) y same handed coming (kept.still i d h)) (λ other. kept.still k e (omega (arith, l, long)));
      wide = kept.wide;
    }

module _ (net : NetSpec) (P : Traffic → Type 0) (f : Traffic → Traffic) (xs : List TileView) (i : ℕ) (y d : TileView) (h : i < length xs)
    (on : (m : Traffic) → P m → IsOn net m → IsOn net (f m))
    (elsewhere : (k : ℕ) (e : TileView) (m : Traffic) → (k ≡ i → ⊥) → k < length xs → P m → AllStand net xs m → TileStandsFor (get_or xs k e) (f m)) where
  -- the tile at i is another, the others stand as they did
  pub one-goes : y.arrived ≡ (get_or xs i d).arrived
      → ((m : Traffic) → P m → AllStand net xs m → TileStandsFor y (f m))
      → ((m : Traffic) → P m → AllStand net xs m → MetersStand (get_or xs i d) m → MetersStand y (f m))
      → ((k : ℕ) (e : TileView) (m : Traffic) → (k ≡ i → ⊥) → k < length xs → MetersStand (get_or xs k e) m → MetersStand (get_or xs k e) (f m))
      → TilesGo P f (tiles_of net xs) (tiles_of net (set xs i y))
  one-goes arrived stands meters apart =
      let long = length-set xs i y in
      record {
        network = refl;
        long = long;
        nobody = λ none k e l. at-set (λ t. t.arrived ≡ []) xs i y e k h (λ here. arrived ∙ none i d h) (λ other. none k e (omega (arith, l, long)));
        goes = λ m holds s. record {
          lanes = record {
            on = on m holds s.lanes.on;
            each = λ k e l. at-set (λ t. TileStandsFor t (f m)) xs i y e k h (λ here. stands m holds s.lanes) (λ other. elsewhere k e m other (omega (arith, l, long)) holds s.lanes);
          };
          meters = λ k e l. at-set (λ t. MetersStand t (f m)) xs i y e k h (λ here. meters m holds s.lanes (s.meters i d h))
              (λ other. let within : k < length xs = omega (arith, l, long) in apart k e m other within (s.meters k e within));
        };
      }

  -- the tile at i does it, and the detectors stay as they are
  pub one-does : ((m : Traffic) → (f m).detectors ≡ m.detectors) → DoesIf net P f (get_or xs i d) y → TilesGo P f (tiles_of net xs) (tiles_of net (set xs i y))
  one-does detectors does = one-goes does.arrived
      (λ m holds s. does.stands m s.on holds (s.each i d h))
      (λ m holds s kept. same-meters (get_or xs i d) y m (f m) does.same.own.places does.detectors (detectors m) kept)
      (λ k e m other l kept. same-meters (get_or xs k e) (get_or xs k e) m (f m) refl refl (detectors m) kept)

-- a tile that is as it was, reserved room apart
pub keeps-does : (net : NetSpec) (x y : TileView) → KeepsAll x y → DoesIf net (λ m. Unit {0}) (λ m. m) x y
keeps-does net x y e = subst (DoesIf net (λ m. Unit {0}) (λ m. m) x) (sym e) (record {
  same = record { low = refl; high = refl; links = refl; own = record { places = refl; sizes = refl; loose = refl; odds = refl }; sized = refl };
  handed = refl;
  coming = refl;
  arrived = refl;
  detectors = refl;
  stands = λ m on holds s. record { clock = s.clock; lanes = s.lanes; none_loose = s.none_loose; signals = s.signals };
})

pub one-keeps : (net : NetSpec) (xs : List TileView) (i : ℕ) (y d : TileView) → i < length xs → KeepsAll (get_or xs i d) y → TilesKeep (tiles_of net xs) (tiles_of net (set xs i y))
one-keeps net xs i y d h e =
    one-does net (λ m. Unit {0}) (λ m. m) xs i y d h (λ m holds on. on) (λ k t m other l holds s. s.each k t l) (λ m. refl) (keeps-does net (get_or xs i d) y e)

-- ---- of what is seen of all tiles

pub goes-seen : (P : Traffic → Type 0) (f : Traffic → Traffic) (x v y : TilesView) → x ≡ v → TilesGo P f x y → TilesGo P f v y
goes-seen P f x v y is goes = subst (λ (u : TilesView). TilesGo P f u y) is goes

pub inside-seen : (net : NetSpec) (xs : List TileView) (v : TilesView) (i : ℕ) → tiles_of net xs ≡ v → i < length v.tiles → i < length xs
inside-seen net xs v i seen h = subst (λ (u : TilesView). i < length u.tiles) (sym seen) h

pub stands-seen : (net : NetSpec) (xs : List TileView) (v : TilesView) (m : Traffic) → tiles_of net xs ≡ v → TilesStandFor v m → TilesStandFor (tiles_of net xs) m
stands-seen net xs v m seen s = subst (λ (u : TilesView). TilesStandFor u m) (sym seen) s

-- ---- one tile, as a call is passed it

-- the tile at i of those that are seen, beside the network
pub record IsTileAt (net here : NetSpec) (xs : List TileView) (v : TilesView) (i : ℕ) (x : TileView) : Type 0 where
  pub seen : tiles_of net xs ≡ v
  pub within : i < length xs
  pub same : here ≡ net
  pub is : x ≡ get_or xs i x

pub tile-in : {net here : NetSpec} {xs : List TileView} {v : TilesView} {i : ℕ} {x : TileView} → tiles_of net xs ≡ v → i < length xs → here ≡ net → x ≡ get_or xs i x → IsTileAt net here xs v i x
tile-in seen h same is = record { seen = seen; within = h; same = same; is = is }

pub tile-at : {net here : NetSpec} {xs : List TileView} {v : TilesView} {i : ℕ} {x : TileView} → tiles_of net xs ≡ v → i < length v.tiles → here ≡ net → x ≡ get_or xs i x → IsTileAt net here xs v i x
tile-at {net} {here} {xs} {v} {i} {x} seen h same is = tile-in seen (inside-seen net xs v i seen h) same is

module _ {net here : NetSpec} {xs : List TileView} {v : TilesView} {i : ℕ} {x : TileView} (t : IsTileAt net here xs v i x) where
  -- what is true of it is true of the list's, and the other way round
  pub at-list : (R : NetSpec → TileView → Type 0) → R here x → R net (get_or xs i x)
  at-list R r = subst (R net) t.is (subst (λ (n : NetSpec). R n x) t.same r)

  pub at-call : (R : NetSpec → TileView → Type 0) → R net (get_or xs i x) → R here x
  at-call R r = subst (λ (n : NetSpec). R n x) (sym t.same) (subst (R net) (sym t.is) r)

  -- it owns the lanes of a link, whichever tile stands for none
  pub owns-any : (link : ℕ) (p : Place) → OwnsLink v i link → p.link ≡ link → (e : TileView) → is_own net (get_or xs i e).low (get_or xs i e).high p ≡ true
  owns-any link p own at e = subst (λ (u : TilesView). is_own u.network (get_or u.tiles i e).low (get_or u.tiles i e).high p ≡ true) (sym t.seen) (own e p at)

  pub owns-here : (link : ℕ) (p : Place) → OwnsLink v i link → p.link ≡ link → is_own here x.low x.high p ≡ true
  owns-here link p own at = at-call (λ n u. is_own n u.low u.high p ≡ true) (owns-any link p own at x)

  -- it stands for what all stand for
  pub stands-here : (m : Traffic) → TilesStandFor v m → IsOn here m × TileStandsFor x m × MetersStand x m
  stands-here m s =
      let all = stands-seen net xs v m t.seen s in
      at-call (λ n u. IsOn n m × TileStandsFor u m × MetersStand u m) (all.lanes.on, all.lanes.each i x t.within, all.meters i x t.within)

  pub does-there : {P : Traffic → Type 0} {f : Traffic → Traffic} {y : TileView} → DoesIf here P f x y → DoesIf net P f (get_or xs i x) y
  does-there {P} {f} {y} does = at-list (λ n u. DoesIf n P f u y) does

  module _ {mouths : ℕ} (kept : AreKept net xs mouths) (y : TileView) where
    pub kept-does : {P : Traffic → Type 0} {f : Traffic → Traffic} → DoesIf here P f x y → AreKept net (set xs i y) mouths
    kept-does does = (let there = does-there does in kept-set net xs i y x mouths kept t.within there.same there.handed there.coming)

    -- it is as it was, room apart, or has one number of those who arrived less
    pub kept-room : KeepsAll x y → AreKept net (set xs i y) mouths
    kept-room e = kept-does (keeps-does here x y e)

    pub kept-same : y ≡ x → AreKept net (set xs i y) mouths
    kept-same e = kept-room (subst (KeepsAll x) (sym e) refl)

    pub kept-arrivals : y ≡ record x { arrived = y.arrived } → AreKept net (set xs i y) mouths
    kept-arrivals e =
        let same : SameTile x y = subst (SameTile x) (sym e) (record { low = refl; high = refl; links = refl; own = record { places = refl; sizes = refl; loose = refl; odds = refl }; sized = refl }) in
        let there = at-list (λ n u. SameTile u y × (y.handed ≡ u.handed) × (y.coming ≡ u.coming)) (same, ap (λ (u : TileView). u.handed) e, ap (λ (u : TileView). u.coming) e) in
        kept-set net xs i y x mouths kept t.within there.0 there.1 there.2

  pub room-goes : (y : TileView) → KeepsAll x y → TilesKeep v (tiles_of net (set xs i y))
  room-goes y e = goes-seen (λ m. Unit {0}) (λ m. m) (tiles_of net xs) v (tiles_of net (set xs i y)) t.seen (one-keeps net xs i y x t.within (at-list (λ n u. KeepsAll u y) e))

  pub same-goes : (y : TileView) → y ≡ x → TilesKeep v (tiles_of net (set xs i y))
  same-goes y e = room-goes y (subst (KeepsAll x) (sym e) refl)

pub either-way : {T E : Type 0} (P : Type 0) (r : Result T E) → OnOk r P → OnErr r P → P
either-way P (Ok t) ok err = ok
either-way P (Err e) ok err = err

pub always-err : {T E : Type 0} (P : Type 0) (r : Result T E) → P → OnErr r P
always-err P (Ok t) p = tt
always-err P (Err e) p = p
