-- A command to one tile: the others stand as they did.
use Rattle.std.proofs.Common.{◌≡◌, ℕ, ◌<◌, true, false, List, length, set, get_or, refl, sym, ◌∙◌, ap, subst, inl, inr, ◌≤◌, arith, Option, Some, None, IfSome, is_some, slice_get, if◌then◌else◌}
use Rattle.std.specs.List.{list_any}
use Rattle.std.proofs.Math.ListN.{length-map}
use Rattle.std.proofs.lemmas.Bool.{both_ways, false_from_ne_true, cases_Bool, cond-false, cases_lt}
use Rattle.std.proofs.lemmas.List.{get_or_default, get_or-set_other}
use Rattle.street_base.specs.declared.net.NetSpec.{NetSpec}
use Rattle.street_base.specs.declared.names.Place.{Place}
use Rattle.street_base.specs.Prelude.{is_place, places, Traffic, lane_at, LaneState, in_lane, IsWhole, cell_without, lane_without, metered, SignalPlan, is_green}
use Rattle.street_base.proofs.ReleaseLemmas.{is_place-same}
use Rattle.street_base.proofs.PlaceLemmas.{places-listed}
use Rattle.street_base.proofs.FormLemmas.{each_lane-sizes}
use Rattle.street_lanes.specs.Prelude.{LaneStands, IsLane, AllLanes, IsOn}
use Rattle.street_tile.specs.Prelude.{TileView, IsTileOf, AreTiles, AllStand, TileStandsFor, is_own, own_places, without, DoesIf, HaveNot, Have, HaveAtMostOne, WhereOnce, at_place, planned, TilesView, tiles_of, TilesStandFor, TilesGo, OwnsLink, AreKept, PlacesMeter}
use Rattle.street_tile.proofs.NumberOnce.{lane-same, lane_at-without}
use Rattle.street_tile.proofs.Numbers.{own-number}
use Rattle.street_node.proofs.LaneWalk.{filter-holds}
use Rattle.street_tile.proofs.OwnLanes.{own-lanes}
use Rattle.street_tile.proofs.Rows.{in-row}
use Rattle.street_tile.proofs.MovedHandOvers.{row-alone, not-listed, row-later}
use Rattle.street_tile.proofs.PhasesOfAll.{tiles-of}
use Rattle.street_tile.proofs.Together.{IsTileAt, same-meters, one-does, goes-seen, at-list, at-call, owns-any, does-there, kept-set, one-goes}
use Rattle.street_tile.proofs.Ones.{on-one, have-one}
use Rattle.street_tile.proofs.DoesIf.{lane_at-place}
use Rattle.street_node.proofs.BufferWalk.{at-any}
use Rattle.street_tile.proofs.PlacesMeter.{meters-elsewhere, stands-metered}

-- ---- what a tile tells

pub some-holds : {A : Type 0} (P : Type 0) (o : Option A) → is_some o ≡ true → IfSome o (λ x. P) → P
some-holds P None e h = cc
some-holds P (Some x) e h = h

pub none-is : {A : Type 0} (o : Option A) → is_some o ≡ false → o ≡ None
none-is None e = refl
none-is (Some x) e = cc

pub some-or : {A P : Type 0} (o : Option A) → (is_some o ≡ true → P) → (o ≡ None → P) → P
some-or None some none = none refl
some-or (Some x) some none = some refl

-- ---- lanes of tiles

-- an own lane is the network's, and the tile owns it
pub own-at : (net : NetSpec) (x : TileView) → IsTileOf net x → (k : ℕ) (p : Place) → slice_get x.own.places k ≡ Some p → (list_any (is_place p) (places net) ≡ true) × (is_own net x.low x.high p ≡ true)
own-at net x tile k p at =
    let own : slice_get (own_places net x.low x.high) k ≡ Some p = ap (λ (ps : List Place). slice_get ps k) (sym tile.places) ∙ at in
    (places-listed net p (own-lanes net x.low x.high k p own).1, filter-holds (is_own net x.low x.high) (places net) k p own)

-- two tiles have no lane in common
pub apart : (net : NetSpec) (xs : List TileView) → AreTiles net xs → (i k : ℕ) (d e : TileView) → i < length xs → k < length xs → (k ≡ i → ⊥) → (j l : ℕ) (p q : Place) → slice_get (get_or xs i d).own.places j ≡ Some p → slice_get (get_or xs k e).own.places l ≡ Some q → is_place p q ≡ false
apart net xs tiles i k d e h hk other j l p q at_p at_q =
    let row = in-row net xs tiles in
    let of_p = own-at net (get_or xs i d) (tiles-of net 0 (length net.nodes) xs row i d h) j p at_p in
    let of_q = own-at net (get_or xs k e) (tiles-of net 0 (length net.nodes) xs row k e hk) l q at_q in
    false_from_ne_true (is_place p q) (λ here.
    let same : p ≡ q = is_place-same p q here in
    let owns : is_own net (get_or xs i e).low (get_or xs i e).high q ≡ true = subst (λ (r : Place). is_own net (get_or xs i e).low (get_or xs i e).high r ≡ true) same (subst (λ (t : TileView). is_own net t.low t.high p ≡ true) (get_or_default xs i d e h) of_p.1) in
    both_ways (is_own net (get_or xs k e).low (get_or xs k e).high q) (row-alone net 0 (length net.nodes) xs row i k e q other h hk owns) of_q.1)

module _ (net : NetSpec) (number : ℕ) where
  on-without : (m : Traffic) → IsOn net m → IsOn net (without number m)
  unfolding without
  on-without m on = record {
    network = on.network;
    formed = record {
      lanes = each_lane-sizes (λ place. lane_without number) m.lanes (λ place lane. length-map lane.track.cells (cell_without number)) ∙ on.formed.lanes;
      cells = on.formed.cells;
      turns = on.formed.turns;
    };
  }

  -- a tile that has it not stands as it did
  not-there : (m : Traffic) → IsOn net m → (x : TileView) → IsTileOf net x → HaveNot x.own.places m number → TileStandsFor x m → TileStandsFor x (without number m)
  unfolding without
  not-there m on x tile none s = record {
    clock = s.clock;
    lanes = λ k q l at is.
        let there : IsLane net q = subst (AllLanes net) (sym tile.places) (own-lanes net x.low x.high) k q at in
        subst (LaneStands l) (sym (lane_at-without number net m on q there ∙ lane-same number (lane_at m q) (none k q at))) (s.lanes k q l at is);
    none_loose = s.none_loose;
    signals = s.signals;
  }

  -- where one tile has it, another has it not
  pub had-elsewhere : (m : Traffic) → IsWhole m → (xs : List TileView) → AreTiles net xs → AllStand net xs m → (i k : ℕ) (d e : TileView) → i < length xs → k < length xs → (k ≡ i → ⊥) → Have (get_or xs i d).own.places m number → HaveNot (get_or xs k e).own.places m number
  had-elsewhere m whole xs tiles s i k d e h hk other have l q at =
      let row = in-row net xs tiles in
      let p = have.1 in
      let of_p = own-at net (get_or xs i d) (tiles-of net 0 (length net.nodes) xs row i d h) have.0 p have.2 in
      let of_q = own-at net (get_or xs k e) (tiles-of net 0 (length net.nodes) xs row k e hk) l q at in
      let among : (r : Place) → list_any (is_place r) (places net) ≡ true → list_any (is_place r) (places m.network) ≡ true = λ r t. subst (λ (n : NetSpec). list_any (is_place r) (places n) ≡ true) (sym s.on.network) t in
      on-one m s.on.formed whole number p q (apart net xs tiles i k d e h hk other have.0 l p q have.2 at) (among p of_p.0) (among q of_q.0) have.3

  detectors : (m : Traffic) → (without number m).detectors ≡ m.detectors
  unfolding without
  detectors m = refl

  module _ {here : NetSpec} {xs : List TileView} {v : TilesView} {i : ℕ} {x : TileView} (t : IsTileAt net here xs v i x) (tiles : AreTiles net xs) (y : TileView)
      (does : DoesIf here (λ m. HaveAtMostOne x.own.places m number) (without number) x y) where
    pub take-does : WhereOnce here x number (λ m. Have x.own.places m number) → TilesGo IsWhole (without number) v (tiles_of net (set xs i y))
    take-does had_here =
        let row = in-row net xs tiles in
        let did = at-list t (λ n u. DoesIf n (λ m. HaveAtMostOne u.own.places m number) (without number) u y) does in
        let had = at-list t (λ n u. WhereOnce n u number (λ m. Have u.own.places m number)) had_here in
        let at_most : (m : Traffic) → IsOn net m → IsWhole m → HaveAtMostOne (get_or xs i x).own.places m number = λ m on whole. have-one net (get_or xs i x) number m (tiles-of net 0 (length net.nodes) xs row i x t.within) on whole in
        goes-seen IsWhole (without number) (tiles_of net xs) v (tiles_of net (set xs i y)) t.seen
        (one-does net IsWhole (without number) xs i y x t.within
        (λ m whole on. on-without m on)
        (λ k e m other l whole s. not-there m s.on (get_or xs k e) (tiles-of net 0 (length net.nodes) xs row k e l) (had-elsewhere m whole xs tiles s i k x e t.within l other (had m s.on (s.each i x t.within) (at_most m s.on whole))) (s.each k e l))
        detectors
        (record { same = did.same; handed = did.handed; coming = did.coming; arrived = did.arrived; detectors = did.detectors; stands = λ m on whole s. did.stands m on (at_most m on whole) s }))

    -- the tile that owns a lane has it there
    pub take-on-does : (p : Place) → IsLane v.network p → OwnsLink v i p.link → WhereOnce here x number (λ m. 0 < in_lane number (lane_at m p)) → TilesGo IsWhole (without number) v (tiles_of net (set xs i y))
    take-on-does p lane own had =
        let there : IsLane net p = subst (λ (u : TilesView). IsLane u.network p) (sym t.seen) lane in
        let at = own-number net (get_or xs i x) p (tiles-of net 0 (length net.nodes) xs (in-row net xs tiles) i x t.within) there (owns-any t p.link p own refl x) in
        let listed = at-call t (λ n u. slice_get u.own.places at.0 ≡ Some p) at.1 in
        take-does (λ m on s most. (at.0, p, listed, had m on s most))

  -- where a tile has it not
  pub not-at : (xs : List TileView) (i : ℕ) (d : TileView) → AreTiles net xs → i < length xs
      → ((m : Traffic) → IsOn net m → TileStandsFor (get_or xs i d) m → HaveAtMostOne (get_or xs i d).own.places m number → HaveNot (get_or xs i d).own.places m number)
      → (m : Traffic) → IsWhole m → TilesStandFor (tiles_of net xs) m → (e : TileView) → HaveNot (get_or xs i e).own.places m number
  not-at xs i d tiles h none m whole s e =
      let most = have-one net (get_or xs i d) number m (tiles-of net 0 (length net.nodes) xs (in-row net xs tiles) i d h) s.lanes.on whole in
      subst (λ (t : TileView). HaveNot t.own.places m number) (get_or_default xs i d e h) (none m s.lanes.on (s.lanes.each i d h) most)

  -- where no tile has it nothing changes
  pub nowhere-does : (xs : List TileView) → AreTiles net xs → ((k : ℕ) (d : TileView) → k < length xs → (m : Traffic) → IsWhole m → TilesStandFor (tiles_of net xs) m → HaveNot (get_or xs k d).own.places m number) → TilesGo IsWhole (without number) (tiles_of net xs) (tiles_of net xs)
  nowhere-does xs tiles none = record {
    network = refl;
    long = refl;
    nobody = λ none. none;
    goes = λ m whole s. record {
      lanes = record {
        on = on-without m s.lanes.on;
        each = λ k d l. not-there m s.lanes.on (get_or xs k d) (tiles-of net 0 (length net.nodes) xs (in-row net xs tiles) k d l) (none k d l m whole s) (s.lanes.each k d l);
      };
      meters = λ k d l. same-meters (get_or xs k d) (get_or xs k d) m (without number m) refl refl (detectors m) (s.meters k d l);
    };
  }

-- ---- a lane changed by a rule

-- the rule keeps how many cells a lane has
abbrev pub KeepsLength : (LaneState → LaneState) → Type 0
KeepsLength rule = (s : LaneState) → length (rule s).track.cells ≡ length s.track.cells

module _ (net : NetSpec) (p : Place) (rule : LaneState → LaneState) where
  pub on-place : KeepsLength rule → (m : Traffic) → IsOn net m → IsOn net (at_place p rule m)
  unfolding at_place
  on-place same m on = record {
    network = on.network;
    formed = record {
      lanes = each_lane-sizes (λ q lane. if is_place q p then rule lane else lane) m.lanes (λ q s. elim (cases_Bool (is_place q p)) as (λ _. length (if is_place q p then rule s else s).track.cells ≡ length s.track.cells) [
        | inl here ↦ rw here (same s)
        | inr other ↦ rw other refl
      ]) ∙ on.formed.lanes;
      cells = on.formed.cells;
      turns = on.formed.turns;
    };
  }

  -- a tile without that lane stands as it did
  lane-elsewhere : (m : Traffic) → IsOn net m → (x : TileView) → IsTileOf net x → is_own net x.low x.high p ≡ false → TileStandsFor x m → TileStandsFor x (at_place p rule m)
  unfolding at_place
  lane-elsewhere m on x tile other s = record {
    clock = s.clock;
    lanes = λ k q l at is.
        let there : IsLane net q = subst (AllLanes net) (sym tile.places) (own-lanes net x.low x.high) k q at in
        let away : is_place q p ≡ false = false_from_ne_true (is_place q p) (λ here.
        let same : q ≡ p = is_place-same q p here in
        let listed : list_any (is_place p) x.own.places ≡ true = at-any x.own.places k p (at ∙ ap (λ (r : Place). Some r) same) in
        both_ways (list_any (is_place p) x.own.places) (subst (λ (ps : List Place). list_any (is_place p) ps ≡ false) (sym tile.places) (not-listed net x.low x.high p other)) listed) in
        subst (LaneStands l) (sym (lane_at-place net p rule m on q there ∙ cond-false _ _ _ away)) (s.lanes k q l at is);
    none_loose = s.none_loose;
    signals = s.signals;
  }

  lane-detectors : (m : Traffic) → (at_place p rule m).detectors ≡ m.detectors
  unfolding at_place
  lane-detectors m = refl

  -- the tiles with that one changed stand for the traffic with that lane changed
  pub place-does : {here : NetSpec} {xs : List TileView} {v : TilesView} {i : ℕ} {x : TileView} → IsTileAt net here xs v i x → AreTiles net xs → OwnsLink v i p.link → KeepsLength rule
      → (P : Traffic → Type 0) (y : TileView) → DoesIf here P (at_place p rule) x y → TilesGo P (at_place p rule) v (tiles_of net (set xs i y))
  place-does {here} {xs} {v} {i} {x} t tiles own same P y does =
      let row = in-row net xs tiles in
      goes-seen P (at_place p rule) (tiles_of net xs) v (tiles_of net (set xs i y)) t.seen
      (one-does net P (at_place p rule) xs i y x t.within (λ m holds on. on-place same m on) (λ k e m other l holds s.
      lane-elsewhere m s.on (get_or xs k e) (tiles-of net 0 (length net.nodes) xs row k e l) (row-alone net 0 (length net.nodes) xs row i k e p other t.within l (owns-any t p.link p own refl e)) (s.each k e l)) lane-detectors (does-there t does))

-- ---- a signal plan of one node

module _ (net : NetSpec) (node : ℕ) (plan : SignalPlan) where
  on-planned : (m : Traffic) → IsOn net m → IsOn net (planned node plan m)
  unfolding planned
  on-planned m on = record { network = on.network; formed = record { lanes = on.formed.lanes; cells = on.formed.cells; turns = on.formed.turns } }

  -- a tile of other nodes stands as it did
  plan-elsewhere : (m : Traffic) (x : TileView) → ((at : ℕ) → x.low ≤ at → at < x.high → at ≡ node → ⊥) → TileStandsFor x m → TileStandsFor x (planned node plan m)
  unfolding planned
  plan-elsewhere m x other s = record {
    clock = s.clock;
    lanes = s.lanes;
    none_loose = s.none_loose;
    signals = λ at low high place next step.
        s.signals at low high place next step
        ∙ ap (λ (o : Option SignalPlan). is_green o place next step) (sym (get_or-set_other m.signals node at (Some plan) None (other at low high)));
  }

  plan-detectors : (m : Traffic) → (planned node plan m).detectors ≡ m.detectors
  unfolding planned
  plan-detectors m = refl

  pub plan-does : {here : NetSpec} {xs : List TileView} {v : TilesView} {i : ℕ} {x : TileView} → IsTileAt net here xs v i x → AreTiles net xs → ((e : TileView) → (get_or xs i e).low ≤ node) → ((e : TileView) → node < (get_or xs i e).high)
      → (P : Traffic → Type 0) (y : TileView) → DoesIf here P (planned node plan) x y → TilesGo P (planned node plan) v (tiles_of net (set xs i y))
  plan-does {here} {xs} {v} {i} {x} t tiles low high P y does =
      let row = in-row net xs tiles in
      goes-seen P (planned node plan) (tiles_of net xs) v (tiles_of net (set xs i y)) t.seen
      (one-does net P (planned node plan) xs i y x t.within (λ m holds on. on-planned m on) (λ k e m other l holds s.
      plan-elsewhere m (get_or xs k e) (λ at from to same. elim (cases_lt k i) as (λ _. ⊥) [
        | inl before ↦ (let ends = row-later net 0 (length net.nodes) xs row k i e before t.within in let begins = low e in omega arith)
        | inr after ↦ (let later : i < k = omega arith in let begins = row-later net 0 (length net.nodes) xs row i k e later l in let ends = high e in omega arith)
      ]) (s.each k e l)) plan-detectors (does-there t does))

-- ---- a detector more

module _ (net : NetSpec) (p : Place) (cell period : ℕ) where
  on-metered : (m : Traffic) → IsOn net m → IsOn net (metered m p cell period)
  unfolding metered
  on-metered m on = record { network = on.network; formed = record { lanes = on.formed.lanes; cells = on.formed.cells; turns = on.formed.turns } }

  module _ {here : NetSpec} {xs : List TileView} {v : TilesView} {i : ℕ} {x : TileView} (t : IsTileAt net here xs v i x) (y : TileView) (does : PlacesMeter p cell period x y) where
    placed : PlacesMeter p cell period (get_or xs i x) y
    placed = at-list t (λ n u. PlacesMeter p cell period u y) does

    pub kept-meter : {mouths : ℕ} → AreKept net xs mouths → AreKept net (set xs i y) mouths
    kept-meter {mouths} kept = kept-set net xs i y x mouths kept t.within placed.same (ap (λ (u : TileView). u.handed) placed.rest) (ap (λ (u : TileView). u.coming) placed.rest)

    pub meter-does : AreTiles net xs → OwnsLink v i p.link → TilesGo (λ m. Unit {0}) (λ m. metered m p cell period) v (tiles_of net (set xs i y))
    meter-does tiles own =
        let row = in-row net xs tiles in
        goes-seen (λ m. Unit {0}) (λ m. metered m p cell period) (tiles_of net xs) v (tiles_of net (set xs i y)) t.seen
        (one-goes net (λ m. Unit {0}) (λ m. metered m p cell period) xs i y x t.within (λ m holds on. on-metered m on)
        (λ k e m other l holds s. stands-metered (get_or xs k e) p cell period m (s.each k e l))
        (ap (λ (u : TileView). u.arrived) placed.rest)
        (λ m holds s. placed.stands m (s.each i x t.within))
        (λ m holds s kept. placed.meters m (s.each i x t.within) kept)
        (λ k e m other l kept. meters-elsewhere (get_or xs k e) p cell period
        (λ j at. both_ways (is_own net (get_or xs k e).low (get_or xs k e).high p) (row-alone net 0 (length net.nodes) xs row i k e p other t.within l (owns-any t p.link p own refl e)) (own-at net (get_or xs k e) (tiles-of net 0 (length net.nodes) xs row k e l) j p at).1)
        m kept))
