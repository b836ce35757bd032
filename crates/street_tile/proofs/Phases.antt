-- The phases of a tile, from what was done to its lanes.
use Rattle.std.proofs.Common.{◌≡◌, ℕ, ◌<◌, ◌≤◌, Bool, true, List, [], ◌∷◌, length, map, refl, sym, ◌∙◌, ap, subst, arith, Option, None, Some, filter_map, slice_get}
use Rattle.street_base.specs.declared.net.NetSpec.{NetSpec}
use Rattle.street_base.specs.declared.names.Place.{Place}
use Rattle.street_base.specs.declared.record.RecordRow.{RecordRow}
use Rattle.street_record.specs.Rows.{arrival_at}
use Rattle.street_base.specs.Prelude.{Vehicle, is_free, Traffic, lane_at, departed, departed_lane, changed, driven, arrival, leaver_of}
use Rattle.street_lanes.specs.Prelude.{LaneStands, Lanes, AllLanes, Same, place_at, IsOn, LanesStand, LanesGo, AllFree, Detectors}
use Rattle.street_tile.specs.Prelude.{Transfer, vehicle_in, crossing, let_go, placed, placed_lane, TileView, IsTileOf, TileStandsFor, Shows, ShowSignals, ArePairs, nobody, is_own, KeepMeters, HaveWatched, LanePhase, MotionPhase, ReleasePhase, EnterPhase, IsReleasing}
use Rattle.street_net.specs.Prelude.{mouth}
use Rattle.street_node.specs.Prelude.{IsWalk}
use Rattle.street_tile.proofs.SameLanes.{place-is}
use Rattle.street_tile.proofs.Each.{lane_at-entered}
use Rattle.street_node.proofs.LaneWalk.{filter-holds}
use Rattle.street_tile.proofs.OwnLanes.{own-lanes, own-walk}
use Rattle.street_tile.proofs.Pairs.{own-pairs}
use Rattle.street_tile.proofs.MetersStand.{keep-sizes}

-- nobody comes to any of so many lanes
pub nobody-in : (os : List (Option Transfer)) (ps : List Place) → length os ≡ length ps → map vehicle_in (map (λ c. None) os) ≡ map (λ p. None) ps
nobody-in [] [] e = refl
nobody-in [] (p ∷ ps) e = absurd (omega arith)
nobody-in (o ∷ os) [] e = absurd (omega arith)
nobody-in (o ∷ os) (p ∷ ps) e = ap (λ (vs : List (Option Vehicle)). None ∷ vs) (nobody-in os ps (omega arith))

module _ (net : NetSpec) (x : TileView) (tile : IsTileOf net x) where
  pub tile-pairs : ArePairs net x.own.places
  tile-pairs = subst (ArePairs net) (sym tile.places) (own-pairs net x.low x.high tile.roads.two)

  pub tile-lanes : AllLanes net x.own.places
  tile-lanes = subst (AllLanes net) (sym tile.places) (own-lanes net x.low x.high)

  pub tile-owns : (n : ℕ) → n < length x.own.places → is_own net x.low x.high (place_at x.own n) ≡ true
  tile-owns n h = filter-holds (is_own net x.low x.high) _ n (place_at x.own n) (subst (λ (ps : List Place). slice_get ps n ≡ Some (place_at x.own n)) tile.places (place-is x.own n h))

  pub changes-of : (own : Lanes) → Same x.own own → x.own.room ≤ own.room → ((m : Traffic) → IsOn net m → m.clock ≡ x.clock → LanesStand x.own.places x.own.lanes m → LanesStand own.places own.lanes (changed m)) → LanePhase net x (record x { own = own })
  unfolding changed
  changes-of own same room stand = record {
    clock = refl;
    arrived = refl;
    detectors = refl;
    goes = record {
      same = record { low = refl; high = refl; links = refl; own = same; sized = refl };
      handed = refl;
      coming = refl;
      room = room;
      stands = λ m on s. record { clock = s.clock; lanes = stand m on (sym s.clock) s.lanes; none_loose = same.loose ∙ s.none_loose; signals = s.signals };
    };
  }

  pub moves-of : (own : Lanes) (mouths : List Bool) (arrived : List ℕ) (left : List RecordRow) (detectors : List Detectors) → Same x.own own → x.own.room ≤ own.room
      → ((m : Traffic) → IsOn net m → m.clock ≡ x.clock → ShowSignals x.low x.high x.signals m → LanesStand x.own.places x.own.lanes m → LanesStand own.places own.lanes (driven m))
      → ((m : Traffic) → IsOn net m → m.clock ≡ x.clock → ShowSignals x.low x.high x.signals m → LanesStand x.own.places x.own.lanes m → arrived ≡ filter_map (λ p. arrival (leaver_of m p)) x.own.places)
      → ((m : Traffic) → IsOn net m → m.clock ≡ x.clock → ShowSignals x.low x.high x.signals m → LanesStand x.own.places x.own.lanes m → left ≡ filter_map (arrival_at m) x.own.places)
      → KeepMeters x.detectors detectors
      → ((m : Traffic) → IsOn net m → m.clock ≡ x.clock → ShowSignals x.low x.high x.signals m → LanesStand x.own.places x.own.lanes m → HaveWatched m x.own.places detectors)
      → ((m : Traffic) → LanesStand own.places own.lanes m → (j : ℕ) (p : Place) → slice_get own.places j ≡ Some p → mouth mouths p ≡ is_free (lane_at m p).track 0)
      → MotionPhase net x (record x { own = own; mouths = mouths; arrived = arrived; left = left; detectors = detectors })
  unfolding driven
  moves-of own mouths arrived left detectors same room stand gone rows keep watched shown = record {
    left = λ m on s. rows m on (sym s.clock) s.signals s.lanes;
    arrived = λ m on s. gone m on (sym s.clock) s.signals s.lanes;
    detectors = keep;
    watched = λ m on s. watched m on (sym s.clock) s.signals s.lanes;
    shown = λ m s. shown m s.lanes;
    goes = record {
      same = record { low = refl; high = refl; links = refl; own = same; sized = keep-sizes x.detectors detectors keep };
      handed = refl;
      coming = refl;
      room = room;
      stands = λ m on s. record { clock = s.clock; lanes = stand m on (sym s.clock) s.signals s.lanes; none_loose = same.loose ∙ s.none_loose; signals = s.signals };
    };
  }

  releasing : (view : List Bool) (m : Traffic) → IsOn net m → Shows net view m → TileStandsFor x m → IsReleasing net x.clock x.own view m
  releasing view m on shows s = record {
    on = on;
    in_time = sym s.clock;
    walk = subst (IsWalk m) (sym tile.places) (own-walk net tile.roads m on.network x.low x.high);
    stand = s.lanes;
    shows = shows;
  }

  pub releases-of : (view : List Bool) (own : Lanes) (mouths : List Bool) (handed : List Transfer) → Same x.own own → x.own.room ≤ own.room
      → ((m : Traffic) → IsReleasing net x.clock x.own view m → LanesStand own.places own.lanes (let_go m))
      → ((m : Traffic) → IsReleasing net x.clock x.own view m → handed ≡ filter_map (crossing m) x.own.places) → ReleasePhase net view x (record x { own = own; mouths = mouths; handed = handed })
  unfolding let_go
  releases-of view own mouths handed same room stand gone = record {
    same = record { low = refl; high = refl; links = refl; own = same; sized = refl };
    arrived = refl;
    left = refl;
    coming = refl;
    detectors = refl;
    room = room;
    stands = λ m on shows s. record { clock = s.clock; lanes = stand m (releasing view m on shows s); none_loose = same.loose ∙ s.none_loose; signals = s.signals };
    handed = λ m on shows s. gone m (releasing view m on shows s);
  }

  pub enters-of : (own : Lanes) → Same x.own own
      → ((m : Traffic) (entry : Place → Option Vehicle) → LanesStand x.own.places x.own.lanes m → x.coming ≡ map entry x.own.places → AllFree x.own.places m entry → LanesGo (λ p s. departed_lane x.clock (placed_lane entry p s)) m own.places own.lanes)
      → EnterPhase net x (record x { own = own; coming = nobody x })
  unfolding departed placed
  enters-of own same goes = record {
    clock = refl;
    same = record { low = refl; high = refl; links = refl; own = same; sized = refl };
    handed = refl;
    arrived = refl;
    left = refl;
    coming = refl;
    detectors = refl;
    stands = λ m entry on s coming free. record {
      clock = s.clock;
      none_loose = same.loose ∙ s.none_loose;
      signals = s.signals;
      lanes = λ k p l at is.
          let there = tile-lanes k p (rw same.places at at) in
          let gone = goes m entry s.lanes coming free k p l at is in
          let clock : x.clock ≡ m.clock = s.clock in
          subst (LaneStands l) (ap (λ c. departed_lane c (placed_lane entry p (lane_at m p))) clock ∙ sym (lane_at-entered net m on entry p there)) gone;
    };
  }
