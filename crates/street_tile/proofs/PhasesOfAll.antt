-- Phases of all tiles, one after another.
use Rattle.std.proofs.Common.{◌≡◌, ℕ, zero, suc, Bool, true, false, inl, inr, List, [], ◌∷◌, length, map, get_or, refl, sym, ◌∙◌, ap, subst, arith, Option, IsSome, All, filter_map}
use Rattle.street_base.specs.declared.net.NetSpec.{NetSpec}
use Rattle.street_base.specs.declared.names.Place.{Place}
use Rattle.street_base.specs.Prelude.{Vehicle, Traffic, LaneState, lane_at, giver, entering, released, departed, changed, driven, step, is_free}
use Rattle.street_base.proofs.FormLemmas.{each_lane-sizes, changed-formed, driven-formed, released-formed, departed-formed}
use Rattle.street_lanes.specs.Prelude.{AllLanes, AllFree, IsOn}
use Rattle.street_tile.specs.Prelude.{Transfer, crossing, entry_in, let_go, let_go_lane, TileView, own_places, IsRoads, IsTileOf, TileStandsFor, Each, AllStand, Shows, GoesBy, ReleasePhase, EnterPhase, ticked, all_handed, all_places, received}
use Rattle.street_tile.proofs.Rows.{InRow, AreInRow}
use Rattle.std.proofs.lemmas.Bool.{cases_Bool}
use Rattle.street_tile.proofs.OwnLanes.{own-lanes}
use Rattle.street_tile.proofs.Each.{released-halves, lane_at-each}
use Rattle.street_tile.proofs.LaneOwners.{handed-crossing, entries-are}

-- ---- the state stays one of the network

pub on-changed : (net : NetSpec) (m : Traffic) → IsOn net m → IsOn net (changed m)
unfolding changed
on-changed net m on = record { network = on.network; formed = changed-formed m on.formed }

pub on-driven : (net : NetSpec) (m : Traffic) → IsOn net m → IsOn net (driven m)
unfolding driven
on-driven net m on = record { network = on.network; formed = driven-formed m on.formed }

pub on-let_go : (net : NetSpec) (m : Traffic) → IsOn net m → IsOn net (let_go m)
unfolding let_go
on-let_go net m on = record {
  network = on.network;
  formed = record { lanes = each_lane-sizes (let_go_lane m) m.lanes (λ p lane. refl) ∙ on.formed.lanes; cells = on.formed.cells; turns = on.formed.turns };
}

pub on-entered : (net : NetSpec) (m : Traffic) → IsOn net m → IsOn net (departed (released m))
unfolding departed released
on-entered net m on = record { network = on.network; formed = departed-formed (released m) (released-formed m on.formed) }

pub on-ticked : (net : NetSpec) (m : Traffic) → IsOn net m → IsOn net (ticked m)
unfolding ticked
on-ticked net m on = record { network = on.network; formed = record { lanes = on.formed.lanes; cells = on.formed.cells; turns = on.formed.turns } }

-- ---- tiles stay the tiles that they were

pub tiles-of : (net : NetSpec) (low high : ℕ) (xs : List TileView) → InRow net low high xs → All (IsTileOf net) xs
tiles-of net low high [] r k d l = absurd (omega arith)
tiles-of net low high (x ∷ xs) r zero d l = r.0
tiles-of net low high (x ∷ xs) r (suc k) d l = tiles-of net x.high high xs r.3 k d (omega arith)

-- ---- phases compose

pub goes-all : (net : NetSpec) (f : Traffic → Traffic) (xs ys : List TileView) → length ys ≡ length xs → Each (GoesBy net f) xs ys → (m : Traffic) → IsOn net (f m) → AllStand net xs m → AllStand net ys (f m)
goes-all net f xs ys e each m on s = record { on = on; each = λ i d l. (each i d (omega arith)).stands m s.on (s.each i d (omega arith)) }

received-stands : (es : List Transfer) (y z : TileView) (m : Traffic) → z ≡ received es y → TileStandsFor y m → TileStandsFor z m
received-stands es y z m e s = subst (λ (t : TileView). TileStandsFor t m) (sym e) (record { clock = s.clock; lanes = s.lanes; none_loose = s.none_loose; signals = s.signals })

received-coming : (es : List Transfer) (entry : Place → Option Vehicle) (y z : TileView) → ((p : Place) → entry_in es p ≡ entry p) → z ≡ received es y → z.coming ≡ map entry z.own.places
received-coming es entry y z same e = subst (λ (t : TileView). t.coming ≡ map entry t.own.places) (sym e) (λ i. map (λ p. same p i) y.own.places)

-- who enters a lane finds its cell 0 free, and so it is when the fronts were let go
free-entering : (m : Traffic) (p : Place) → IsSome (entering m p) → is_free (lane_at m p).track 0 ≡ true
unfolding giver
free-entering m p some = elim (cases_Bool (is_free (lane_at m p).track 0)) as (λ _. is_free (lane_at m p).track 0 ≡ true) [
  | inl free ↦ free
  | inr shut ↦ (let none : false ≡ true = rw shut at some in cc)
]

free-after : (net : NetSpec) (m : Traffic) → IsOn net m → (ps : List Place) → AllLanes net ps → AllFree ps (let_go m) (entering m)
unfolding let_go
free-after net m on ps all k p at some = ap (λ (s : LaneState). is_free s.track 0) (lane_at-each net m on p (all k p at) (let_go_lane m)) ∙ free-entering m p some

-- releases, the move of hand-overs and entries, of all tiles
pub enters-all : (net : NetSpec) → IsRoads net → (view : List Bool) (xs ys zs ws : List TileView) → length ys ≡ length xs → length zs ≡ length xs → length ws ≡ length xs → AreInRow net xs
    → Each (ReleasePhase net view) xs ys → Each (λ y z. z ≡ received (all_handed ys) y) ys zs → Each (EnterPhase net) zs ws
    → (m : Traffic) → Shows net view m → AllStand net xs m → AllStand net ws (departed (released m))
enters-all net roads view xs ys zs ws a b c row releases moves enters m shows s =
    let handed : all_handed ys ≡ filter_map (crossing m) (all_places xs) = handed-crossing m xs ys a (λ i d l. (releases i d l).handed m s.on shows (s.each i d l)) in
    let same : (p : Place) → entry_in (all_handed ys) p ≡ entering m p = λ p. ap (λ (es : List Transfer). entry_in es p) handed ∙ entries-are net roads m s.on.network xs row p in
    record {
      on = on-entered net m s.on;
      each = λ i d l.
          let stood = (releases i d (omega arith)).stands m s.on shows (s.each i d (omega arith)) in
          let moved = moves i d (omega arith) in
          let came = (enters i d (omega arith)).stands (let_go m) (entering m) (on-let_go net m s.on) (received-stands (all_handed ys) (get_or ys i d) (get_or zs i d) (let_go m) moved stood) (received-coming (all_handed ys) (entering m) (get_or ys i d) (get_or zs i d) same moved) (subst (λ (ps : List Place). AllFree ps (let_go m) (entering m)) (sym (ap (λ (t : TileView). t.own.places) moved ∙ (releases i d (omega arith)).same.own.places ∙ (tiles-of net 0 (length net.nodes) xs row i d (omega arith)).places)) (free-after net m s.on (own_places net (get_or xs i d).low (get_or xs i d).high) (own-lanes net (get_or xs i d).low (get_or xs i d).high))) in
          subst (λ (t : Traffic). TileStandsFor (get_or ws i d) (departed t)) (sym (released-halves m)) came;
    }

-- the last phase ends the step
pub ends-step : (net : NetSpec) (xs : List TileView) (m : Traffic) → AllStand net xs (ticked (departed (released (driven (changed m))))) → AllStand net xs (step m)
unfolding step ticked departed released driven changed
ends-step net xs m s = record {
  on = record { network = s.on.network; formed = record { lanes = s.on.formed.lanes; cells = s.on.formed.cells; turns = s.on.formed.turns } };
  each = λ i d l. record { clock = (s.each i d l).clock; lanes = (s.each i d l).lanes; none_loose = (s.each i d l).none_loose; signals = (s.each i d l).signals };
}
