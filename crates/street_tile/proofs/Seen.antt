-- Where a number is, in whatever order the tiles are asked.
use Rattle.std.proofs.Common.{◌≡◌, ℕ, suc, ◌+◌, ◌<◌, Bool, true, false, List, [], ◌∷◌, length, get_or, refl, sym, ◌∙◌, ap, subst, arith, inl, inr, Option, Some, None, find, position, filter_map, slice_get, ◌==◌, sum_by}
use Rattle.std.specs.List.{list_any, position_or_len}
use Rattle.std.proofs.lemmas.Bool.{cases_Bool, cases_lt, cond-true, cond-false, or_cases, or_left, or_right, lt-leb}
use Rattle.std.proofs.lemmas.List.Folds.{list_any-append}
use Rattle.std.proofs.lemmas.List.Sums.{sum_by-cons, sum_by-set, passes_at_first}
use Rattle.street_base.specs.declared.net.NetSpec.{NetSpec}
use Rattle.street_base.specs.declared.reply.Whereabouts.{Whereabouts}
use Rattle.street_base.specs.declared.names.Place.{Place}
use Rattle.street_base.specs.Prelude.{is_place, places, Vehicle, Traffic, LaneState, Queued, Waiting, lane_at, weight, in_lane, IsSoundTraffic, is_number, whereabouts_in, whereabouts_on_lanes}
use Rattle.street_base.proofs.ReleaseLemmas.{is_place-same, is_place-refl}
use Rattle.street_lanes.specs.Prelude.{IsLane}
use Rattle.street_tile.specs.Prelude.{TileView, IsTileOf, AreTiles, AllStand, HaveNot, HaveAtMostOne, Finds, WhereOnce, all_places, TilesView, TilesStandFor, OwnsLink, TileHasNot}
use Rattle.street_tile.proofs.OwnLanes.{lane-of}
use Rattle.street_tile.proofs.Rows.{in-row, roads-of}
use Rattle.street_tile.proofs.PublishedView.{any-at, some-tile}
use Rattle.street_tile.proofs.PhasesOfAll.{tiles-of}
use Rattle.street_tile.proofs.Numbers.{own-number}
use Rattle.street_tile.proofs.Ones.{on-one, have-one}
use Rattle.street_tile.proofs.TileCommands.{own-at, not-at}
use Rattle.street_tile.proofs.Together.{IsTileAt, stands-seen, at-list, at-call, owns-any}

-- ---- where a lane has it not, nothing is seen of it there

find-none : {A : Type 0} (test : A → Bool) (f : A → ℕ) → ((x : A) → test x ≡ true → f x ≡ 1) → (xs : List A) → sum_by f xs ≡ 0 → find test xs ≡ None
find-none test f one [] z = refl
find-none test f one (x ∷ xs) z =
    let cons = sum_by-cons f x xs in
    let rest : sum_by f xs ≡ 0 = omega arith in
    elim (cases_Bool (test x)) as (λ _. find test (x ∷ xs) ≡ None) [
      | inl t ↦ absurd (let h = one x t in omega arith)
      | inr t ↦ cond-false _ _ _ t ∙ find-none test f one xs rest
    ]

module _ (net : NetSpec) (place : Place) (car : ℕ) where
  one-cell : (o : Option Vehicle) → is_number net place car o ≡ true → weight car o ≡ 1
  one-cell None e = cc
  one-cell (Some v) e = cond-true _ _ _ e

  no-cell : (cells : List (Option Vehicle)) → sum_by (weight car) cells ≡ 0 → position (is_number net place car) cells ≡ None
  no-cell cells z =
      let test : Option Vehicle → Bool = is_number net place car in
      let at = position_or_len test cells in
      elim (cases_lt at (length cells)) as (λ _. position test cells ≡ None) [
        | inl within ↦ absurd (
            let found : test (get_or cells at None) ≡ true = passes_at_first test cells None within in
            let one = one-cell (get_or cells at None) found in
            let split = sum_by-set (weight car) cells at None None within in
            omega arith)
        | inr past ↦ cond-false _ _ _ (lt-leb (suc at) (length cells) (omega arith))
      ]

  pub zero-unseen : (lane : LaneState) → in_lane car lane ≡ 0 → whereabouts_in net place car lane ≡ None
  unfolding whereabouts_in
  zero-unseen lane z =
      let cells = no-cell lane.track.cells (omega arith) in
      let queue = find-none (λ (q : Queued). q.vehicle.number == car) (λ q. weight car (Some q.vehicle)) (λ q t. cond-true _ _ _ t) lane.queue (omega arith) in
      let waiting = find-none (λ (w : Waiting). w.vehicle.number == car) (λ w. weight car (Some w.vehicle)) (λ w t. cond-true _ _ _ t) lane.waiting (omega arith) in
      rw (cells, queue, waiting) refl

  pub seen-some : (lane : LaneState) (w : Whereabouts) → whereabouts_in net place car lane ≡ Some w → 0 < in_lane car lane
  seen-some lane w e = elim (cases_lt 0 (in_lane car lane)) as (λ _. 0 < in_lane car lane) [
    | inl some ↦ some
    | inr none ↦ absurd (let unseen = zero-unseen lane (omega arith) in let bad : ◌≡◌ {A = Option Whereabouts} None (Some w) = sym unseen ∙ e in cc)
  ]

-- ---- the first of all lanes

first-only : (h : Place → Option Whereabouts) (ps : List Place) (p : Place) (w : Whereabouts) → list_any (is_place p) ps ≡ true → h p ≡ Some w → ((q : Place) → list_any (is_place q) ps ≡ true → is_place p q ≡ false → h q ≡ None) → slice_get (filter_map h ps) 0 ≡ Some w
first-only h [] p w among is none = cc
first-only h (r ∷ ps) p w among is none = elim (cases_Bool (is_place p r)) as (λ _. slice_get (filter_map h (r ∷ ps)) 0 ≡ Some w) [
  | inl here ↦ (let hr : h r ≡ Some w = ap h (sym (is_place-same p r here)) ∙ is in rw hr refl)
  | inr on ↦ (
      let hr : h r ≡ None = none r (or_left (is_place r r) _ (is_place-refl r)) on in
      let rest : list_any (is_place p) ps ≡ true = rw on at among in
      rw hr (first-only h ps p w rest is (λ q a ne. none q (or_right (is_place q r) _ a) ne)))
]

all-none : (h : Place → Option Whereabouts) (ps : List Place) → ((q : Place) → list_any (is_place q) ps ≡ true → h q ≡ None) → slice_get (filter_map h ps) 0 ≡ None
all-none h [] none = refl
all-none h (r ∷ ps) none =
    let hr : h r ≡ None = none r (or_left (is_place r r) _ (is_place-refl r)) in
    rw hr (all-none h ps (λ q a. none q (or_right (is_place q r) _ a)))

-- ---- asked tile by tile

-- a lane of one of the tiles
tile-with : (p : Place) (xs : List TileView) → list_any (is_place p) (all_places xs) ≡ true → (k : ℕ) × (k < length xs) × ((d : TileView) → list_any (is_place p) (get_or xs k d).own.places ≡ true)
tile-with p [] e = cc
tile-with p (x ∷ xs) e = elim (or_cases (list_any (is_place p) (all_places xs)) (list_any (is_place p) x.own.places) (sym (list_any-append (is_place p) (all_places xs) x.own.places) ∙ e)) as (λ _. (k : ℕ) × (k < length (x ∷ xs)) × ((d : TileView) → list_any (is_place p) (get_or (x ∷ xs) k d).own.places ≡ true)) [
  | inl later ↦ (let r = tile-with p xs later in let h = r.1 in (suc r.0, omega arith, r.2))
  | inr here ↦ (0, omega arith, λ d. here)
]

module _ (net : NetSpec) (xs : List TileView) (tiles : AreTiles net xs) (number : ℕ) where
  module _ {here : NetSpec} {v : TilesView} {i : ℕ} {x : TileView} (t : IsTileAt net here xs v i x) where
    tile : IsTileOf net (get_or xs i x)
    tile = tiles-of net 0 (length net.nodes) xs (in-row net xs tiles) i x t.within

    -- a tile's lanes have it at most once
    pub one-at : (m : Traffic) → IsSoundTraffic m → TilesStandFor v m → HaveAtMostOne x.own.places m number
    one-at m sound s = have-one net x number m (subst (IsTileOf net) (sym t.is) tile) (stands-seen net xs v m t.seen s).lanes.on sound.whole

    -- one tile has found it
    pub found-seen : (m : Traffic) → IsSoundTraffic m → TilesStandFor v m → (w : Whereabouts) → Finds here x.own.places m number (Some w) → whereabouts_on_lanes m number ≡ Some w
    unfolding whereabouts_on_lanes
    found-seen m sound s w finds =
        let found = at-list t (λ n u. Finds n u.own.places m number (Some w)) finds in
        let p = found.1 in
        let of_p = own-at net (get_or xs i x) tile found.0 p found.2 in
        let net_is = (stands-seen net xs v m t.seen s).lanes.on.network in
        let among : list_any (is_place p) (places m.network) ≡ true = subst (λ (n : NetSpec). list_any (is_place p) (places n) ≡ true) (sym net_is) of_p.0 in
        let is : whereabouts_in m.network p number (lane_at m p) ≡ Some w = subst (λ (n : NetSpec). whereabouts_in n p number (lane_at m p) ≡ Some w) (sym net_is) found.3 in
        let some = seen-some net p number (lane_at m p) w found.3 in
        first-only (λ q. whereabouts_in m.network q number (lane_at m q)) (places m.network) p w among is (λ q a ne. zero-unseen m.network q number (lane_at m q) (on-one m sound.formed sound.whole number p q ne among a some))

    -- a lane of one tile has it
    pub found-on-seen : (m : Traffic) → IsSoundTraffic m → TilesStandFor v m → (p : Place) (w : Whereabouts) → IsLane v.network p → OwnsLink v i p.link → ◌≡◌ {A = Option Whereabouts} (Some w) (whereabouts_in here p number (lane_at m p)) → ◌≡◌ {A = Option Whereabouts} (Some w) (whereabouts_on_lanes m number)
    found-on-seen m sound s p w lane own is =
        let there : IsLane net p = subst (λ (u : TilesView). IsLane u.network p) (sym t.seen) lane in
        let at = own-number net (get_or xs i x) p tile there (owns-any t p.link p own refl x) in
        let listed = at-call t (λ n u. slice_get u.own.places at.0 ≡ Some p) at.1 in
        sym (found-seen m sound s w (at.0, p, listed, sym is))

    -- one more tile has it not
    pub not-next : ((k : ℕ) → k < i → TileHasNot v k number) → WhereOnce here x number (λ m. HaveNot x.own.places m number) → (k : ℕ) → k < i + 1 → TileHasNot v k number
    not-next before none k l =
        let none_listed = at-list t (λ n u. WhereOnce n u number (λ m. HaveNot u.own.places m number)) none in
        subst (λ (u : TilesView). TileHasNot u k number) t.seen (λ m whole s d. elim (cases_lt k i) as (λ _. HaveNot (get_or xs k d).own.places m number) [
          | inl earlier ↦ subst (λ (u : TilesView). TileHasNot u k number) (sym t.seen) (before k earlier) m whole s d
          | inr last ↦ (
              let same : k ≡ i = omega arith in
              subst (λ (j : ℕ). HaveNot (get_or xs j d).own.places m number) (sym same) (not-at net number xs i x tiles t.within none_listed m whole s d))
        ])

  -- no tile has it
  pub nowhere-seen : (m : Traffic) → AllStand net xs m → ((k : ℕ) (d : TileView) → k < length xs → HaveNot (get_or xs k d).own.places m number) → whereabouts_on_lanes m number ≡ None
  unfolding whereabouts_on_lanes
  nowhere-seen m s none = all-none (λ q. whereabouts_in m.network q number (lane_at m q)) (places m.network) unseen
    where
      first-part : (ys : List TileView) → 0 < length ys → TileView
      first-part [] h = absurd (omega arith)
      first-part (y ∷ ys) h = y

      unseen : (q : Place) → list_any (is_place q) (places m.network) ≡ true → whereabouts_in m.network q number (lane_at m q) ≡ None
      unseen q a =
          let there : list_any (is_place q) (places net) ≡ true = subst (λ (n : NetSpec). list_any (is_place q) (places n) ≡ true) s.on.network a in
          let tile = tile-with q xs (some-tile net (roads-of net xs tiles) xs (in-row net xs tiles) q (lane-of net q there)) in
          let d : TileView = first-part xs tiles.some in
          let at = any-at q (get_or xs tile.0 d).own.places (tile.2 d) in
          zero-unseen m.network q number (lane_at m q) (none tile.0 d tile.1 at.0 q at.1)
