-- The view, tile after tile.
use Rattle.std.proofs.Common.{◌≡◌, ℕ, zero, suc, ◌+◌, ◌*◌, ◌<◌, ◌≤◌, Bool, true, false, List, [], ◌∷◌, ◌++◌, length, take, get_or, sym, ◌∙◌, ap, arith, inl, inr, Some, slice_get, ◌||◌}
use Rattle.std.specs.List.{list_any}
use Rattle.std.proofs.lemmas.Bool.{cases_Bool, or_cases, true_from_ne_false}
use Rattle.std.proofs.lemmas.List.{take_more, take_all, append_assoc, append-nil}
use Rattle.std.proofs.lemmas.List.Folds.{list_any-append}
use Rattle.street_base.specs.declared.net.NetSpec.{NetSpec}
use Rattle.street_base.specs.declared.names.Place.{Place}
use Rattle.street_base.specs.Prelude.{is_place, is_free, Traffic, lane_at}
use Rattle.street_base.proofs.ReleaseLemmas.{is_place-same}
use Rattle.street_base.proofs.PlaceLemmas.{places-listed}
use Rattle.street_lanes.specs.Prelude.{IsLane}
use Rattle.street_tile.specs.Prelude.{Transfer, TileView, IsRoads, TileStandsFor, AllStand, Shows, all_places, all_handed}
use Rattle.street_net.specs.Prelude.{mouth}
use Rattle.street_tile.proofs.Rows.{AreInRow}
use Rattle.street_node.proofs.BufferWalk.{none-times}
use Rattle.street_tile.proofs.LaneOwners.{tiles-once}

pub all_places-push : (xs : List TileView) (x : TileView) → all_places (xs ++ x ∷ []) ≡ x.own.places ++ all_places xs
all_places-push [] x = sym (append-nil x.own.places)
all_places-push (y ∷ ys) x = ap (λ (ps : List Place). ps ++ y.own.places) (all_places-push ys x) ∙ append_assoc x.own.places (all_places ys) y.own.places

pub all_handed-push : (xs : List TileView) (x : TileView) → all_handed (xs ++ x ∷ []) ≡ x.handed ++ all_handed xs
all_handed-push [] x = sym (append-nil x.handed)
all_handed-push (y ∷ ys) x = ap (λ (es : List Transfer). es ++ y.handed) (all_handed-push ys x) ∙ append_assoc x.handed (all_handed ys) y.handed

pub any-at : (q : Place) (ps : List Place) → list_any (is_place q) ps ≡ true → (j : ℕ) × (slice_get ps j ≡ Some q)
any-at q [] e = cc
any-at q (p ∷ ps) e = elim (or_cases (is_place q p) (list_any (is_place q) ps) e) as (λ _. (j : ℕ) × (slice_get (p ∷ ps) j ≡ Some q)) [
  | inl here ↦ (zero, ap (λ (x : Place). Some x) (sym (is_place-same q p here)))
  | inr on ↦ (let rest = any-at q ps on in (suc rest.0, rest.1))
]

-- each lane of the network is some tile's
pub some-tile : (net : NetSpec) → IsRoads net → (xs : List TileView) → AreInRow net xs → (p : Place) → IsLane net p → list_any (is_place p) (all_places xs) ≡ true
some-tile net roads xs row p there = true_from_ne_false (list_any (is_place p) (all_places xs)) (λ away.
    let once = tiles-once net roads xs row p (places-listed net p there.1) in
    let none = none-times p (all_places xs) away in
    absurd (omega arith))

module _ (net : NetSpec) (xs : List TileView) where
  -- the lanes of the tiles before i are shown
  pub record IsPublished (i : ℕ) (view : List Bool) : Type 0 where
    pub wide : length view ≡ 2 * length net.links
    pub shown : (m : Traffic) → AllStand net xs m → (p : Place) → IsLane net p → list_any (is_place p) (all_places (take i xs)) ≡ true → mouth view p ≡ is_free (lane_at m p).track 0

  pub published-start : (view : List Bool) → length view ≡ 2 * length net.links → IsPublished 0 view
  published-start view wide = record { wide = wide; shown = λ m s p there e. cc }

  pub published-next : (i : ℕ) (view after : List Bool) (d : TileView) → i < length xs → IsPublished i view → length after ≡ length view
      → ((m : Traffic) → TileStandsFor (get_or xs i d) m → (j : ℕ) (p : Place) → slice_get (get_or xs i d).own.places j ≡ Some p → mouth after p ≡ is_free (lane_at m p).track 0)
      → ((p : Place) → IsLane net p → list_any (is_place p) (get_or xs i d).own.places ≡ false → mouth after p ≡ mouth view p) → IsPublished (i + 1) after
  published-next i view after d h before wide own rest = record {
    wide = wide ∙ before.wide;
    shown = λ m s p there e. elim (cases_Bool (list_any (is_place p) (get_or xs i d).own.places)) as (λ _. mouth after p ≡ is_free (lane_at m p).track 0) [
      | inl here ↦ (let at = any-at p (get_or xs i d).own.places here in own m (s.each i d h) at.0 p at.1)
      | inr away ↦ (
          let split : list_any (is_place p) (all_places (take (i + 1) xs)) ≡ (list_any (is_place p) (get_or xs i d).own.places || list_any (is_place p) (all_places (take i xs))) =
          ap (λ (ys : List TileView). list_any (is_place p) (all_places ys)) (take_more xs i d h) ∙ ap (list_any (is_place p)) (all_places-push (take i xs) (get_or xs i d)) ∙ list_any-append (is_place p) (get_or xs i d).own.places (all_places (take i xs)) in
          let on : list_any (is_place p) (all_places (take i xs)) ≡ true = rw away at (sym split ∙ e) in
          rest p there away ∙ before.shown m s p there on)
    ];
  }

  pub published-all : IsRoads net → AreInRow net xs → (i : ℕ) (view : List Bool) → length xs ≤ i → IsPublished i view → (m : Traffic) → AllStand net xs m → Shows net view m
  published-all roads row i view all done m s = λ p a b. done.shown m s p (a, b) (ap (λ (ys : List TileView). list_any (is_place p) (all_places ys)) (take_all i xs all) ∙ some-tile net roads xs row p (a, b))
