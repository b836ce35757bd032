-- Phases that change each lane by its place.
use Rattle.std.proofs.Common.{◌≡◌, ℕ, zero, suc, ◌+◌, ◌<◌, List, [], ◌∷◌, length, map, get_or, refl, sym, ◌∙◌, ap, arith, add-zero, Option}
use Rattle.std.specs.List.{enumerate_from}
use Rattle.street_base.specs.declared.net.NetSpec.{NetSpec}
use Rattle.street_base.specs.declared.names.Place.{Place}
use Rattle.street_base.specs.Prelude.{link_at, Traffic, LaneState, no_lane, lane_at, each_lane, Vehicle, released, entering, departed, departed_lane}
use Rattle.street_base.proofs.Counting.{shift}
use Rattle.street_base.proofs.CensusLemmas.{HasShape}
use Rattle.street_base.proofs.FormLemmas.{shape-of}
use Rattle.street_lanes.specs.Prelude.{IsLane, IsOn}
use Rattle.street_tile.specs.Prelude.{let_go, let_go_lane, placed, placed_lane}

pub enumerated-at : {A B : Type 0} (f : ℕ → A → B) (n : ℕ) (xs : List A) (k : ℕ) (d : A) (e : B) → k < length xs → get_or (map (λ x. f x.0 x.1) (enumerate_from n xs)) k e ≡ f (n + k) (get_or xs k d)
enumerated-at f n [] k d e h = absurd (omega arith)
enumerated-at f n (x ∷ xs) zero d e h = ap (λ i. f i x) (sym (add-zero n))
enumerated-at f n (x ∷ xs) (suc k) d e h = enumerated-at f (n + 1) xs k d e (omega arith) ∙ ap (λ i. f i (get_or xs k d)) (shift n k)

module _ (net : NetSpec) (m : Traffic) (on : IsOn net m) (p : Place) (there : IsLane net p) where
  pub shape : HasShape m
  shape = shape-of m on.formed

  pub links-long : p.link < length m.lanes
  links-long = let e : length m.network.links ≡ length net.links = ap (λ (n : NetSpec). length n.links) on.network in let l = shape.links in let h = there.0 in omega arith

  pub lanes-long : p.lane < length (get_or m.lanes p.link [])
  lanes-long = let e : (link_at m.network p.link).lanes ≡ (link_at net p.link).lanes = ap (λ (n : NetSpec). (link_at n p.link).lanes) on.network in let l = shape.lanes p.link in let h = there.1 in omega arith

  pub lane_at-each : (f : Place → LaneState → LaneState) → get_or (get_or (each_lane f m.lanes) p.link []) p.lane no_lane ≡ f p (lane_at m p)
  lane_at-each f =
      ap (λ (xs : List LaneState). get_or xs p.lane no_lane) (enumerated-at (λ i lanes. map (λ on. f (record { link = i; lane = on.0 }) on.1) (enumerate_from 0 lanes)) 0 m.lanes p.link [] [] links-long)
      ∙ enumerated-at (λ k lane. f (record { link = 0 + p.link; lane = k }) lane) 0 (get_or m.lanes p.link []) p.lane no_lane no_lane lanes-long
      ∙ ap (λ (q : Place). f q (lane_at m p)) at_zero
    where
      at_zero : ◌≡◌ {A = Place} (record { link = 0 + p.link; lane = 0 + p.lane }) p
      at_zero = let a : 0 + p.link ≡ p.link = omega arith in let b : 0 + p.lane ≡ p.lane = omega arith in rw (a, b) refl

-- ---- one phase after another

enumerated-twice : {A B C : Type 0} (f : ℕ → B → C) (g : ℕ → A → B) (h : ℕ → A → C) → ((i : ℕ) (x : A) → f i (g i x) ≡ h i x) → (n : ℕ) (xs : List A) → map (λ e. f e.0 e.1) (enumerate_from n (map (λ e. g e.0 e.1) (enumerate_from n xs))) ≡ map (λ e. h e.0 e.1) (enumerate_from n xs)
enumerated-twice f g h same n [] = refl
enumerated-twice {A} {B} {C} f g h same n (x ∷ xs) =
    ap (λ (y : C). y ∷ map (λ e. f e.0 e.1) (enumerate_from (n + 1) (map (λ e. g e.0 e.1) (enumerate_from (n + 1) xs)))) (same n x)
    ∙ ap (λ (ys : List C). h n x ∷ ys) (enumerated-twice f g h same (n + 1) xs)

pub each_lane-twice : (f g : Place → LaneState → LaneState) (links : List (List LaneState)) → each_lane f (each_lane g links) ≡ each_lane (λ p lane. f p (g p lane)) links
each_lane-twice f g links =
    enumerated-twice (λ i lanes. map (λ on. f (record { link = i; lane = on.0 }) on.1) (enumerate_from 0 lanes)) (λ i lanes. map (λ on. g (record { link = i; lane = on.0 }) on.1) (enumerate_from 0 lanes)) (λ i lanes. map (λ on. f (record { link = i; lane = on.0 }) (g (record { link = i; lane = on.0 }) on.1)) (enumerate_from 0 lanes))
    (λ i lanes. enumerated-twice (λ k lane. f (record { link = i; lane = k }) lane) (λ k lane. g (record { link = i; lane = k }) lane) (λ k lane. f (record { link = i; lane = k }) (g (record { link = i; lane = k }) lane)) (λ k lane. refl) 0 lanes)
    0 links

-- the two halves are the release phase
pub released-halves : (m : Traffic) → released m ≡ placed (entering m) (let_go m)
unfolding released placed let_go
released-halves m = ap (λ (lanes : List (List LaneState)). record m { lanes = lanes }) (sym (each_lane-twice (placed_lane (entering m)) (let_go_lane m) m.lanes))

-- a lane after entries and departures
pub lane_at-entered : (net : NetSpec) (m : Traffic) → IsOn net m → (entry : Place → Option Vehicle) (p : Place) → IsLane net p → lane_at (departed (placed entry m)) p ≡ departed_lane m.clock (placed_lane entry p (lane_at m p))
unfolding departed placed
lane_at-entered net m on entry p there =
    ap (λ (lanes : List (List LaneState)). get_or (get_or lanes p.link []) p.lane no_lane) (each_lane-twice (λ q lane. departed_lane m.clock lane) (placed_lane entry) m.lanes)
    ∙ lane_at-each net m on p there (λ q lane. departed_lane m.clock (placed_lane entry q lane))
