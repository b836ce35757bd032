-- A number of those who arrived, taken from the first tile that holds one.
use Rattle.std.proofs.Common.{◌≡◌, ℕ, zero, suc, ◌<◌, List, [], ◌∷◌, ◌++◌, length, set, get_or, refl, sym, ◌∙◌, ap, subst, arith, inl, inr, Option, Some, None, IfSome, option_to_list}
use Rattle.std.proofs.lemmas.Bool.{cases_eq}
use Rattle.std.proofs.lemmas.List.{append_assoc, append-nil, get_or-set_same, get_or-set_other, get_or_default, set-get_or, length-set}
use Rattle.street_base.specs.declared.net.NetSpec.{NetSpec}
use Rattle.street_tile.specs.Prelude.{TileView, Each, TilesView, tiles_of, all_arrived, SameButArrived, TakesArrival, TakesArrivalOf}
use Rattle.street_tile.proofs.Together.{IsTileAt}

arrived-popped : (xs : List TileView) (i : ℕ) (y : TileView) (n : ℕ) → i < length xs → ((k : ℕ) (d : TileView) → k < i → (get_or xs k d).arrived ≡ []) → ((d : TileView) → (get_or xs i d).arrived ≡ y.arrived ++ n ∷ []) → all_arrived xs ≡ all_arrived (set xs i y) ++ n ∷ []
arrived-popped [] i y n h none rest = absurd (omega arith)
arrived-popped (x ∷ xs) zero y n h none rest = ap (λ (ns : List ℕ). all_arrived xs ++ ns) (rest x) ∙ sym (append_assoc (all_arrived xs) y.arrived (n ∷ []))
arrived-popped (x ∷ xs) (suc i) y n h none rest =
    let empty : x.arrived ≡ [] = none 0 x (omega arith) in
    let later = arrived-popped xs i y n (omega arith) (λ k d l. none (suc k) d (omega arith)) rest in
    ap (λ (ns : List ℕ). all_arrived xs ++ ns) empty ∙ append-nil (all_arrived xs) ∙ later
    ∙ ap (λ (ns : List ℕ). ns ++ n ∷ []) (sym (append-nil (all_arrived (set xs i y))) ∙ ap (λ (ns : List ℕ). all_arrived (set xs i y) ++ ns) (sym empty))

pub takes-arrival : (x y : TilesView) (i n : ℕ) → i < length x.tiles → ((k : ℕ) (d : TileView) → k < i → (get_or x.tiles k d).arrived ≡ []) → TakesArrivalOf i n x y → TakesArrival n x y
takes-arrival x y i n h none takes =
    let z : TileView = takes.new in
    let changed : Each SameButArrived x.tiles (set x.tiles i z) = λ k d l. elim (cases_eq k i) as (λ _. SameButArrived (get_or x.tiles k d) (get_or (set x.tiles i z) k d)) [
      | inl here ↦ (
          let is : get_or (set x.tiles i z) k d ≡ z = rw here (get_or-set_same x.tiles i z d h) in
          let was : get_or x.tiles k d ≡ takes.old = ap (λ (j : ℕ). get_or x.tiles j d) here ∙ takes.at d in
          subst (SameButArrived (get_or x.tiles k d)) (sym is) (subst (λ (t : TileView). SameButArrived t z) (sym was) takes.same))
      | inr other ↦ subst (SameButArrived (get_or x.tiles k d)) (sym (get_or-set_other x.tiles i k z d other)) refl
    ] in
    record {
      network = takes.network;
      long = ap length takes.tiles ∙ length-set x.tiles i z;
      tiles = subst (λ (ts : List TileView). Each SameButArrived x.tiles ts) (sym takes.tiles) changed;
      rest = arrived-popped x.tiles i z n h none (λ d. ap (λ (t : TileView). t.arrived) (takes.at d) ∙ takes.rest) ∙ ap (λ (ts : List TileView). all_arrived ts ++ n ∷ []) (sym takes.tiles);
    }

module _ {net here : NetSpec} {xs : List TileView} {v : TilesView} {i : ℕ} {x : TileView} (t : IsTileAt net here xs v i x) (y : TileView) (only : SameButArrived x y) where
  pub popped-of : (o : Option ℕ) → x.arrived ≡ y.arrived ++ option_to_list o → IfSome o (λ n. TakesArrivalOf i n v (tiles_of net (set xs i y)))
  popped-of None rest = tt
  popped-of (Some n) rest = subst (λ (u : TilesView). TakesArrivalOf i n u (tiles_of net (set xs i y))) t.seen (record {
    network = refl;
    old = x;
    new = y;
    at = λ d. get_or_default xs i d x t.within ∙ sym t.is;
    tiles = refl;
    same = only;
    rest = rest;
  })

  pub popped-none : (o : Option ℕ) → o ≡ None → x.arrived ≡ y.arrived ++ option_to_list o → tiles_of net (set xs i y) ≡ v
  popped-none o none rest =
      let arrived : y.arrived ≡ x.arrived = sym (append-nil y.arrived) ∙ ap (λ (p : Option ℕ). y.arrived ++ option_to_list p) (sym none) ∙ sym rest in
      let same : y ≡ x = only ∙ ap (λ (ns : List ℕ). record x { arrived = ns }) arrived in
      ap (λ (ts : List TileView). tiles_of net ts) (ap (set xs i) (same ∙ t.is) ∙ set-get_or xs i x) ∙ t.seen
