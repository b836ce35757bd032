-- Tiles that are made one after another.
use Rattle.std.proofs.Common.{◌≡◌, ℕ, ◌+◌, ◌<◌, ◌≤◌, List, [], ◌∷◌, ◌++◌, length, get_or, sym, ◌∙◌, subst, arith, inl, inr}
use Rattle.std.proofs.lemmas.Bool.{cases_eq}
use Rattle.std.proofs.lemmas.List.{get_or_append_left, get_or_push}
use Rattle.street_base.specs.declared.net.NetSpec.{NetSpec}
use Rattle.street_base.specs.Prelude.{loaded}
use Rattle.street_tile.specs.Prelude.{TileView, IsShare, IsIdle, TileStandsFor, AreTiles, MetersStand, AllMetersStand}

-- a tile with its share of the nodes, and nobody on it
pub record IsMade (net : NetSpec) (k i : ℕ) (x : TileView) : Type 0 where
  pub share : IsShare net k i x
  pub idle : IsIdle x
  pub stands : TileStandsFor x (loaded net)
  pub meters : MetersStand x (loaded net)

-- the tiles before i are made
pub record AreMade (net : NetSpec) (k i : ℕ) (xs : List TileView) : Type 0 where
  pub long : length xs ≡ i
  pub each : (j : ℕ) (d : TileView) → j < i → IsMade net k j (get_or xs j d)

pub made-more : (net : NetSpec) (k i : ℕ) (xs ys : List TileView) (x : TileView) → ys ≡ xs ++ x ∷ [] → length ys ≡ i + 1 → AreMade net k i xs → IsMade net k i x → AreMade net k (i + 1) ys
made-more net k i xs ys x e l made this = record {
  long = l;
  each = λ j d h. subst (λ zs. IsMade net k j (get_or zs j d)) (sym e) (elim (cases_eq j i) as (λ _. IsMade net k j (get_or (xs ++ x ∷ []) j d)) [
    | inl here ↦ (let at_end : length xs ≡ j = made.long ∙ sym here in subst (IsMade net k j) (sym (get_or_push xs x d j at_end)) (subst (λ n. IsMade net k n x) (sym here) this))
    | inr other ↦ (let long = made.long in subst (IsMade net k j) (sym (get_or_append_left xs (x ∷ []) d j (omega arith))) (made.each j d (omega arith)))
  ]);
}

module _ (net : NetSpec) (k i : ℕ) (xs : List TileView) (made : AreMade net k i xs) (all : k ≤ i) (none_more : i ≤ k) where
  pub made-tiles : 0 < k → k ≤ length net.nodes → AreTiles net xs
  made-tiles some few =
      let long = made.long in
      let count : length xs ≡ k = omega arith in
      record {
        some = omega arith;
        few = omega arith;
        shares = λ j d h. subst (λ n. IsShare net n j (get_or xs j d)) (sym count) (made.each j d (omega arith)).share;
      }

  pub made-meters : AllMetersStand xs (loaded net)
  made-meters j d h = let long = made.long in (made.each j d (omega arith)).meters
