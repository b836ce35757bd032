-- The spare keys in another order.
use Rattle.std.proofs.Common.{◌≡◌, ℕ, ◌≤◌, false, eqb, List, [], ◌∷◌, ◌++◌, Some, refl, sym, subst, ◌∙◌, arith, eq-eqb, vec_capacity, All}
use Rattle.std.specs.List.{IsDistinct, AllByRecursion}
use Rattle.std.specs.List.Sorted.{IsPermutation}
use Rattle.std.proofs.lemmas.Bool.{false≢true}
use Rattle.std.proofs.lemmas.List.Elements.{All-cons, All-head, All-tail}
use Rattle.std.proofs.lemmas.List.Sorted.{All-permutation}
use Rattle.std.proofs.lemmas.Map.Keys.{IsDistinct-IsPermutation}
use Rattle.street_base.proofs.Counting.{eqb-sym}
use Rattle.street_yard.specs.declared.yard.Yard.TheInside.{Inside}
use Rattle.street_yard.specs.Prelude.{Has, Away, IsApart}
use Rattle.street_yard.specs.Inside.{slot_in, vacant, IsLaidOut, IsSound}
use Rattle.street_yard.proofs.Keys.{has-later}
use Rattle.street_yard.proofs.LinkChanges.{IsDistinct-from_apart}

-- what holds of each of these keys

all-had : (P : ℕ → Type 0) (xs : List ℕ) → ((k : ℕ) → Has xs k → P k) → All P xs
all-had P [] h = λ k d lt. absurd (omega arith)
all-had P (x ∷ xs) h = All-cons P x xs (h x ([], xs, refl)) (all-had P xs (λ k on. h k (has-later x k xs on)))

had-all : (P : ℕ → Type 0) (us : List ℕ) (k : ℕ) (vs : List ℕ) → All P (us ++ k ∷ vs) → P k
had-all P [] k vs all = All-head P k vs all
had-all P (u ∷ us) k vs all = had-all P us k vs (All-tail P u (us ++ k ∷ vs) all)

-- keys that differ do so in any order

apart-from_distinct : (xs : List ℕ) → IsDistinct eqb xs → IsApart xs
unfolding IsDistinct
apart-from_distinct [] h = tt
apart-from_distinct (x ∷ xs) h = (away xs h.0, apart-from_distinct xs h.1)
  where
    away : (ys : List ℕ) → AllByRecursion (λ y. eqb x y ≡ false) ys → Away x ys
    away [] a = tt
    away (y ∷ ys) a = ((λ e. false≢true (sym a.0 ∙ eq-eqb x y e)), away ys a.1)

apart-permuted : (xs ys : List ℕ) → IsPermutation xs ys → IsApart xs → IsApart ys
apart-permuted xs ys moved h = apart-from_distinct ys (IsDistinct-IsPermutation eqb eqb-sym xs ys moved (IsDistinct-from_apart xs h))

-- nothing is seen of their order
module _ (y : Inside) (s : IsSound y) (spare : List ℕ) (moved : IsPermutation y.spare.items spare) where
  pub reordered-sound : (capacity : ℕ) → vec_capacity y.spare ≤ capacity → IsLaidOut y.hots y.slots.slots spare y.reached capacity y.rows
  reordered-sound capacity holds =
      let IsVacant : ℕ → Type 0 = λ k. slot_in y.slots.slots k ≡ Some vacant in
      let each = All-permutation IsVacant y.spare.items spare moved (all-had IsVacant y.spare.items s.spared) in
      record {
        stands = s.stands;
        within = s.within;
        placed = s.placed;
        below = s.below;
        few = s.few;
        few_lists = s.few_lists;
        spared = λ k h. had-all IsVacant h.0 k h.1 (subst (All IsVacant) h.2 each);
        apart = apart-permuted y.spare.items spare moved s.apart;
        holds_all = (let a = s.holds_all in omega arith);
      }
