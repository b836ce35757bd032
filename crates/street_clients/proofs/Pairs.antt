-- Two scripts that were run.
use Rattle.std.proofs.Common.{◌≡◌, ◌∙◌, ℕ, ◌<◌, zero, suc, List, [], ◌∷◌, ◌++◌, length, take, All, slice_index_or, Option, Some, None, IfSome, option_to_list, refl, sym, ap, subst, arith, length-append}
use Rattle.std.specs.Option.{option_zip}
use Rattle.std.proofs.Math.Seq.{take-append_seam}
use Rattle.street_desk.specs.Passes.{DeskView}
use Rattle.street_line.specs.declared.script.Script.{Script}
use Rattle.street_line.specs.Scripts.{IsRun}

module _ {S : Type 0} where
  none_left : (xs : List S) → length xs ≡ 0 → xs ≡ []
  none_left [] e = refl
  none_left (x ∷ xs) e = absurd (omega arith)

  -- of two elements these are the last and the one before
  both : (all middle front rest : List S) (n : ℕ) (x y : S) → length all ≡ 2 → n ≡ 2
      → take n (all ++ rest) ≡ middle ++ y ∷ [] → middle ≡ front ++ x ∷ [] → all ≡ x ∷ y ∷ []
  both all middle front rest n x y two same last before =
      let kept : take n (all ++ rest) ≡ all = ap (λ k. take k (all ++ rest)) (same ∙ sym two) ∙ take-append_seam all rest in
      let whole : all ≡ (front ++ x ∷ []) ++ y ∷ [] = sym kept ∙ last ∙ ap (λ (l : List S). l ++ y ∷ []) before in
      let none : front ≡ [] = none_left front (omega (arith, ap (λ (l : List S). length l) whole, length-append (front ++ x ∷ []) (y ∷ []), length-append front (x ∷ []))) in
      whole ∙ ap (λ (l : List S). (l ++ x ∷ []) ++ y ∷ []) none

  -- so where both were taken
  pub both_taken : (all middle front rest : List S) (n : ℕ) (x y : Option S) (both_of : Option (S × S)) → length all ≡ 2 → n ≡ 2
      → take n (all ++ rest) ≡ middle ++ option_to_list y → middle ≡ front ++ option_to_list x → both_of ≡ option_zip x y
      → IfSome both_of (λ p. all ≡ p.0 ∷ p.1 ∷ [])
  both_taken all middle front rest n (Some x) (Some y) both_of two same last before is =
      subst (λ (o : Option (S × S)). IfSome o (λ p. all ≡ p.0 ∷ p.1 ∷ [])) (sym is) (both all middle front rest n x y two same last before)
  both_taken all middle front rest n (Some x) None both_of two same last before is = subst (λ (o : Option (S × S)). IfSome o (λ p. all ≡ p.0 ∷ p.1 ∷ [])) (sym is) tt
  both_taken all middle front rest n None y both_of two same last before is = subst (λ (o : Option (S × S)). IfSome o (λ p. all ≡ p.0 ∷ p.1 ∷ [])) (sym is) tt

  all_two : (P : S → Type 0) (a b : S) → P a → P b → All P (a ∷ b ∷ [])
  all_two P a b p q = at
    where
      at : (k : ℕ) (d : S) → k < length (a ∷ b ∷ []) → P (slice_index_or (a ∷ b ∷ []) k d)
      at zero d h = p
      at (suc zero) d h = q
      at (suc (suc k)) d h = absurd (omega arith)

module _ {R : Type 0} where
  both_ran : (old new : List (Script R)) (a b x y : Script R) → old ≡ a ∷ b ∷ [] → new ≡ x ∷ y ∷ []
      → ((i : ℕ) (d : Script R) → i < length old → IsRun (slice_index_or old i d) (slice_index_or new i d)) → IsRun a x × IsRun b y
  both_ran old new a b x y was is each =
      let ran = subst (λ (l : List (Script R)). (i : ℕ) (d : Script R) → i < length l → IsRun (slice_index_or l i d) (slice_index_or (x ∷ y ∷ []) i d)) was
      (subst (λ (l : List (Script R)). (i : ℕ) (d : Script R) → i < length old → IsRun (slice_index_or old i d) (slice_index_or l i d)) is each) in
      (ran 0 a (omega arith), ran 1 a (omega arith))

  both_stay : (old new : List (Script R)) (a b x y : Script R) → old ≡ a ∷ b ∷ [] → new ≡ x ∷ y ∷ []
      → ((desk : DeskView) → All (λ s. s.session.desk ≡ desk) old → All (λ s. s.session.desk ≡ desk) new)
      → (desk : DeskView) → a.session.desk ≡ desk → b.session.desk ≡ desk → (x.session.desk ≡ desk) × (y.session.desk ≡ desk)
  both_stay old new a b x y was is stay desk p q =
      let had = subst (λ (l : List (Script R)). All (λ s. s.session.desk ≡ desk) l) (sym was) (all_two (λ s. s.session.desk ≡ desk) a b p q) in
      let has = subst (λ (l : List (Script R)). All (λ s. s.session.desk ≡ desk) l) is (stay desk had) in
      (has 0 a (omega arith), has 1 a (omega arith))

  -- what is said of two scripts before and after they ran
  module _ (old new : List (Script R)) (a b : Script R) (was : old ≡ a ∷ b ∷ []) where
    pub taken_ran : (r : Option (Script R × Script R)) → IfSome r (λ p. new ≡ p.0 ∷ p.1 ∷ [])
        → ((i : ℕ) (d : Script R) → i < length old → IsRun (slice_index_or old i d) (slice_index_or new i d))
        → IfSome r (λ p. IsRun a p.0 × IsRun b p.1)
    taken_ran None is each = tt
    taken_ran (Some p) is each = both_ran old new a b p.0 p.1 was is each

    pub taken_stay : (r : Option (Script R × Script R)) → IfSome r (λ p. new ≡ p.0 ∷ p.1 ∷ [])
        → ((desk : DeskView) → All (λ s. s.session.desk ≡ desk) old → All (λ s. s.session.desk ≡ desk) new)
        → IfSome r (λ p. (desk : DeskView) → a.session.desk ≡ desk → b.session.desk ≡ desk → (p.0.session.desk ≡ desk) × (p.1.session.desk ≡ desk))
    taken_stay None is stay = tt
    taken_stay (Some p) is stay = both_stay old new a b p.0 p.1 was is stay
