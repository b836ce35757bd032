-- Where cells are closed there are stretches.
use Rattle.std.proofs.Common.{◌≡◌, ◌≢◌, ℕ, ◌≤◌, List, [], sym, ap, ◌∙◌, arith, ◌||◌, Result, Ok, Err, OnOk, OnErr}
use Rattle.std.proofs.lemmas.Bool.{both_ways, or_right}
use Rattle.street_gap.specs.declared.closures.Stretch.{Stretch}
use Rattle.street_gap.specs.Prelude.{is_between, is_in}
use Rattle.street_gap.proofs.StretchLemmas.{between-yes}

module _ (old new : List Stretch) (first last : ℕ) (le : first ≤ last) where
  pub closed-some : ((x : ℕ) → is_in new x ≡ (is_in old x || is_between first last x)) → new ≢ []
  closed-some closes none =
      both_ways (is_in new first) (ap (λ l. is_in l first) none)
      (closes first ∙ or_right (is_in old first) (is_between first last first) (between-yes first last first (omega arith) le))

  -- also where memory ran out, if there were some
  pub kept-some : {A E : Type 0} (r : Result A E) → OnOk r ((x : ℕ) → is_in new x ≡ (is_in old x || is_between first last x)) → OnErr r (new ≡ old) → old ≢ [] → new ≢ []
  kept-some (Ok a) closes same some = closed-some closes
  kept-some (Err e) closes same some = λ none. some (sym same ∙ none)
