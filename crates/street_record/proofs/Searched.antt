-- A row that is searched for among rows in the order of their slots.
use Rattle.std.proofs.Common.{◌≡◌, ◌≢◌, ℕ, ◌<◌, List, length, get_or, sym, arith, inl, inr, Ok, Err}
use Rattle.std.specs.Ordering.{nat_cmp, ordering_index}
use Rattle.std.specs.List.Sorted.{IsNonDecreasingBy, IsBinarySearchResult}
use Rattle.std.proofs.lemmas.Bool.{cases_lt}
use Rattle.std.proofs.lemmas.Bool.Decides.{nat_tests}
use Rattle.std.proofs.lemmas.Cmp.{ranked}
use Rattle.street_base.specs.declared.record.RecordRow.{RecordRow}

module _ (rows : List RecordRow) (rising : IsNonDecreasingBy (λ (r : RecordRow). r.slot) rows) (slot : ℕ) where
  compared : IsNonDecreasingBy (λ (r : RecordRow). ordering_index (nat_cmp r.slot slot)) rows
  compared i j d low high = let rise = rising i j d low high in grind (arith, nat_tests)

  pub searched-ok : (at : ℕ) (d : RecordRow) → at < length rows → IsBinarySearchResult (λ (r : RecordRow). nat_cmp r.slot slot) rows (Ok at) → (get_or rows at d).slot ≡ slot
  searched-ok at d h equal = ranked _ slot _ (sym (equal d))

  pub searched-err : (at : ℕ) → IsBinarySearchResult (λ (r : RecordRow). nat_cmp r.slot slot) rows (Err at) → (k : ℕ) (d : RecordRow) → k < length rows → (get_or rows k d).slot ≢ slot
  searched-err at parted k d h same = elim (cases_lt k at) [
    | inl low ↦ (let below = ranked (get_or rows k d).slot slot _ (sym ((parted compared).0 k d (omega arith) low)) in omega arith)
    | inr high ↦ (let above = ranked (get_or rows k d).slot slot _ (sym ((parted compared).1 k d high h)) in omega arith)
  ]
