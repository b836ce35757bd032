-- Lanes, and rows of lanes, in the order of their slots.
use Rattle.std.proofs.Common.{◌≡◌, ℕ, zero, suc, ◌+◌, ◌*◌, ◌<◌, ◌≤◌, Bool, List, [], ◌∷◌, ◌++◌, length, map, flat_map, filter, filter_map, get_or, refl, sym, ap, subst, arith, inl, inr, Option, Some, None, option_map}
use Rattle.std.specs.List.{range_with_len, cons_option}
use Rattle.std.specs.List.Sorted.{IsNonDecreasingBy}
use Rattle.std.proofs.lemmas.Bool.{cases_Bool, cond-true, cond-false}
use Rattle.street_base.specs.declared.names.Place.{Place}
use Rattle.street_base.specs.declared.net.NetSpec.{NetSpec}
use Rattle.street_base.specs.declared.record.RecordRow.{RecordRow}
use Rattle.street_base.specs.Prelude.{Vehicle, link_at, places, slot_of, arrived_row, arriving}
use Rattle.street_record.specs.Rows.{arrival_row}

-- the numbers of these rise, from `low` on and below `high`
abbrev pub Rise : {A : Type 0} → (A → ℕ) → ℕ → ℕ → List A → Type 0
Rise n low high [] = low ≤ high
Rise n low high (x ∷ xs) = (low ≤ n x) × Rise n (n x + 1) high xs

module _ {A : Type 0} (n : A → ℕ) where
  rise-from : (low from high : ℕ) (xs : List A) → low ≤ from → Rise n from high xs → Rise n low high xs
  rise-from low from high [] le r = omega arith
  rise-from low from high (x ∷ xs) le r = (let h = r.0 in omega arith, r.1)

  rise-append : (low mid high : ℕ) (xs ys : List A) → Rise n low mid xs → Rise n mid high ys → Rise n low high (xs ++ ys)
  rise-append low mid high [] ys r s = rise-from low mid high ys r s
  rise-append low mid high (x ∷ xs) ys r s = (r.0, rise-append (n x + 1) mid high xs ys r.1 s)

  rise-filter : (own : A → Bool) (low high : ℕ) (xs : List A) → Rise n low high xs → Rise n low high (filter own xs)
  rise-filter own low high [] r = r
  rise-filter own low high (x ∷ xs) r =
      let rest = rise-filter own (n x + 1) high xs r.1 in
      elim (cases_Bool (own x)) as (λ _. Rise n low high (filter own (x ∷ xs))) [
        | inl mine ↦ subst (Rise n low high) (sym (cond-true (own x) (x ∷ filter own xs) (filter own xs) mine)) (r.0, rest)
        | inr other ↦ subst (Rise n low high) (sym (cond-false (own x) (x ∷ filter own xs) (filter own xs) other)) (rise-from low (n x + 1) high (filter own xs) (let h = r.0 in omega arith) rest)
      ]

  rise-above : (low high : ℕ) (xs : List A) → Rise n low high xs → (k : ℕ) (d : A) → k < length xs → low ≤ n (get_or xs k d)
  rise-above low high [] r k d h = absurd (omega arith)
  rise-above low high (x ∷ xs) r zero d h = r.0
  rise-above low high (x ∷ xs) r (suc k) d h =
      let first = r.0 in
      let above = rise-above (n x + 1) high xs r.1 k d (omega arith) in
      omega arith

  -- no number is above a later one
  pub rise-sorted : (low high : ℕ) (xs : List A) → Rise n low high xs → IsNonDecreasingBy n xs
  rise-sorted low high [] r i j d le h = absurd (omega arith)
  rise-sorted low high (x ∷ xs) r zero zero d le h = omega arith
  rise-sorted low high (x ∷ xs) r zero (suc j) d le h = (let above = rise-above (n x + 1) high xs r.1 j d (omega arith) in omega arith)
  rise-sorted low high (x ∷ xs) r (suc i) zero d le h = absurd (omega arith)
  rise-sorted low high (x ∷ xs) r (suc i) (suc j) d le h = rise-sorted (n x + 1) high xs r.1 i j d (omega arith) (omega arith)

  -- there are no more than numbers
  rise-few : (low high : ℕ) (xs : List A) → Rise n low high xs → low + length xs ≤ high
  rise-few low high [] r = omega arith
  rise-few low high (x ∷ xs) r =
      let first = r.0 in
      let rest = rise-few (n x + 1) high xs r.1 in
      omega arith

-- ---- the lanes of a network

on-link : (link lanes : ℕ) → lanes ≤ 2 → Rise slot_of (2 * link) (2 * link + 2) (map (λ k. record { link = link; lane = k }) (range_with_len 0 lanes))
on-link link zero few = omega arith
on-link link (suc zero) few = (omega arith, omega arith)
on-link link (suc (suc zero)) few = (omega arith, (omega arith, omega arith))
on-link link (suc (suc (suc lanes))) few = absurd (omega arith)

on-links : (net : NetSpec) → ((link : ℕ) → (link_at net link).lanes ≤ 2) → (first count : ℕ)
    → Rise slot_of (2 * first) (2 * (first + count)) (flat_map (λ i. map (λ k. record { link = i; lane = k }) (range_with_len 0 (link_at net i).lanes)) (range_with_len first count))
on-links net two first zero = omega arith
on-links net two first (suc count) =
    let after : 2 * first + 2 ≡ 2 * (first + 1) = omega arith in
    let last : 2 * (first + 1 + count) ≡ 2 * (first + suc count) = omega arith in
    let lanes = map (λ k. record { link = first; lane = k }) (range_with_len 0 (link_at net first).lanes) in
    let others = flat_map (λ i. map (λ k. record { link = i; lane = k }) (range_with_len 0 (link_at net i).lanes)) (range_with_len (first + 1) count) in
    let rest : Rise slot_of (2 * first + 2) (2 * (first + suc count)) others =
    subst (λ (low : ℕ). Rise slot_of low (2 * (first + suc count)) others) (sym after) (subst (λ (high : ℕ). Rise slot_of (2 * (first + 1)) high others) last (on-links net two (first + 1) count)) in
    rise-append slot_of (2 * first) (2 * first + 2) (2 * (first + suc count)) lanes others (on-link first (link_at net first).lanes (two first)) rest

-- ---- rows of lanes

rows-rise : (leaver : Place → Option Vehicle) (low high : ℕ) (ps : List Place) → Rise slot_of low high ps → Rise (λ (r : RecordRow). r.slot) low high (filter_map (λ p. arrival_row p (leaver p)) ps)
rows-rise leaver low high [] r = r
rows-rise leaver low high (p ∷ ps) r = by_row (arrival_row p (leaver p)) (λ row is. slot-is (arriving (leaver p)) row is) (rows-rise leaver (slot_of p + 1) high ps r.1)
  where
    slot-is : (a : Option Vehicle) (row : RecordRow) → option_map (arrived_row (slot_of p)) a ≡ Some row → row.slot ≡ slot_of p
    slot-is None row e = absurd (cc)
    slot-is (Some v) row e = (let same : arrived_row (slot_of p) v ≡ row = cc in sym (ap (λ (r : RecordRow). r.slot) same))

    by_row : (o : Option RecordRow) → ((row : RecordRow) → o ≡ Some row → row.slot ≡ slot_of p) → Rise (λ (r : RecordRow). r.slot) (slot_of p + 1) high (filter_map (λ q. arrival_row q (leaver q)) ps)
        → Rise (λ (r : RecordRow). r.slot) low high (cons_option o (filter_map (λ q. arrival_row q (leaver q)) ps))
    by_row None slot rest = rise-from (λ (r : RecordRow). r.slot) low (slot_of p + 1) high (filter_map (λ q. arrival_row q (leaver q)) ps) (let h = r.0 in omega arith) rest
    by_row (Some row) slot rest =
        let here : row.slot ≡ slot_of p = slot row refl in
        (let h = r.0 in omega arith, subst (λ (k : ℕ). Rise (λ (r : RecordRow). r.slot) (k + 1) high (filter_map (λ q. arrival_row q (leaver q)) ps)) (sym here) rest)

module _ (net : NetSpec) (two : (link : ℕ) → (link_at net link).lanes ≤ 2) (own : Place → Bool) (leaver : Place → Option Vehicle) where
  arrivals-rise : Rise (λ (r : RecordRow). r.slot) 0 (2 * (0 + length net.links)) (filter_map (λ p. arrival_row p (leaver p)) (filter own (places net)))
  arrivals-rise =
      let high = 2 * (0 + length net.links) in
      rows-rise leaver 0 high (filter own (places net)) (rise-filter slot_of own 0 high (places net) (on-links net two 0 (length net.links)))

  -- the rows of who arrives from lanes of a network are in the order of their slots
  pub arrivals-sorted : IsNonDecreasingBy (λ (r : RecordRow). r.slot) (filter_map (λ p. arrival_row p (leaver p)) (filter own (places net)))
  arrivals-sorted = rise-sorted (λ (r : RecordRow). r.slot) 0 (2 * (0 + length net.links)) _ arrivals-rise

  -- and at most two a link
  pub arrivals-few : length (filter_map (λ p. arrival_row p (leaver p)) (filter own (places net))) ≤ 2 * length net.links
  arrivals-few = (let few = rise-few (λ (r : RecordRow). r.slot) 0 (2 * (0 + length net.links)) _ arrivals-rise in omega arith)
