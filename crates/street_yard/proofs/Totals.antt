-- The totals of a `ListTable`, and which of its lists have keys.
use Rattle.std.proofs.Common.{◌≡◌, ℕ, zero, suc, ◌+◌, ◌-◌, ◌%◌, ◌^◌, ◌<◌, ◌≤◌, ◌==◌, Bool, false, not, List, [], ◌∷◌, length, get_or, set, map, replicate, Option, None, refl, sym, ap, ◌∙◌, subst, arith, inl, inr, All}
use Rattle.std.proofs.lemmas.Bool.{cases_eq}
use Rattle.std.proofs.lemmas.List.{length-map, length-set, length-replicate, map-set, get_or-map, get_or-set_same, get_or-set_other, ext_get_or}
use Rattle.std.proofs.lemmas.List.Elements.{All-nil, All-cons, All-set}
use Rattle.street_yard.specs.declared.list_table.ListRow.{ListRow}
use Rattle.street_yard.specs.declared.list_table.BackAndCount.{BackAndCount}
use Rattle.street_yard.specs.declared.yard.Yard.TheInside.{Inside}
use Rattle.street_yard.specs.Prelude.{Yard, every_third, thirds, totals_of, no_row, joined, counts, AreListed}
use Rattle.street_yard.specs.Inside.{seen, IsSound}
use Rattle.street_yard.proofs.Thirds.{third-le, third-few, third-here, thirds-set}
use Rattle.street_yard.proofs.Joined.{no_rest}

-- ---- no keys

none-small : (n : ℕ) → All (λ c. c < 2 ^ 32) (counts (replicate n no_rest))
none-small zero = All-nil (λ c. c < 2 ^ 32)
none-small (suc n) = All-cons (λ c. c < 2 ^ 32) 0 (counts (replicate n no_rest)) (omega arith) (none-small n)

none-counted : (n k : ℕ) → every_third k (counts (replicate n no_rest)) ≡ 0
none-counted zero k = refl
none-counted (suc n) zero = let rest = none-counted n 2 in omega arith
none-counted (suc n) (suc k) = none-counted n k

none-at : (n k : ℕ) → get_or (counts (replicate n no_rest)) k 0 ≡ 0
none-at zero k = refl
none-at (suc n) zero = refl
none-at (suc n) (suc k) = none-at n k

none-filled : (n k : ℕ) → get_or (replicate n false) k false ≡ false
none-filled zero k = refl
none-filled (suc n) zero = refl
none-filled (suc n) (suc k) = none-filled n k

pub listed-empty : (n : ℕ) (fronts : List (Option ℕ)) (rests : List BackAndCount) (filled : List Bool) → n < 2 ^ 32 → fronts ≡ replicate n None → rests ≡ replicate n no_rest → n < length filled → filled ≡ replicate (length filled) false → AreListed fronts rests (0 ∷ 0 ∷ 0 ∷ []) filled
listed-empty n fronts rests filled few fronts_are rests_are many filled_are = record {
  even = ap length fronts_are ∙ length-replicate n None ∙ sym (ap length rests_are ∙ length-replicate n no_rest);
  few = (let long = ap length rests_are ∙ length-replicate n no_rest in omega arith);
  small = subst (λ l. All (λ c. c < 2 ^ 32) (counts l)) (sym rests_are) (none-small n);
  summed = subst (λ l. 0 ∷ 0 ∷ 0 ∷ [] ≡ thirds (counts l)) (sym rests_are) (λ i. sym (none-counted n 0) i ∷ sym (none-counted n 1) i ∷ sym (none-counted n 2) i ∷ []);
  roomy = (let long = ap length rests_are ∙ length-replicate n no_rest in omega (arith, many));
  shown = λ k. ap (λ l. get_or l k false) filled_are ∙ none-filled (length filled) k ∙ sym (ap (λ l. not (get_or (counts l) k 0 == 0)) rests_are ∙ ap (λ c. not (c == 0)) (none-at n k));
}

-- ---- the count of a list is written

module _ (fronts : List (Option ℕ)) (rests : List BackAndCount) (totals : List ℕ) (filled : List Bool) (are : AreListed fronts rests totals filled) (k : ℕ) (within : k < length rests) where
  counts-long : length (counts rests) ≡ length rests
  counts-long = length-map rests (λ (r : BackAndCount). r.count)

  counted-at : (r : BackAndCount) → r ≡ get_or rests k r → get_or (counts rests) k 0 ≡ r.count
  counted-at r r_is = get_or-map (λ (r : BackAndCount). r.count) rests k r 0 within ∙ ap (λ (x : BackAndCount). x.count) (sym r_is)

  total-at : get_or totals (k % 3) 0 ≡ every_third (k % 3) (counts rests)
  total-at = ap (λ l. get_or l (k % 3) 0) are.summed ∙ by (k % 3) (omega arith)
    where
      by : (c : ℕ) → c < 3 → get_or (thirds (counts rests)) c 0 ≡ every_third c (counts rests)
      by zero h = refl
      by (suc zero) h = refl
      by (suc (suc zero)) h = refl
      by (suc (suc (suc c))) h = absurd (omega arith)

  pub filled-within : k < length filled
  filled-within = omega (arith, are.roomy)

  -- the list is filled if it has keys
  pub filled-at : (r : BackAndCount) → r ≡ get_or rests k r → get_or filled k false ≡ not (r.count == 0)
  filled-at r r_is = are.shown k ∙ ap (λ c. not (c == 0)) (counted-at r r_is)

  module _ (r : BackAndCount) (r_is : r ≡ get_or rests k r) (total : ℕ) (total_is : total ≡ get_or totals (k % 3) 0) where
    -- the old count is part of its total
    pub count-part : r.count ≤ total
    count-part =
        let le = third-le (counts rests) k (k % 3) refl (omega (arith, counts-long)) in
        omega (arith, le, counted-at r r_is, total-at, total_is)

    module _ (f : Option ℕ) (r' : BackAndCount) (fits : r'.count < 2 ^ 32) where
      counts-set : counts (set rests k r') ≡ set (counts rests) k r'.count
      counts-set = map-set (λ (x : BackAndCount). x.count) rests k r'

      small-set : All (λ c. c < 2 ^ 32) (set (counts rests) k r'.count)
      small-set = All-set (λ c. c < 2 ^ 32) (counts rests) k r'.count fits are.small

      -- the new total has 64 bits
      pub total-fits : total - r.count + r'.count < 2 ^ 64
      total-fits =
          let few = third-few (set (counts rests) k r'.count) (k % 3) small-set in
          let here = third-here (counts rests) k (k % 3) r'.count refl (omega (arith, counts-long)) in
          let long = length-set (counts rests) k r'.count in
          omega (arith, few, here, long, counts-long, are.few, counted-at r r_is, total-at, total_is, count-part)

      shown-set : (n : ℕ) → get_or (set filled k (not (r'.count == 0))) n false ≡ not (get_or (counts (set rests k r')) n 0 == 0)
      shown-set n =
          elim (cases_eq n k) as (λ _. get_or (set filled k (not (r'.count == 0))) n false ≡ not (get_or (set (counts rests) k r'.count) n 0 == 0)) [
            | inl same ↦
                ap (λ m. get_or (set filled k (not (r'.count == 0))) m false) same
                ∙ get_or-set_same filled k (not (r'.count == 0)) false filled-within
                ∙ ap (λ c. not (c == 0)) (sym (ap (λ m. get_or (set (counts rests) k r'.count) m 0) same ∙ get_or-set_same (counts rests) k r'.count 0 (omega (arith, counts-long))))
            | inr apart ↦
                get_or-set_other filled k n (not (r'.count == 0)) false apart
                ∙ are.shown n
                ∙ ap (λ c. not (c == 0)) (sym (get_or-set_other (counts rests) k n r'.count 0 apart))
          ]
          ∙ ap (λ l. not (get_or l n 0 == 0)) (sym counts-set)

      pub listed-set : AreListed (set fronts k f) (set rests k r') (set totals (k % 3) (total - r.count + r'.count)) (set filled k (not (r'.count == 0)))
      listed-set = record {
        even = length-set fronts k f ∙ are.even ∙ sym (length-set rests k r');
        few = (let long = length-set rests k r' in let few = are.few in omega arith);
        small = subst (All (λ c. c < 2 ^ 32)) (sym counts-set) small-set;
        summed = ap (λ l. set l (k % 3) (total - r.count + r'.count)) are.summed
            ∙ thirds-set (counts rests) k r'.count (k % 3) (total - r.count + r'.count) refl (omega (arith, counts-long)) (let is = ap (λ l. get_or l (k % 3) 0) are.summed in omega (arith, is, counted-at r r_is, total_is, count-part))
            ∙ ap thirds (sym counts-set);
        roomy = (let long = length-set rests k r' in let long' = length-set filled k (not (r'.count == 0)) in omega (arith, are.roomy));
        shown = shown-set;
      }

-- ---- what a contract sees

pub counts-joined : (fronts : List (Option ℕ)) (rests : List BackAndCount) → length fronts ≡ length rests → map (λ (e : ListRow). e.count) (joined fronts rests) ≡ counts rests
counts-joined [] [] same = refl
counts-joined [] (r ∷ rests) same = absurd (omega arith)
counts-joined (f ∷ fronts) [] same = absurd (omega arith)
counts-joined (f ∷ fronts) (r ∷ rests) same = ap (λ l. r.count ∷ l) (counts-joined fronts rests (omega arith))

pub totals-are : (fronts : List (Option ℕ)) (rests : List BackAndCount) (totals : List ℕ) (filled : List Bool) (v : List ListRow) → AreListed fronts rests totals filled → joined fronts rests ≡ v → totals ≡ thirds (map (λ e. e.count) v)
totals-are fronts rests totals filled v are is_v = are.summed ∙ ap thirds (sym (counts-joined fronts rests are.even) ∙ ap (map (λ (e : ListRow). e.count)) is_v)

-- the counts are the lengths of the lists
lengths-are : (y : Inside) → IsSound y → map (λ (e : ListRow). e.count) y.rows ≡ map (λ (xs : List ℕ). length xs) (seen y).lists
lengths-are y s =
    let lists = (seen y).lists in
    let long = length-map y.rows (λ (e : ListRow). e.count) in
    let long' = length-map lists (λ (xs : List ℕ). length xs) in
    ext_get_or 0 _ _ (long ∙ sym s.stands.count ∙ sym long') (λ i h.
    let within : i < length y.rows = omega (arith, long) in
    let within' : i < length lists = omega (arith, within, s.stands.count) in
    get_or-map (λ (e : ListRow). e.count) y.rows i no_row 0 within
    ∙ (s.stands.each i within).counted
    ∙ sym (get_or-map (λ (xs : List ℕ). length xs) lists i [] 0 within'))

pub totals-seen : (y : Inside) (v : Yard) → IsSound y → seen y ≡ v → (totals : List ℕ) → totals ≡ thirds (map (λ e. e.count) y.rows) → totals ≡ totals_of v
totals-seen y v s is_v totals are = are ∙ ap thirds (lengths-are y s) ∙ ap totals_of is_v
