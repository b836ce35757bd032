-- Which lanes have somebody on a list, by its row.
use Rattle.std.proofs.Common.{◌≡◌, ℕ, zero, suc, ◌+◌, ◌*◌, ◌/◌, ◌<◌, ◌≤◌, ◌==◌, Bool, false, not, List, [], ◌∷◌, length, get_or, map, Option, Some, None, refl, sym, ap, ◌∙◌, subst, arith, inl, inr}
use Rattle.std.proofs.lemmas.Bool.{eq-eqb, eqb-true, not-false, cases_lt}
use Rattle.std.proofs.lemmas.List.{get_or_past, nil_from_length}
use Rattle.street_yard.specs.declared.list_table.ListRow.{ListRow}
use Rattle.street_yard.specs.declared.list_table.BackAndCount.{BackAndCount}
use Rattle.street_yard.specs.declared.names.ListKind.{ListKind}
use Rattle.street_yard.specs.declared.names.ListKind.TheVariants.{Cells, Buffer, Waiting}
use Rattle.street_yard.specs.declared.yard.Yard.TheInside.{Inside}
use Rattle.street_yard.specs.Prelude.{Yard, list_at, class_of, lanes_in, no_row, joined, AreListed, HasNoKeys, IsFirstBut}
use Rattle.street_yard.specs.Bits.{IsNextBit}
use Rattle.street_yard.specs.Inside.{seen, IsSound}
use Rattle.street_yard.proofs.Joined.{length-joined}
use Rattle.street_yard.proofs.Totals.{counts-joined}
use Rattle.street_yard.proofs.YardLemmas.{first-like}

pub class-few : (kind : ListKind) → class_of kind < 3
class-few Cells = omega arith
class-few Buffer = omega arith
class-few Waiting = omega arith

-- ---- the rows of a table

row-count : (rows : List ListRow) (l : ℕ) → (get_or rows l no_row).count ≡ get_or (map (λ (e : ListRow). e.count) rows) l 0
row-count [] l = refl
row-count (e ∷ rows) zero = refl
row-count (e ∷ rows) (suc l) = row-count rows l

module _ (fronts : List (Option ℕ)) (rests : List BackAndCount) (totals : List ℕ) (filled : List Bool) (are : AreListed fronts rests totals filled) (v : List ListRow) (is_v : joined fronts rests ≡ v) where
  long-rows : length v ≡ length rests
  long-rows = sym (ap length is_v) ∙ length-joined fronts rests are.even ∙ are.even

  -- a list is filled if its row has a count
  row-shown : (l : ℕ) → get_or filled l false ≡ not ((get_or v l no_row).count == 0)
  row-shown l =
      are.shown l
      ∙ ap (λ cs. not (get_or cs l 0 == 0)) (sym (counts-joined fronts rests are.even) ∙ ap (map (λ (e : ListRow). e.count)) is_v)
      ∙ ap (λ c. not (c == 0)) (sym (row-count v l))

  no-keys : (l : ℕ) → get_or filled l false ≡ false → (get_or v l no_row).count ≡ 0
  no-keys l none = eqb-true (get_or v l no_row).count 0 (not-false _ (sym (row-shown l) ∙ none))

  no-bit : (l : ℕ) → (get_or v l no_row).count ≡ 0 → get_or filled l false ≡ false
  no-bit l none = row-shown l ∙ ap not (eq-eqb (get_or v l no_row).count 0 none)

  pub lane-within : (lane : ℕ) → lane ≤ length v / 3 → 3 * lane < length filled
  lane-within lane le = omega (arith, are.roomy, long-rows)

  pub first-some : (class lane next : ℕ) → IsNextBit filled class lane (Some next) → IsFirstBut (HasNoKeys v class) lane (length v / 3) next
  first-some class lane next first =
      let within : next ≤ length v / 3 =
      elim (cases_lt (3 * next + class) (length v)) [
        | inl lt ↦ omega arith
        | inr past ↦ absurd (first.here (omega arith) (no-bit (3 * next + class) (ap (λ (e : ListRow). e.count) (get_or_past v (3 * next + class) no_row past))))
      ] in
      first-like lane (next + 1) (length v / 3) next first within (λ lt. omega arith) (λ n lt. no-keys (3 * n + class)) (λ n lt. no-bit (3 * n + class))

  pub first-none : (class lane count : ℕ) → lane ≤ length v / 3 → count ≡ length rests → IsNextBit filled class lane None → IsFirstBut (HasNoKeys v class) lane (length v / 3) (count / 3)
  first-none class lane count le is none =
      let long = long-rows in
      record {
        not_before = omega arith;
        within = omega arith;
        here = λ lt. absurd (omega arith);
        passed = λ n from lt. no-keys (3 * n + class) (none n from);
      }

-- ---- what a contract sees

module _ (y : Inside) (s : IsSound y) (class : ℕ) (few : class < 3) where
  long : length (seen y).lists ≡ length y.rows
  long = s.stands.count

  keys-at : (n : ℕ) → n < length y.rows / 3 → (get_or y.rows (3 * n + class) no_row).count ≡ length (list_at (seen y) (3 * n + class))
  keys-at n lt = (s.stands.each (3 * n + class) (omega arith)).counted

  pub next-seen : (v : Yard) → seen y ≡ v → (lane next : ℕ) → IsFirstBut (HasNoKeys y.rows class) lane (length y.rows / 3) next → IsFirstBut (λ n. list_at v (3 * n + class) ≡ []) lane (lanes_in v) next
  next-seen v is_v lane next first =
      let counted : lanes_in (seen y) ≡ length y.rows / 3 = omega (arith, long) in
      subst (λ w. IsFirstBut (λ n. list_at w (3 * n + class) ≡ []) lane (lanes_in w) next) is_v (
      first-like lane (length y.rows / 3) (lanes_in (seen y)) next first (omega (arith, counted, first.within)) (λ lt. omega (arith, counted))
      (λ n lt none. nil_from_length (list_at (seen y) (3 * n + class)) (sym (keys-at n (omega (arith, counted))) ∙ none))
      (λ n lt empty. keys-at n (omega (arith, counted)) ∙ ap length empty))

  pub lanes-within : (v : Yard) → seen y ≡ v → (lane : ℕ) → lane ≤ length v.lists / 3 → lane ≤ length y.rows / 3
  lanes-within v is_v lane le = let same : length (seen y).lists ≡ length v.lists = ap (λ w. length w.lists) is_v in omega (arith, long)
