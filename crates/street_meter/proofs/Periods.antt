-- The rows of a detector that notes one triple more.
use Rattle.std.proofs.Common.{◌≡◌, ℕ, suc, ◌+◌, ◌-◌, ◌*◌, ◌<◌, ◌≤◌, List, [], ◌∷◌, ◌++◌, map, length, take, drop, sym, ap, ◌∙◌, arith, add-one, length-append, ◌/◌, sum_by}
use Rattle.std.specs.List.{range_with_len}
use Rattle.std.proofs.lemmas.List.{take-append-le, drop-append-le, length-drop, take_all, drop_all}
use Rattle.std.proofs.lemmas.List.Sums.{sum_by-append}
use Rattle.std.proofs.lemmas.Nat.{div-mul-add}
use Rattle.std.proofs.Math.Nat.{lt-div-mul-add, div-mul-le_self, suc-mul}
use Rattle.circular_buffer.specs.Buffer.{keep_last}
use Rattle.street_base.specs.declared.reply.MeterRow.{MeterRow}
use Rattle.street_base.specs.declared.reply.RunningRow.{RunningRow}
use Rattle.street_base.specs.declared.names.Place.{Place}
use Rattle.street_base.specs.Prelude.{Triple, Detector, row_of, row, full_periods, full_rows}
use Rattle.street_meter.specs.Meter.{running_seen, IsRead}
use Rattle.street_meter.specs.Inside.{row_with, row_full, row_from}
use Rattle.street_meter.proofs.Ranges.{times-below, range-same, last-more}

-- a row with one triple more
abbrev bump : MeterRow → Triple → MeterRow
bump r t = record { start = r.start; passes = r.passes + t.passes; speeds = r.speeds + t.speeds; occupied = r.occupied + t.occupied }

row_of-more : (start : ℕ) (ts : List Triple) (t : Triple) → row_of start (ts ++ t ∷ []) ≡ bump (row_of start ts) t
row_of-more start ts t =
    let make : ℕ → ℕ → ℕ → MeterRow = λ a b c. record { start = start; passes = a; speeds = b; occupied = c } in
    let one : (f : Triple → ℕ) → sum_by f (ts ++ t ∷ []) ≡ sum_by f ts + f t = λ f. sum_by-append f ts (t ∷ []) ∙ ap (λ n. sum_by f ts + n) (let e : 0 + f t ≡ f t = omega arith in e) in
    ap (λ a. make a (sum_by (λ t. t.speeds) (ts ++ t ∷ [])) (sum_by (λ t. t.occupied) (ts ++ t ∷ []))) (one (λ t. t.passes))
    ∙ ap (λ b. make (sum_by (λ t. t.passes) ts + t.passes) b (sum_by (λ t. t.occupied) (ts ++ t ∷ []))) (one (λ t. t.speeds))
    ∙ ap (λ c. make (sum_by (λ t. t.passes) ts + t.passes) (sum_by (λ t. t.speeds) ts + t.speeds) c) (one (λ t. t.occupied))

abbrev pair : MeterRow → ℕ → MeterRow × ℕ
pair r n = (r, n)

module _ (place : Place) (cell p start : ℕ) (ts : List Triple) (t : Triple) (some : 0 < p) where
  abbrev old : Detector
  old = record { place = place; cell = cell; period = p; start = start; triples = ts }

  abbrev new : Detector
  new = record { place = place; cell = cell; period = p; start = start; triples = ts ++ t ∷ [] }

  bounds : (length ts / p * p ≤ length ts) × (length ts < length ts / p * p + p)
  bounds = (div-mul-le_self (length ts) p, lt-div-mul-add some)

  longer : length (ts ++ t ∷ []) ≡ length ts + 1
  longer = length-append ts (t ∷ [])

  -- a full period stays as it is
  row-old : (i : ℕ) → i < length ts / p → row new i ≡ row old i
  row-old i h =
      let a = times-below p i (length ts / p) h in
      let b = bounds.0 in
      let c = length-drop (i * p) ts in
      ap (row_of (start + i * p))
      (ap (take p) (drop-append-le (i * p) ts (t ∷ []) (omega arith)) ∙ take-append-le p (drop (i * p) ts) (t ∷ []) (omega arith))

  -- the running period has one triple more
  row-now : row new (length ts / p) ≡ row_of (start + length ts / p * p) (drop (length ts / p * p) ts ++ t ∷ [])
  row-now =
      let a = bounds.0 in
      let b = bounds.1 in
      let c = length-drop (length ts / p * p) ts in
      let d = length-append (drop (length ts / p * p) ts) (t ∷ []) in
      ap (row_of (start + length ts / p * p))
      (ap (take p) (drop-append-le (length ts / p * p) ts (t ∷ []) a) ∙ take_all p (drop (length ts / p * p) ts ++ t ∷ []) (omega arith))

  row-was : row old (length ts / p) ≡ row_of (start + length ts / p * p) (drop (length ts / p * p) ts)
  row-was =
      let b = bounds.1 in
      let c = length-drop (length ts / p * p) ts in
      ap (row_of (start + length ts / p * p)) (take_all p (drop (length ts / p * p) ts) (omega arith))

  row-bumped : row new (length ts / p) ≡ bump (row old (length ts / p)) t
  row-bumped = row-now ∙ row_of-more (start + length ts / p * p) (drop (length ts / p * p) ts) t ∙ ap (λ r. bump r t) (sym row-was)

  rows-old : map (row new) (range_with_len (length ts / p - 32) (length ts / p - (length ts / p - 32))) ≡ full_rows old
  rows-old = range-same (row new) (row old) (length ts / p - 32) (length ts / p - (length ts / p - 32)) (λ i h. row-old i (omega arith))

  module _ (rows : List MeterRow) (running : RunningRow) (read : IsRead rows running old) where
    steps-is : running.steps ≡ length ts - length ts / p * p
    steps-is = ap (λ (x : MeterRow × ℕ). x.1) read.now

    start-is : running.start ≡ start + length ts / p * p
    start-is = ap (λ (x : MeterRow × ℕ). x.0.start) read.now

    bumped : bump (running_seen running).0 t ≡ row new (length ts / p)
    bumped = ap (λ (x : MeterRow × ℕ). bump x.0 t) read.now ∙ sym row-bumped

    -- the period goes on
    pub goes-on : running.steps + 1 < p → IsRead rows (row_with running t.passes t.speeds t.occupied) new
    goes-on h =
        let a = bounds.0 in
        let e = steps-is in
        let parts : length (ts ++ t ∷ []) ≡ length ts / p * p + (running.steps + 1) = (let l = longer in omega arith) in
        let periods : full_periods new ≡ length ts / p = ap (λ k. k / p) parts ∙ div-mul-add (length ts / p) p (running.steps + 1) h in
        record {
          full = read.full ∙ sym rows-old ∙ ap (λ n. map (row new) (range_with_len (n - 32) (n - (n - 32)))) (sym periods);
          now =
              ap (λ r. pair r (running.steps + 1)) bumped
              ∙ ap (pair (row new (length ts / p))) (let k : running.steps + 1 ≡ length (ts ++ t ∷ []) - length ts / p * p = omega arith in k)
              ∙ ap (λ n. pair (row new n) (length (ts ++ t ∷ []) - n * p)) (sym periods);
        }

    -- the period ends
    pub ends : running.steps + 1 ≡ p → IsRead (keep_last 32 (rows ++ row_full (row_with running t.passes t.speeds t.occupied) ∷ [])) (row_from (running.start + (running.steps + 1))) new
    ends h =
        let a = bounds.0 in
        let e = steps-is in
        let l = longer in
        let m = suc-mul (length ts / p) p in
        let parts : length (ts ++ t ∷ []) ≡ suc (length ts / p) * p + 0 = omega arith in
        let periods : full_periods new ≡ length ts / p + 1 = ap (λ k. k / p) parts ∙ div-mul-add (suc (length ts / p)) p 0 some ∙ sym (add-one (length ts / p)) in
        let times : (length ts / p + 1) * p ≡ suc (length ts / p) * p = ap (λ k. k * p) (add-one (length ts / p)) in
        let none : take p (drop ((length ts / p + 1) * p) (ts ++ t ∷ [])) ≡ [] = ap (take p) (drop_all ((length ts / p + 1) * p) (ts ++ t ∷ []) (omega arith)) ∙ take_all p [] (omega arith) in
        record {
          full =
              ap (keep_last 32)
              (ap (λ l. l ++ bump (running_seen running).0 t ∷ []) (read.full ∙ sym rows-old)
              ∙ ap (λ r. map (row new) (range_with_len (length ts / p - 32) (length ts / p - (length ts / p - 32))) ++ r ∷ []) bumped)
              ∙ last-more (row new) (length ts / p)
              ∙ ap (λ n. map (row new) (range_with_len (n - 32) (n - (n - 32)))) (sym periods);
          now =
              ap (λ n. pair (record { start = n; passes = 0; speeds = 0; occupied = 0 }) 0) (let s = start-is in let k : running.start + (running.steps + 1) ≡ start + (length ts / p + 1) * p = omega arith in k)
              ∙ ap (λ l. pair (row_of (start + (length ts / p + 1) * p) l) 0) (sym none)
              ∙ ap (pair (row new (length ts / p + 1))) (let k : 0 ≡ length (ts ++ t ∷ []) - (length ts / p + 1) * p = omega arith in k)
              ∙ ap (λ n. pair (row new n) (length (ts ++ t ∷ []) - n * p)) (sym periods);
        }
