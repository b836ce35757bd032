-- Those who arrived in a step of all tiles are the machine's.
use Rattle.std.proofs.Common.{◌≡◌, ℕ, suc, ◌+◌, ◌<◌, List, [], ◌∷◌, ◌++◌, length, get_or, refl, sym, ◌∙◌, ap, arith, inl, inr, Option, Some, None, filter_map, nat_lt, ◌==◌, sum_by}
use Rattle.std.specs.List.{list_any, cons_option}
use Rattle.std.proofs.lemmas.Bool.{cases_Bool, cond-true, cond-false, lt-ltb}
use Rattle.std.proofs.lemmas.List.Sums.{sum_by-cons}
use Rattle.std.proofs.lemmas.List.Elements.{filter_map-append}
use Rattle.street_base.specs.declared.net.NetSpec.{NetSpec}
use Rattle.street_base.specs.declared.reply.End.{End}
use Rattle.street_base.specs.declared.names.Place.{Place}
use Rattle.street_base.specs.Prelude.{places, Vehicle, is_on_last, Traffic, in_lanes, has_ended, one_if, IsSoundTraffic, changed, driven, arrival, arrivals, leaver_of, with_arrivals, step, released, departed}
use Rattle.street_base.proofs.FormLemmas.{shape-of, changed-formed}
use Rattle.street_base.proofs.ArrivalLemmas.{arrived, driven-lanes}
use Rattle.street_tile.specs.Prelude.{TileView, AreTiles, Each, all_places, all_arrived}
use Rattle.street_tile.proofs.Rows.{in-row, roads-of}
use Rattle.street_engine.specs.Prelude.{AreComing}
use Rattle.street_tile.proofs.Sums.{tiles-sums}
use Rattle.street_engine.proofs.AreComing.{often}
use Rattle.street_engine.proofs.Arrivals.{length-arrivals, with_arrivals-same}
use Rattle.street_base.proofs.StepLemmas.{changed-whole}

changed-ends : (m : Traffic) → (changed m).ends ≡ m.ends
unfolding changed
changed-ends m = refl

changed-network : (m : Traffic) → (changed m).network ≡ m.network
unfolding changed
changed-network m = refl

-- as many were admitted before a step as after it
pub ends-kept : (m : Traffic) → length (step m).ends ≡ length m.ends
unfolding step departed released driven changed
ends-kept m = length-arrivals m.clock (arrivals (changed m)) m.ends

-- ---- how often a number arrives

cons-often : (n : ℕ) (o : Option Vehicle) (numbers : List ℕ) → often n (cons_option (arrival o) numbers) ≡ arrived n o + often n numbers
cons-often n None numbers = omega arith
cons-often n (Some v) numbers = elim (cases_Bool (is_on_last v)) as (λ _. often n (cons_option (arrival (Some v)) numbers) ≡ arrived n (Some v) + often n numbers) [
  | inl last ↦ rw last (omega (arith, sum_by-cons (λ (k : ℕ). one_if (k == n)) v.number numbers))
  | inr on ↦ rw on (omega arith)
]

often-arrivals : (n : ℕ) (leaver : Place → Option Vehicle) (ps : List Place) → often n (filter_map (λ p. arrival (leaver p)) ps) ≡ sum_by (λ p. arrived n (leaver p)) ps
often-arrivals n leaver [] = refl
often-arrivals n leaver (p ∷ ps) = omega (arith, cons-often n (leaver p) (filter_map (λ q. arrival (leaver q)) ps), sum_by-cons (λ q. arrived n (leaver q)) p ps, often-arrivals n leaver ps)

any-often : (n : ℕ) (xs : List ℕ) → list_any (λ m. m == n) xs ≡ nat_lt 0 (often n xs)
any-often n [] = refl
any-often n (x ∷ xs) =
    let cons = sum_by-cons (λ (k : ℕ). one_if (k == n)) x xs in
    elim (cases_Bool (x == n)) as (λ _. list_any (λ m. m == n) (x ∷ xs) ≡ nat_lt 0 (often n (x ∷ xs))) [
      | inl here ↦ (
          let one : often n (x ∷ xs) ≡ suc (often n xs) = (let t : one_if (x == n) ≡ 1 = cond-true _ _ _ here in omega (arith, cons, t)) in
          rw (one, here) (sym (lt-ltb 0 (suc (often n xs)) (omega arith))))
      | inr other ↦ (
          let none : often n (x ∷ xs) ≡ often n xs = (let t : one_if (x == n) ≡ 0 = cond-false _ _ _ other in omega (arith, cons, t)) in
          rw (none, other) (any-often n xs))
    ]

-- ---- all tiles

tiles-arrived : (g : Place → Option ℕ) (xs ys : List TileView) → length ys ≡ length xs → ((i : ℕ) (d : TileView) → i < length xs → (get_or ys i d).arrived ≡ filter_map g (get_or xs i d).own.places) → all_arrived ys ≡ filter_map g (all_places xs)
tiles-arrived g [] [] e h = refl
tiles-arrived g [] (y ∷ ys) e h = absurd (omega arith)
tiles-arrived g (x ∷ xs) [] e h = absurd (omega arith)
tiles-arrived g (x ∷ xs) (y ∷ ys) e h =
    ap (λ (ns : List ℕ). ns ++ y.arrived) (tiles-arrived g xs ys (omega arith) (λ i d l. h (suc i) d (omega arith)))
    ∙ ap (λ (ns : List ℕ). filter_map g (all_places xs) ++ ns) (h 0 x (omega arith))
    ∙ sym (filter_map-append g (all_places xs) x.own.places)

module _ (net : NetSpec) (xs ys : List TileView) (tiles : AreTiles net xs) (long : length ys ≡ length xs) (m : Traffic) (on : m.network ≡ net) (sound : IsSoundTraffic m)
    (all : Each (λ x y. y.arrived ≡ filter_map (λ p. arrival (leaver_of (changed m) p)) x.own.places) xs ys) where
  often-all : (n : ℕ) → often n (all_arrived ys) ≡ sum_by (λ p. arrived n (leaver_of (changed m) p)) (places (changed m).network)
  often-all n =
      ap (often n) (tiles-arrived (λ p. arrival (leaver_of (changed m) p)) xs ys long all)
      ∙ often-arrivals n (leaver_of (changed m)) (all_places xs)
      ∙ tiles-sums net (roads-of net xs tiles) (λ p. arrived n (leaver_of (changed m) p)) xs (in-row net xs tiles)
      ∙ ap (λ (k : NetSpec). sum_by (λ p. arrived n (leaver_of (changed m) p)) (places k)) (sym (changed-network m ∙ on))

  pub arrivals-coming : AreComing (all_arrived ys) m.ends
  arrivals-coming n =
      let formed = changed-formed m sound.formed in
      let whole : in_lanes n (changed m).lanes + has_ended n (changed m).ends ≡ one_if (nat_lt n (length (changed m).ends)) = changed-whole m sound.formed sound.whole n in
      let lanes = driven-lanes n (changed m) (shape-of (changed m) formed) in
      let count = often-all n in
      let ended : has_ended n (changed m).ends ≡ has_ended n m.ends = ap (has_ended n) (changed-ends m) in
      let given : one_if (nat_lt n (length (changed m).ends)) ≡ one_if (nat_lt n (length m.ends)) = ap (λ (es : List (Option End)). one_if (nat_lt n (length es))) (changed-ends m) in
      omega arith

  step-ends : (step m).ends ≡ with_arrivals m.clock (arrivals (changed m)) m.ends
  unfolding step departed released driven changed
  step-ends = refl

  pub arrivals-end : with_arrivals m.clock (all_arrived ys) m.ends ≡ (step m).ends
  arrivals-end =
      with_arrivals-same m.clock (all_arrived ys) (arrivals (changed m)) m.ends (λ n.
      any-often n (all_arrived ys)
      ∙ ap (nat_lt 0) (often-all n ∙ sym (often-arrivals n (leaver_of (changed m)) (places (changed m).network)))
      ∙ sym (any-often n (arrivals (changed m))))
      ∙ sym step-ends
