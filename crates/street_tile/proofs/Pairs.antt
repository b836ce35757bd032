-- The lanes of a tile come link by link, lane 0 and then lane 1.
use Rattle.std.proofs.Common.{◌≡◌, ℕ, zero, suc, ◌+◌, ◌<◌, ◌≤◌, List, [], ◌∷◌, ◌++◌, map, length, refl, sym, ◌∙◌, arith, inl, inr, filter, flat_map}
use Rattle.std.specs.List.{range_with_len}
use Rattle.std.proofs.lemmas.Bool.{cases_Bool}
use Rattle.street_base.specs.declared.net.NetSpec.{NetSpec}
use Rattle.street_base.specs.declared.names.Place.{Place}
use Rattle.street_base.specs.Prelude.{link_at}
use Rattle.street_tile.specs.Prelude.{ArePairs, nth, beside, lanes_beside, is_own, own_places}

-- the lanes of a link
abbrev row_of : NetSpec → ℕ → List Place
row_of net i = map (λ k. record { link = i; lane = k }) (range_with_len 0 (link_at net i).lanes)

module _ (net : NetSpec) where
  pairs-none : ArePairs net []
  pairs-none = record { first = λ h. absurd (omega arith); next = λ n h. absurd (omega arith); before = λ n h. absurd (omega arith) }

  -- before them the lane of a link of one lane
  pairs-one : (p : Place) (ps : List Place) → p.lane ≡ 0 → ((link_at net p.link).lanes ≡ 2 → ⊥) → ArePairs net ps → ArePairs net (p ∷ ps)
  pairs-one p ps zero_lane one rest = record { first = λ h. zero_lane; next = next; before = before }
    where
      next : (n : ℕ) → n < length (p ∷ ps) → (nth (p ∷ ps) n).lane ≡ 0 → lanes_beside net (nth (p ∷ ps) n) ≡ 2 → (suc n < length (p ∷ ps)) × (nth (p ∷ ps) (suc n) ≡ beside (nth (p ∷ ps) n) 1)
      next zero h a two = absurd (one two)
      next (suc n) h a two = let r = rest.next n (omega arith) a two in let l = r.0 in (omega arith, r.1)

      before : (n : ℕ) → suc n < length (p ∷ ps) → ((nth (p ∷ ps) (suc n)).lane ≡ 0 → ⊥) → nth (p ∷ ps) n ≡ beside (nth (p ∷ ps) (suc n)) 0
      before zero h other = absurd (other (rest.first (omega arith)))
      before (suc n) h other = rest.before n (omega arith) other

  -- the two lanes of a link, and more
  abbrev pair_and : ℕ → List Place → List Place
  pair_and i ps = record { link = i; lane = 0 } ∷ record { link = i; lane = 1 } ∷ ps

  -- before them the two lanes of a link
  pairs-two : (i : ℕ) (ps : List Place) → ArePairs net ps → ArePairs net (pair_and i ps)
  pairs-two i ps rest = record { first = λ h. refl; next = next; before = before }
    where
      next : (n : ℕ) → n < length (pair_and i ps) → (nth (pair_and i ps) n).lane ≡ 0 → lanes_beside net (nth (pair_and i ps) n) ≡ 2 → (suc n < length (pair_and i ps)) × (nth (pair_and i ps) (suc n) ≡ beside (nth (pair_and i ps) n) 1)
      next zero h a two = (omega arith, refl)
      next (suc zero) h a two = absurd (let e : 1 ≡ 0 = a in omega arith)
      next (suc (suc n)) h a two = let r = rest.next n (omega arith) a two in let l = r.0 in (omega arith, r.1)

      before : (n : ℕ) → suc n < length (pair_and i ps) → ((nth (pair_and i ps) (suc n)).lane ≡ 0 → ⊥) → nth (pair_and i ps) n ≡ beside (nth (pair_and i ps) (suc n)) 0
      before zero h other = refl
      before (suc zero) h other = absurd (other (rest.first (omega arith)))
      before (suc (suc n)) h other = rest.before n (omega arith) other

  module _ (low high : ℕ) (two : (link : ℕ) → (link_at net link).lanes ≤ 2) where
    -- the lanes of links from a on
    abbrev own_from : ℕ → ℕ → List Place
    own_from a n = filter (is_own net low high) (flat_map (row_of net) (range_with_len a n))

    -- before them the lanes of one more link
    own-pairs-more : (a n count : ℕ) → (link_at net a).lanes ≡ count → count ≤ 2 → ArePairs net (own_from (a + 1) n) → ArePairs net (filter (is_own net low high) (map (λ k. record { link = a; lane = k }) (range_with_len 0 count) ++ flat_map (row_of net) (range_with_len (a + 1) n)))
    own-pairs-more a n zero e le rest = rest
    own-pairs-more a n (suc zero) e le rest = elim (cases_Bool (is_own net low high (record { link = a; lane = 0 }))) as (λ _. ArePairs net (filter (is_own net low high) (record { link = a; lane = 0 } ∷ flat_map (row_of net) (range_with_len (a + 1) n)))) [
      | inl own ↦ rw own (pairs-one (record { link = a; lane = 0 }) (own_from (a + 1) n) refl (λ h. let f : 1 ≡ 2 = sym e ∙ h in absurd (omega arith)) rest)
      | inr not_own ↦ rw not_own rest
    ]
    own-pairs-more a n (suc (suc zero)) e le rest = elim (cases_Bool (is_own net low high (record { link = a; lane = 0 }))) as (λ _. ArePairs net (filter (is_own net low high) (record { link = a; lane = 0 } ∷ record { link = a; lane = 1 } ∷ flat_map (row_of net) (range_with_len (a + 1) n)))) [
      | inl own ↦ rw own (pairs-two a (own_from (a + 1) n) rest)
      | inr not_own ↦ rw not_own rest
    ]
    own-pairs-more a n (suc (suc (suc k))) e le rest = absurd (omega arith)

    own-pairs-from : (a n : ℕ) → ArePairs net (own_from a n)
    own-pairs-from a zero = pairs-none
    own-pairs-from a (suc n) = own-pairs-more a n (link_at net a).lanes refl (two a) (own-pairs-from (a + 1) n)

    pub own-pairs : ArePairs net (own_places net low high)
    own-pairs = own-pairs-from 0 (length net.links)
