-- Draws that are kept: two bits for each of 32 steps of a vehicle. No rule stands here: what a draw is stands in
-- street_base's Draw.
use Rattle.std.specs.Prelude.{◌≡◌, ℕ, zero, suc, ◌+◌, ◌*◌, ◌/◌, ◌%◌, ◌^◌, ◌<◌, ◌==◌, nat_lt, nat_le, Bool, IsTrue, ◌↔◌, List, if◌then◌else◌, All}
use Rattle.rand_chacha.specs.ChaCha.{ChaCha, word_at}
use Rattle.street_base.specs.Prelude.{key_of_seed}
use Rattle.street_rule.specs.declared.dice.KeptDraws.{KeptDraws}

-- whether the draw, 0 to 999, at a place of the random stream of the vehicle of this number is below the odds; `key` is
-- the key of all streams
abbrev pub is_drawn : List ℕ → ℕ → ℕ → ℕ → Bool
is_drawn key odds number place = nat_lt (word_at 10 key number place * 1000 / 2 ^ 32) odds

-- the number whose n lowest bits are the answers of a test at 0, 1, .. n - 1, the answer at 0 in the lowest bit
abbrev pub bits_of : (ℕ → Bool) → ℕ → ℕ
bits_of test zero = 0
bits_of test (suc n) = (if test 0 then 1 else 0) + 2 * bits_of (λ i. test (suc i)) n

-- whether the word i places further on in the random stream g is at most a bound: `lane` where i is even (lane draws),
-- `slow` where it is odd (dawdle draws)
abbrev pub is_within : ℕ → ℕ → ChaCha → ℕ → Bool
is_within lane slow g i = nat_le (word_at 10 g.key g.stream (g.word_pos + i)) (if i % 2 == 0 then lane else slow)

-- that n words were taken from the random stream, and that bit i of `bits` says whether word i is at most its bound:
-- `lane` for even i (lane draws), `slow` for odd i (dawdle draws)
pub record Asked (n lane slow : ℕ) (old new : ChaCha) (bits : ℕ) : Type 0 where
  pub answers : bits ≡ bits_of (is_within lane slow old) n
  pub moved : new ≡ record old { word_pos = old.word_pos + n }

-- that the bits kept for a vehicle and a block of 32 steps say of each draw whether it is below its odds: lane draws on
-- bits 0, 2 .., dawdle draws on bits 1, 3 ..; nothing is said of a kind whose odds are 0, or 1,000 and more
pub record IsKept (key : List ℕ) (dawdle change : ℕ) (kept : KeptDraws) : Type 0 where
  pub changes : 0 < change → change < 1000 → (i : ℕ) → i < 32 → (kept.bits / 2 ^ (2 * i) % 2 == 1) ≡ is_drawn key change kept.number (kept.block * 64 + 2 * i)
  pub dawdles : 0 < dawdle → dawdle < 1000 → (i : ℕ) → i < 32
      → (kept.bits / 2 ^ (2 * i + 1) % 2 == 1) ≡ is_drawn key dawdle kept.number (kept.block * 64 + 2 * i + 1)

-- that the key is that of the seed, each of the two flags tells whether its odds lie above 0 and below 1,000, so that
-- draws are needed, and all draws kept, in the table and set `aside`, are right (`IsKept`)
pub record IsSound (key : List ℕ) (seed dawdle change : ℕ) (dawdle_drawn change_drawn : Bool) (kept aside : List KeptDraws) : Type 0 where
  pub of_seed : key ≡ key_of_seed seed
  pub of_dawdle : IsTrue dawdle_drawn ↔ (0 < dawdle) × (dawdle < 1000)
  pub of_change : IsTrue change_drawn ↔ (0 < change) × (change < 1000)
  pub each : All (IsKept key dawdle change) kept
  pub set_aside : All (IsKept key dawdle change) aside
