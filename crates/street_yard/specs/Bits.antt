-- What the words of a `FilledLists` stand for.
use Rattle.std.specs.Prelude.{◌≡◌, ℕ, ◌+◌, ◌*◌, ◌/◌, ◌%◌, ◌^◌, ◌<◌, ◌≤◌, ◌==◌, Bool, false, List, map, length, Option, Some, None, slice_index_or}
use Rattle.std.specs.Int.{bit_at}
use Rattle.std.specs.List.{range_with_len}
use Rattle.street_yard.specs.Yard.{IsFirstBut}

-- whether the bit of list 3 * lane + kind is set: bit lane % 64 of word 3 * (lane / 64) + kind, as each 64 lanes have
-- three words, one for each kind of list; no past the last word
abbrev pub bit_of : List ℕ → ℕ → Bool
bit_of words list = bit_at (slice_index_or words (3 * (list / 3 / 64) + list % 3) 0) (list / 3 % 64) == 1

-- the bits of all lists that the words have room for (64 a word), by the number of the list
abbrev pub bits_of : List ℕ → List Bool
bits_of words = map (bit_of words) (range_with_len 0 (64 * length words))

-- that the words come in threes, one for each kind of list of 64 lanes, and are fewer than 2^32
pub record AreWords (words : List ℕ) : Type 0 where
  pub even : length words % 3 ≡ 0
  pub few : length words < 2 ^ 32

-- whether the list of this kind (0, 1 or 2) of lane n has a key, by the bits of all lists; no past the last bit
abbrev pub has_bit : List Bool → ℕ → ℕ → Bool
has_bit bits class n = slice_index_or bits (3 * n + class) false

-- that `next` is the first lane from this one on whose list of this kind (0, 1 or 2) has a key, by the bits; none where
-- no lane from this one on has one
abbrev pub IsNextBit : List Bool → ℕ → ℕ → Option ℕ → Type 0
IsNextBit bits class lane None = (n : ℕ) → lane ≤ n → has_bit bits class n ≡ false
IsNextBit bits class lane (Some next) = IsFirstBut (λ n. has_bit bits class n ≡ false) lane (next + 1) next
