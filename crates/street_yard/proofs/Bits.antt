-- How the words of a `FilledLists` follow its bits.
use Rattle.std.proofs.Common.{◌≡◌, ◌≢◌, ℕ, zero, suc, ◌+◌, ◌-◌, ◌*◌, ◌/◌, ◌%◌, ◌^◌, ◌<◌, ◌≤◌, ◌==◌, Bool, true, false, List, length, get_or, set, replicate, Option, Some, None, bit_and, bit_or, w64, refl, sym, ap, ◌∙◌, arith, inl, inr, min}
use Rattle.std.specs.Int.{bit_at, bit_not, trailing_zeros}
use Rattle.std.proofs.lemmas.Bool.{cases_eq, cases_lt, both_ways}
use Rattle.std.proofs.lemmas.List.{get_or-set_same, get_or-set_other, get_or_past, get_or_default, get_or-replicate, length-set, length-replicate, ext_get_or}
use Rattle.std.proofs.lemmas.List.FromFn.{get_or-map-range_with_len, length-map-range_with_len}
use Rattle.std.proofs.lemmas.Nat.{and_le_l}
use Rattle.std.proofs.lemmas.Nat.Bits.{bit_at-zero, bit_at-lt, bit_at-trailing_zeros, bit_at_set_same, bit_at_set_other, bit_at_clear_same, bit_at_clear_other, bit_at_and, ones_shl, bit_at_mask_inside, bit_at_mask_below}
use Rattle.street_yard.specs.Bits.{bit_of, bits_of, AreWords, has_bit, IsNextBit}
use Rattle.street_yard.proofs.YardLemmas.{such-at, first-further}

-- the word and the place in it of a list's bit

abbrev word_at : ℕ → ℕ
word_at l = 3 * (l / 3 / 64) + l % 3

abbrev place_at : ℕ → ℕ
place_at l = l / 3 % 64

pub length-bits : (words : List ℕ) → length (bits_of words) ≡ 64 * length words
length-bits words = length-map-range_with_len (bit_of words) 0 (64 * length words)

bit-read : (words : List ℕ) (l : ℕ) → l < 64 * length words → get_or (bits_of words) l false ≡ bit_of words l
bit-read words l within = get_or-map-range_with_len (bit_of words) 0 (64 * length words) l l false within (omega arith)

bit-past : (words : List ℕ) (l : ℕ) → 64 * length words ≤ l → get_or (bits_of words) l false ≡ false
bit-past words l past = get_or_past (bits_of words) l false (let long = length-bits words in omega arith)

word-below : (n l : ℕ) → n % 3 ≡ 0 → l < 64 * n → word_at l < n
word-below n l even within = omega arith

-- two lists with the same word and place are one
same-list : (m l : ℕ) → word_at m ≡ word_at l → place_at m ≡ place_at l → m ≡ l
same-list m l word place =
    let kind : m % 3 ≡ l % 3 = omega arith in
    let group : m / 3 / 64 ≡ l / 3 / 64 = omega arith in
    let lane : m / 3 ≡ l / 3 = omega (arith, group, place) in
    omega (arith, kind, lane)

-- ---- no bit

bits-none : (words : List ℕ) (n : ℕ) → ◌≡◌ {A = List ℕ} words (replicate n 0) → bits_of words ≡ replicate (64 * n) false
bits-none words n are =
    let long : length words ≡ n = ap length are ∙ length-replicate n 0 in
    let all = length-bits words in
    ext_get_or false _ _ (all ∙ ap (λ k. 64 * k) long ∙ sym (length-replicate (64 * n) false)) (λ l h.
    let within : l < 64 * length words = omega (arith, all) in
    bit-read words l within
    ∙ ap (λ ws. bit_of ws l) are
    ∙ ap (λ word. bit_at word (place_at l) == 1) (none n (word_at l))
    ∙ ap (λ b. b == 1) (bit_at-zero (place_at l))
    ∙ sym (get_or-replicate (64 * n) l false false (omega (arith, long))))
  where
    none : (n k : ℕ) → get_or {A = ℕ} (replicate n 0) k 0 ≡ 0
    none zero k = refl
    none (suc n) zero = refl
    none (suc n) (suc k) = none n k

pub bits-empty : (words : List ℕ) (n : ℕ) → ◌≡◌ {A = List ℕ} words (replicate n 0) → bits_of words ≡ replicate (length (bits_of words)) false
bits-empty words n are = bits-none words n are ∙ ap (λ k. replicate k false) (sym (length-bits words ∙ ap (λ k. 64 * k) (ap length are ∙ length-replicate n 0)))

-- ---- one bit is written

module _ (words : List ℕ) (l word : ℕ) (even : length words % 3 ≡ 0) (within : l < 64 * length words) (b : Bool) (here : bit_at word (place_at l) == 1 ≡ b) (kept : (i : ℕ) → i < 64 → i ≢ place_at l → bit_at word i ≡ bit_at (get_or words (word_at l) 0) i) where
  bit-same : bit_of (set words (word_at l) word) l ≡ b
  bit-same = ap (λ w. bit_at w (place_at l) == 1) (get_or-set_same words (word_at l) word 0 (word-below (length words) l even within)) ∙ here

  bit-other : (m : ℕ) → m ≢ l → bit_of (set words (word_at l) word) m ≡ bit_of words m
  bit-other m apart =
      elim (cases_eq (word_at m) (word_at l)) [
        | inl same ↦
            ap (λ k. bit_at (get_or (set words (word_at l) word) k 0) (place_at m) == 1) same
            ∙ ap (λ w. bit_at w (place_at m) == 1) (get_or-set_same words (word_at l) word 0 (word-below (length words) l even within))
            ∙ ap (λ v. v == 1) (kept (place_at m) (omega arith) (λ place. apart (same-list m l same place)))
            ∙ ap (λ k. bit_at (get_or words k 0) (place_at m) == 1) (sym same)
        | inr differs ↦ ap (λ w. bit_at w (place_at m) == 1) (get_or-set_other words (word_at l) (word_at m) word 0 differs)
      ]

  bits-set : bits_of (set words (word_at l) word) ≡ set (bits_of words) l b
  bits-set =
      let long = length-bits words in
      let long' = length-bits (set words (word_at l) word) in
      let same = length-set words (word_at l) word in
      ext_get_or false _ _ (long' ∙ ap (λ k. 64 * k) same ∙ sym long ∙ sym (length-set (bits_of words) l b)) (λ m h.
      let below : m < 64 * length words = omega (arith, long', same) in
      let below' : m < 64 * length (set words (word_at l) word) = omega (arith, long') in
      bit-read (set words (word_at l) word) m below'
      ∙ elim (cases_eq m l) as (λ _. bit_of (set words (word_at l) word) m ≡ get_or (set (bits_of words) l b) m false) [
        | inl e ↦ ap (bit_of (set words (word_at l) word)) e ∙ bit-same ∙ sym (get_or-set_same (bits_of words) l b false (omega (arith, long))) ∙ ap (λ k. get_or (set (bits_of words) l b) k false) (sym e)
        | inr apart ↦ bit-other m apart ∙ sym (bit-read words m below) ∙ sym (get_or-set_other (bits_of words) l m b false apart)
      ])

module _ (words : List ℕ) (are : AreWords words) (v : List Bool) (is_v : bits_of words ≡ v) (l : ℕ) (within : l < length v) where
  inside : l < 64 * length words
  inside = (let long = length-bits words in let same : length (bits_of words) ≡ length v = ap length is_v in omega arith)

  pub word-within : word_at l < length words
  word-within = word-below (length words) l are.even inside

  module _ (word : ℕ) (is : word ≡ get_or words (word_at l) word) where
    kept-of : (other i : ℕ) → bit_at other i ≡ bit_at word i → bit_at other i ≡ bit_at (get_or words (word_at l) 0) i
    kept-of other i same = same ∙ ap (λ w. bit_at w i) (is ∙ get_or_default words (word_at l) word 0 word-within)

    pub bits-added : bits_of (set words (word_at l) (bit_or word (1 * 2 ^ place_at l % 2 ^ 64))) ≡ set v l true
    bits-added =
        let low : place_at l < 64 = omega arith in
        bits-set words l _ are.even inside true (ap (λ b. b == 1) (bit_at_set_same w64 word (place_at l) low)) (λ i below apart. kept-of _ i (bit_at_set_other w64 word (place_at l) low i apart))
        ∙ ap (λ bits. set bits l true) is_v

    pub bits-removed : bits_of (set words (word_at l) (bit_and word (bit_not w64 (1 * 2 ^ place_at l % 2 ^ 64)))) ≡ set v l false
    bits-removed =
        let low : place_at l < 64 = omega arith in
        bits-set words l _ are.even inside false (ap (λ b. b == 1) (bit_at_clear_same w64 word (place_at l) low)) (λ i below apart. kept-of _ i (bit_at_clear_other w64 word (place_at l) low i below apart))
        ∙ ap (λ bits. set bits l false) is_v

-- ---- the next bit

-- the word that is read
pub word-is : (words : List ℕ) (at c class word : ℕ) → c ≡ class → 3 * at + c < length words → word ≡ get_or words (3 * at + c) word → word ≡ get_or words (3 * at + class) 0
word-is words at c class word same within is = is ∙ get_or_default words (3 * at + c) word 0 within ∙ ap (λ k. get_or words (3 * at + k) 0) same

-- the part of a word from a bit on
abbrev masked : ℕ → ℕ → ℕ
masked word k = bit_and word ((2 ^ 64 - 1) * 2 ^ k % 2 ^ 64)

module _ (word k : ℕ) (low : k < 64) where
  mask : masked word k ≡ bit_and word (2 ^ 64 - 2 ^ k)
  mask = ap (bit_and word) (ones_shl 64 k (omega arith))

  masked-above : (i : ℕ) → k ≤ i → i < 64 → bit_at (masked word k) i ≡ bit_at word i
  masked-above i ge lt =
      let few = bit_at-lt word i in
      ap (λ m. bit_at m i) mask ∙ bit_at_and word (2 ^ 64 - 2 ^ k) i ∙ ap (min (bit_at word i)) (bit_at_mask_inside k 64 i ge lt) ∙ omega arith

  masked-below : (i : ℕ) → i < k → bit_at (masked word k) i ≡ 0
  masked-below i lt = ap (λ m. bit_at m i) mask ∙ bit_at_and word (2 ^ 64 - 2 ^ k) i ∙ ap (min (bit_at word i)) (bit_at_mask_below k 64 i lt) ∙ omega arith

  masked-fits : word < 2 ^ 64 → masked word k < 2 ^ 64
  masked-fits fits = let le = and_le_l word ((2 ^ 64 - 1) * 2 ^ k % 2 ^ 64) in omega arith

module _ (words : List ℕ) (are : AreWords words) (v : List Bool) (is_v : bits_of words ≡ v) (class : ℕ) (class_few : class < 3) where
  bit-lane : (n : ℕ) → bit_of words (3 * n + class) ≡ (bit_at (get_or words (3 * (n / 64) + class) 0) (n % 64) == 1)
  bit-lane n =
      let lane : (3 * n + class) / 3 ≡ n = omega arith in
      let kind : (3 * n + class) % 3 ≡ class = omega arith in
      λ i. bit_at (get_or words (3 * (lane i / 64) + kind i) 0) (lane i % 64) == 1

  has-bit : (n : ℕ) → 3 * n < 64 * length words → has_bit v class n ≡ (bit_at (get_or words (3 * (n / 64) + class) 0) (n % 64) == 1)
  has-bit n within = ap (λ l. has_bit l class n) (sym is_v) ∙ bit-read words (3 * n + class) (let even = are.even in omega arith) ∙ bit-lane n

  pub past-none : (n : ℕ) → 64 * length words ≤ 3 * n → has_bit v class n ≡ false
  past-none n past = ap (λ l. has_bit l class n) (sym is_v) ∙ bit-past words (3 * n + class) (omega arith)

  -- a lane without a bit, within or not
  none-at : (n : ℕ) → bit_at (get_or words (3 * (n / 64) + class) 0) (n % 64) ≡ 0 → has_bit v class n ≡ false
  none-at n zeroes = elim (cases_lt (3 * n) (64 * length words)) [
    | inl within ↦ has-bit n within ∙ ap (λ v. v == 1) zeroes
    | inr past ↦ past-none n past
  ]

  -- a part of a word: its bits from one on, and none below
  module _ (group from part word : ℕ) (is : word ≡ get_or words (3 * group + class) 0) (above : (i : ℕ) → from ≤ i → i < 64 → bit_at part i ≡ bit_at word i) (below : (i : ℕ) → i < from → bit_at part i ≡ 0) (low : from < 64) where
    bit-part : (n : ℕ) → n / 64 ≡ group → from ≤ n % 64 → bit_at (get_or words (3 * (n / 64) + class) 0) (n % 64) ≡ bit_at part (n % 64)
    bit-part n at ge = ap (λ k. bit_at (get_or words (3 * k + class) 0) (n % 64)) at ∙ ap (λ w. bit_at w (n % 64)) (sym is) ∙ sym (above (n % 64) ge (omega arith))

    part-none : part ≡ 0 → (n : ℕ) → 64 * group + from ≤ n → n < 64 * (group + 1) → has_bit v class n ≡ false
    part-none none n ge lt = none-at n (bit-part n (omega arith) (omega arith) ∙ ap (λ w. bit_at w (n % 64)) none ∙ bit_at-zero (n % 64))

    module _ (some : 0 < part) (fits : part < 2 ^ 64) (within : 3 * group + class < length words) where
      lowest : (trailing_zeros w64 part < 64) × (bit_at part (trailing_zeros w64 part) ≡ 1) × ((i : ℕ) → i < trailing_zeros w64 part → bit_at part i ≡ 0)
      lowest = bit_at-trailing_zeros w64 part some fits

      from-on : from ≤ trailing_zeros w64 part
      from-on = elim (cases_lt (trailing_zeros w64 part) from) [
        | inl lt ↦ absurd (let none = below (trailing_zeros w64 part) lt in let one = lowest.1 in omega arith)
        | inr ge ↦ ge
      ]

      part-first : (lane : ℕ) → lane ≡ 64 * group + from → IsNextBit v class lane (Some (64 * group + trailing_zeros w64 part))
      part-first lane starts =
          let t = trailing_zeros w64 part in
          let few = lowest.0 in
          let at : (64 * group + t) / 64 ≡ group = omega arith in
          let place : (64 * group + t) % 64 ≡ t = omega arith in
          let even = are.even in
          let ge = from-on in
          let one = bit-part (64 * group + t) at (omega arith) ∙ ap (bit_at part) place ∙ lowest.1 in
          record {
            not_before = omega arith;
            within = omega arith;
            here = λ lt none. both_ways _ none (has-bit (64 * group + t) (omega arith) ∙ ap (λ v. v == 1) one);
            passed = λ n above below. none-at n (bit-part n (omega arith) (omega arith) ∙ lowest.2 (n % 64) (omega arith));
          }

  -- no lane up to one has a bit: the next one from there is the next one
  pub further : (lane later : ℕ) (r : Option ℕ) → lane ≤ later → ((n : ℕ) → lane ≤ n → n < later → has_bit v class n ≡ false) → IsNextBit v class later r → IsNextBit v class lane r
  further lane later None le none next = λ n from. such-at lane later n none from (next n)
  further lane later (Some k) le none next = first-further lane later (k + 1) k le none next

  -- the whole word
  module _ (group word : ℕ) (is : word ≡ get_or words (3 * group + class) 0) where
    pub word-none : word ≡ 0 → (n : ℕ) → 64 * group ≤ n → n < 64 * (group + 1) → has_bit v class n ≡ false
    word-none none n ge lt = part-none group 0 word word is (λ i from below. refl) (λ i lt'. absurd (omega arith)) (omega arith) none n (omega arith) lt

    pub word-first : 0 < word → word < 2 ^ 64 → 3 * group + class < length words → IsNextBit v class (64 * group) (Some (64 * group + trailing_zeros w64 word))
    word-first some fits within =
        part-first group 0 word word is (λ i from below. refl) (λ i lt'. absurd (omega arith)) (omega arith) some fits within (64 * group) (omega arith)

  -- the word from a lane on
  module _ (lane word : ℕ) (is : word ≡ get_or words (3 * (lane / 64) + class) 0) where
    low : lane % 64 < 64
    low = omega arith

    pub lane-none : masked word (lane % 64) ≡ 0 → (n : ℕ) → lane ≤ n → n < 64 * (lane / 64 + 1) → has_bit v class n ≡ false
    lane-none none n ge lt = part-none (lane / 64) (lane % 64) (masked word (lane % 64)) word is (masked-above word (lane % 64) low) (masked-below word (lane % 64) low) low none n (omega arith) lt

    pub lane-first : 0 < masked word (lane % 64) → word < 2 ^ 64 → 3 * (lane / 64) + class < length words → IsNextBit v class lane (Some (64 * (lane / 64) + trailing_zeros w64 (masked word (lane % 64))))
    lane-first some fits within =
        part-first (lane / 64) (lane % 64) (masked word (lane % 64)) word is (masked-above word (lane % 64) low) (masked-below word (lane % 64) low) low some (masked-fits word (lane % 64) low fits) within lane (omega arith)
