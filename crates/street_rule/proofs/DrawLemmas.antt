-- Kept bits and draws.
use Rattle.std.proofs.Common.{◌≡◌, ℕ, zero, suc, ◌+◌, ◌-◌, ◌*◌, ◌/◌, ◌%◌, ◌^◌, ◌<◌, ◌≤◌, Bool, true, false, List, refl, sym, ap, ap₂, ◌∙◌, inl, inr, Fits, w64, arith, IsTrue, ◌↔◌, nat_lt, nat_le, ◌==◌, if◌then◌else◌}
use Rattle.std.proofs.lemmas.Bool.{eq-eqb, ne_eqb, lt-ltb, le-ltb, false≢true}
use Rattle.std.proofs.lemmas.Bool.Decides.{leb_tells}
use Rattle.std.proofs.Math.Nat.{pow-succ', mul_assoc, div-one, div-div-eq-div-mul}
use lib.Lanes.{top}
use Rattle.rand_chacha.specs.ChaCha.{ChaCha, word_at, next_word}
use Rattle.street_base.specs.Prelude.{draw, key_of_seed, lane_draw, dawdle_draw}
use Rattle.street_base.proofs.DrawLemmas.{draw-below}
use Rattle.street_rule.specs.Prelude.{is_drawn, bits_of, is_within, Asked}

pub one-bit : (b : Bool) → (if b then 1 else 0) ≤ 1
one-bit true = omega arith
one-bit false = omega arith

pub bits-below : (test : ℕ → Bool) (n : ℕ) → bits_of test n < 2 ^ n
bits-below test zero = omega arith
bits-below test (suc n) =
    let b = one-bit (test 0) in
    let h = bits-below (λ i. test (suc i)) n in
    let e : 2 ^ suc n ≡ 2 * 2 ^ n = pow-succ' 2 n in
    omega arith

-- the same answers
bits-same : (t u : ℕ → Bool) (n : ℕ) → ((i : ℕ) → i < n → t i ≡ u i) → bits_of t n ≡ bits_of u n
bits-same t u zero h = refl
bits-same t u (suc n) h = ap₂ (λ b r. (if b then 1 else 0) + 2 * r) (h 0 (omega arith)) (bits-same (λ i. t (suc i)) (λ i. u (suc i)) n (λ i l. h (suc i) (omega (arith, l))))

-- answers, and more after them
bits-more : (t : ℕ → Bool) (m n : ℕ) → bits_of t (m + n) ≡ bits_of t m + 2 ^ m * bits_of (λ i. t (m + i)) n
bits-more t zero n =
    let same : bits_of (λ i. t (0 + i)) n ≡ bits_of t n = bits-same (λ i. t (0 + i)) t n (λ i _. ap t (omega arith)) in
    let whole : bits_of t (0 + n) ≡ bits_of t n = ap (bits_of t) (omega arith) in
    omega (arith, same, whole)
bits-more t (suc m) n =
    let rest = bits-more (λ i. t (suc i)) m n in
    let more = bits_of (λ i. t (suc (m + i))) n in
    let same : bits_of (λ i. t (suc m + i)) n ≡ more = bits-same (λ i. t (suc m + i)) (λ i. t (suc (m + i))) n (λ i _. ap t (omega arith)) in
    let sum : suc m + n ≡ suc (m + n) = omega arith in
    let whole : bits_of t (suc m + n) ≡ bits_of t (suc (m + n)) = ap (bits_of t) sum in
    let double : 2 ^ suc m * more ≡ 2 * (2 ^ m * more) = ap (λ p. p * more) (pow-succ' 2 m) ∙ mul_assoc 2 (2 ^ m) more in
    let split : bits_of t (suc (m + n)) ≡ bits_of t (suc m) + 2 ^ suc m * more = omega (arith, rest, double) in
    whole ∙ split ∙ ap (λ r. bits_of t (suc m) + 2 ^ suc m * r) (sym same)

low-bit : (a : ℕ) (b : Bool) → (((if b then 1 else 0) + 2 * a) % 2 == 1) ≡ b
low-bit a true = eq-eqb _ _ (omega arith)
low-bit a false = ne_eqb _ _ (λ e. absurd (omega arith))

half : (a : ℕ) (b : Bool) → ((if b then 1 else 0) + 2 * a) / 2 ≡ a
half a true = omega arith
half a false = omega arith

-- one of the answers
pub bit-is : (test : ℕ → Bool) (n i : ℕ) → i < n → (bits_of test n / 2 ^ i % 2 == 1) ≡ test i
bit-is test zero i h = absurd (omega arith)
bit-is test (suc n) zero h = ap (λ q. (q % 2 == 1)) (div-one (bits_of test (suc n))) ∙ low-bit (bits_of (λ i. test (suc i)) n) (test 0)
bit-is test (suc n) (suc i) h =
    let rest = bits_of (λ i. test (suc i)) n in
    let halved : bits_of test (suc n) / 2 ^ suc i ≡ rest / 2 ^ i =
    ap (λ d. bits_of test (suc n) / d) (pow-succ' 2 i) ∙ sym (div-div-eq-div-mul (bits_of test (suc n)) 2 (2 ^ i)) ∙ ap (λ a. a / 2 ^ i) (half rest (test 0)) in
    ap (λ q. (q % 2 == 1)) halved ∙ bit-is (λ i. test (suc i)) n i (omega arith)

-- words asked, and more after them
shifted : (lane slow m i : ℕ) (g h : ChaCha) → m % 2 ≡ 0 → h ≡ record g { word_pos = g.word_pos + m } → is_within lane slow h i ≡ is_within lane slow g (m + i)
shifted lane slow m i g h even is =
    let place : g.word_pos + m + i ≡ g.word_pos + (m + i) = omega arith in
    let turn : i % 2 ≡ (m + i) % 2 = omega (arith, even) in
    ap (λ (s : ChaCha). is_within lane slow s i) is
    ∙ ap₂ (λ p r. nat_le (word_at 10 g.key g.stream p) (if r == 0 then lane else slow)) place turn

joined : (m n lane slow : ℕ) (g h k : ChaCha) (a b : ℕ) → m % 2 ≡ 0 → Asked m lane slow g h a → Asked n lane slow h k b → Asked (m + n) lane slow g k (a + 2 ^ m * b)
joined m n lane slow g h k a b even p q = record {
  answers =
      ap₂ (λ x y. x + 2 ^ m * y) p.answers (q.answers ∙ bits-same (is_within lane slow h) (λ i. is_within lane slow g (m + i)) n (λ i _. shifted lane slow m i g h even p.moved))
      ∙ sym (bits-more (is_within lane slow g) m n);
  moved =
      let sum : g.word_pos + m + n ≡ g.word_pos + (m + n) = omega arith in
      q.moved ∙ ap (λ (s : ChaCha). record s { word_pos = s.word_pos + n }) p.moved ∙ ap (λ w. record g { word_pos = w }) sum;
}

draw-is : (seed number place odds : ℕ) → nat_lt (draw seed number place) odds ≡ is_drawn (key_of_seed seed) odds number place
unfolding draw
draw-is seed number place odds = refl

-- nobody's draw is below 0, and each is below 1,000
pub settled : (seed number place odds : ℕ) (drawn : Bool) → (IsTrue drawn ↔ (0 < odds) × (odds < 1000)) → drawn ≡ false → nat_lt 0 odds ≡ nat_lt (draw seed number place) odds
settled seed number place odds drawn tells fails = elim (leb_tells 1000 odds) as (λ _. nat_lt 0 odds ≡ nat_lt (draw seed number place) odds) [
  | inl t ↦ lt-ltb _ _ (omega (arith, t.1)) ∙ sym (lt-ltb _ _ (omega (arith, t.1, draw-below seed number place)))
  | inr f ↦ elim (leb_tells 1 odds) as (λ _. nat_lt 0 odds ≡ nat_lt (draw seed number place) odds) [
    | inl t ↦ absurd (false≢true (sym fails ∙ tells.1 (t.1, f.1)))
    | inr f ↦ le-ltb _ _ (omega (arith, f.1)) ∙ sym (le-ltb _ _ (omega (arith, f.1)))
  ]
]

-- the words whose draw is below the odds are those up to the last
below-is : (word odds last : ℕ) → 0 < odds → last ≡ (odds * 2 ^ 32 - 1) / 1000 → nat_le word last ≡ nat_lt (word * 1000 / 2 ^ 32) odds
below-is word odds last some is = elim (leb_tells word last) as (λ _. nat_le word last ≡ nat_lt (word * 1000 / 2 ^ 32) odds) [
  | inl t ↦ t.0 ∙ sym (lt-ltb _ _ (omega (arith, t.1, is, some)))
  | inr f ↦ f.0 ∙ sym (le-ltb _ _ (omega (arith, f.1, is, some)))
]

-- a bit of 64 words asked from a block's first on
asked-bit : (lane slow bits i : ℕ) (g h : ChaCha) → Asked 64 lane slow g h bits → i < 64 → (bits / 2 ^ i % 2 == 1) ≡ is_within lane slow g i
asked-bit lane slow bits i g h asked small = ap (λ b. (b / 2 ^ i % 2 == 1)) asked.answers ∙ bit-is (is_within lane slow g) 64 i small

abbrev pub at_block : List ℕ → ℕ → ℕ → ChaCha
at_block key number block = record { key = key; stream = number; word_pos = block * 64 }

pub lane-asked : (key : List ℕ) (number block lane slow bits odds i : ℕ) (h : ChaCha) → Asked 64 lane slow (at_block key number block) h bits → 0 < odds → lane ≡ (odds * 2 ^ 32 - 1) / 1000 → i < 32
    → (bits / 2 ^ (2 * i) % 2 == 1) ≡ is_drawn key odds number (block * 64 + 2 * i)
lane-asked key number block lane slow bits odds i h asked some is small =
    let even : 2 * i % 2 ≡ 0 = omega arith in
    asked-bit lane slow bits (2 * i) (at_block key number block) h asked (omega (arith, small))
    ∙ ap (λ r. nat_le (word_at 10 key number (block * 64 + 2 * i)) (if r == 0 then lane else slow)) even
    ∙ below-is (word_at 10 key number (block * 64 + 2 * i)) odds lane some is

pub slow-asked : (key : List ℕ) (number block lane slow bits odds i : ℕ) (h : ChaCha) → Asked 64 lane slow (at_block key number block) h bits → 0 < odds → slow ≡ (odds * 2 ^ 32 - 1) / 1000 → i < 32
    → (bits / 2 ^ (2 * i + 1) % 2 == 1) ≡ is_drawn key odds number (block * 64 + 2 * i + 1)
slow-asked key number block lane slow bits odds i h asked some is small =
    let odd : (2 * i + 1) % 2 ≡ 1 = omega arith in
    let place : block * 64 + (2 * i + 1) ≡ block * 64 + 2 * i + 1 = omega arith in
    asked-bit lane slow bits (2 * i + 1) (at_block key number block) h asked (omega (arith, small))
    ∙ ap₂ (λ p r. nat_le (word_at 10 key number p) (if r == 0 then lane else slow)) place odd
    ∙ below-is (word_at 10 key number (block * 64 + 2 * i + 1)) odds slow some is

-- the bit of a step
pub slow-bit : (seed number step odds block bits : ℕ) → block ≡ step / 32
    → ((i : ℕ) → i < 32 → (bits / 2 ^ (2 * i + 1) % 2 == 1) ≡ is_drawn (key_of_seed seed) odds number (block * 64 + 2 * i + 1))
    → (bits / 2 ^ (2 * (step % 32) + 1) % 2 == 1) ≡ nat_lt (dawdle_draw seed number step) odds
slow-bit seed number step odds block bits at is =
    let place : block * 64 + 2 * (step % 32) + 1 ≡ 2 * step + 1 = omega arith in
    is (step % 32) (omega arith)
    ∙ ap (is_drawn (key_of_seed seed) odds number) place
    ∙ sym (draw-is seed number (2 * step + 1) odds)

pub lane-bit : (seed number step odds block bits : ℕ) → block ≡ step / 32
    → ((i : ℕ) → i < 32 → (bits / 2 ^ (2 * i) % 2 == 1) ≡ is_drawn (key_of_seed seed) odds number (block * 64 + 2 * i))
    → (bits / 2 ^ (2 * (step % 32)) % 2 == 1) ≡ nat_lt (lane_draw seed number step) odds
lane-bit seed number step odds block bits at is =
    let place : block * 64 + 2 * (step % 32) ≡ 2 * step = omega arith in
    is (step % 32) (omega arith)
    ∙ ap (is_drawn (key_of_seed seed) odds number) place
    ∙ sym (draw-is seed number (2 * step) odds)

-- the next word of a stream
pub next-is : (g h : ChaCha) (r : ℕ) (key : List ℕ) (stream pos : ℕ) → ◌≡◌ {A = ℕ × ChaCha} (r, h) (next_word 10 g) → g ≡ record { key = key; stream = stream; word_pos = pos } → pos + 1 < 2 ^ 68
    → (r ≡ word_at 10 key stream pos) × (h ≡ record { key = key; stream = stream; word_pos = pos + 1 })
next-is g h r key stream pos e is small =
    let start : ChaCha = record { key = key; stream = stream; word_pos = pos } in
    let short : (pos + 1) % 2 ^ 68 ≡ pos + 1 = omega arith in (
      ap (λ (p : ℕ × ChaCha). p.0) e ∙ ap (λ (s : ChaCha). (next_word 10 s).0) is,
      ap (λ (p : ℕ × ChaCha). p.1) e ∙ ap (λ (s : ChaCha). (next_word 10 s).1) is ∙ ap (λ (w : ℕ). record start { word_pos = w }) short,
    )

-- the word asked at a place, scaled, is the draw
pub draw-read : (g h : ChaCha) (r seed number place : ℕ) → ◌≡◌ {A = ℕ × ChaCha} (r, h) (next_word 10 g) → g ≡ record { key = key_of_seed seed; stream = number; word_pos = place } → place + 1 < 2 ^ 68 → r * 1000 / 2 ^ 32 ≡ draw seed number place
unfolding draw
draw-read g h r seed number place e is small = ap (λ w. w * 1000 / 2 ^ 32) (next-is g h r (key_of_seed seed) number place e is small).0

-- a generator set to a place, and then to a stream
pub placed : (fresh at streamed : ChaCha) (key : List ℕ) (stream place s w : ℕ) → at ≡ record fresh { word_pos = w } → streamed ≡ record at { stream = s } → fresh.key ≡ key → s ≡ stream → w ≡ place → streamed ≡ record { key = key; stream = stream; word_pos = place }
placed fresh at streamed key stream place s w a b k p q = rw (b, a, k, p, q) refl

-- a lane of a comparison, as its mask tells
lane-told : (t : Bool) → ◌≡◌ {A = ℕ} (if top 31 (if t then 4294967295 else 0) then 1 else 0) (if t then 1 else 0)
lane-told true = refl
lane-told false = refl

told : (p q r s : Bool) → ((if top 31 (if p then 4294967295 else 0) then 1 else 0) + 2 * ((if top 31 (if q then 4294967295 else 0) then 1 else 0) + 2 * ((if top 31 (if r then 4294967295 else 0) then 1 else 0) + 2 * ((if top 31 (if s then 4294967295 else 0) then 1 else 0) + 0)))) % 2 ^ 64
    ≡ (if p then 1 else 0) + 2 * ((if q then 1 else 0) + 2 * ((if r then 1 else 0) + 2 * ((if s then 1 else 0) + 0)))
told p q r s = rw (lane-told p, lane-told q, lane-told r, lane-told s) (omega (arith, one-bit p, one-bit q, one-bit r, one-bit s))

four-bits : (t : ℕ → Bool) (p q r s : Bool) → p ≡ t 0 → q ≡ t 1 → r ≡ t 2 → s ≡ t 3 → (if p then 1 else 0) + 2 * ((if q then 1 else 0) + 2 * ((if r then 1 else 0) + 2 * ((if s then 1 else 0) + 0))) ≡ bits_of t 4
four-bits t p q r s a b c d = rw (a, b, c, d) refl

word-within : (lane slow word i limit : ℕ) (g : ChaCha) (place : ℕ) → word ≡ word_at 10 g.key g.stream place → place ≡ g.word_pos + i → (if i % 2 == 0 then lane else slow) ≡ limit → nat_le word limit ≡ is_within lane slow g i
word-within lane slow word i limit g place is at turn = ap₂ nat_le (is ∙ ap (word_at 10 g.key g.stream) at) (sym turn)

-- four words asked, and compared side by side
pub asked-four : (lane slow : ℕ) (g h1 h2 h3 h4 : ChaCha) (a b c d : ℕ)
    → ◌≡◌ {A = ℕ × ChaCha} (a, h1) (next_word 10 g) → ◌≡◌ {A = ℕ × ChaCha} (b, h2) (next_word 10 h1) → ◌≡◌ {A = ℕ × ChaCha} (c, h3) (next_word 10 h2) → ◌≡◌ {A = ℕ × ChaCha} (d, h4) (next_word 10 h3)
    → g.word_pos + 4 < 2 ^ 68
    → Asked 4 lane slow g h4 (((if top 31 (if nat_le a lane then 4294967295 else 0) then 1 else 0) + 2 * ((if top 31 (if nat_le b slow then 4294967295 else 0) then 1 else 0) + 2 * ((if top 31 (if nat_le c lane then 4294967295 else 0) then 1 else 0) + 2 * ((if top 31 (if nat_le d slow then 4294967295 else 0) then 1 else 0) + 0)))) % 2 ^ 64)
asked-four lane slow g h1 h2 h3 h4 a b c d e1 e2 e3 e4 small =
    let n1 = next-is g h1 a g.key g.stream g.word_pos e1 refl (omega (arith, small)) in
    let n2 = next-is h1 h2 b g.key g.stream (g.word_pos + 1) e2 n1.1 (omega (arith, small)) in
    let n3 = next-is h2 h3 c g.key g.stream (g.word_pos + 1 + 1) e3 n2.1 (omega (arith, small)) in
    let n4 = next-is h3 h4 d g.key g.stream (g.word_pos + 1 + 1 + 1) e4 n3.1 (omega (arith, small)) in
    let end : g.word_pos + 1 + 1 + 1 + 1 ≡ g.word_pos + 4 = omega arith in
    record {
      answers = told (nat_le a lane) (nat_le b slow) (nat_le c lane) (nat_le d slow)
          ∙ four-bits (is_within lane slow g) _ _ _ _
          (word-within lane slow a 0 lane g _ n1.0 (omega arith) refl)
          (word-within lane slow b 1 slow g _ n2.0 (omega arith) refl)
          (word-within lane slow c 2 lane g _ n3.0 (omega arith) refl)
          (word-within lane slow d 3 slow g _ n4.0 (omega arith) refl);
      moved = n4.1 ∙ ap (λ w. record g { word_pos = w }) end;
    }

-- four times as many words
pub joined-four : (m lane slow : ℕ) (g h1 h2 h3 h4 : ChaCha) (a b c d : ℕ) → m % 2 ≡ 0 → g.word_pos + m + m + m + m < 2 ^ 68
    → (g.word_pos + m < 2 ^ 68 → Asked m lane slow g h1 a) → (h1.word_pos + m < 2 ^ 68 → Asked m lane slow h1 h2 b) → (h2.word_pos + m < 2 ^ 68 → Asked m lane slow h2 h3 c) → (h3.word_pos + m < 2 ^ 68 → Asked m lane slow h3 h4 d)
    → Asked (m + m + m + m) lane slow g h4 (a + 2 ^ m * b + 2 ^ (m + m) * c + 2 ^ (m + m + m) * d)
joined-four m lane slow g h1 h2 h3 h4 a b c d even small p q r s =
    let one = p (omega (arith, small)) in
    let at1 : h1.word_pos ≡ g.word_pos + m = ap (λ (x : ChaCha). x.word_pos) one.moved in
    let two = joined m m lane slow g h1 h2 a b even one (q (omega (arith, small, at1))) in
    let at2 : h2.word_pos ≡ g.word_pos + (m + m) = ap (λ (x : ChaCha). x.word_pos) two.moved in
    let three = joined (m + m) m lane slow g h2 h3 _ c (omega (arith, even)) two (r (omega (arith, small, at2))) in
    let at3 : h3.word_pos ≡ g.word_pos + (m + m + m) = ap (λ (x : ChaCha). x.word_pos) three.moved in
    joined (m + m + m) m lane slow g h3 h4 _ d (omega (arith, even)) three (s (omega (arith, small, at3)))

-- ---- numbers of four bits, side by side

module _ (a b c d : ℕ) (ha : a < 16) (hb : b < 16) (hc : c < 16) (hd : d < 16) where
  pub four-below : a + b * 16 + c * 256 + d * 4096 < 65536
  four-below = omega arith

  -- each number on the way fits
  pub four-fit : Fits w64 (b * 16) × Fits w64 (a + b * 16) × Fits w64 (c * 256) × Fits w64 (a + b * 16 + c * 256) × Fits w64 (d * 4096) × Fits w64 (a + b * 16 + c * 256 + d * 4096)
  four-fit = (omega arith, omega arith, omega arith, omega arith, omega arith, omega arith)
