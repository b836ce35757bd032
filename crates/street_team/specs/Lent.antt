-- What is said of items that are lent.
use Rattle.std.specs.Prelude.{ℕ, ◌≡◌, ◌+◌, ◌<◌, List, Bool, Vec, length, vec_len, slice_index_or}

-- that each item of xs may be worked on in this part of a step: `may` holds of the part, the item's position, the marks
-- `shown` that all threads read, and the item; so where xs is empty
abbrev pub AllMay : {T : Type 0} → (ℕ → ℕ → List Bool → T → Type 0) → ℕ → List Bool → List T → Type 0
AllMay {T} may part shown xs = (i : ℕ) (d : T) → i < length xs → may part i shown (slice_index_or xs i d)

-- that each item of ys is what this part of a step made of the item of xs at its position: `does` holds of part,
-- position, the marks `shown` that all threads read, and both; that ys is as long as xs is not said
abbrev pub EachDoes : {T : Type 0} → (ℕ → ℕ → List Bool → T → T → Type 0) → ℕ → List Bool → List T → List T → Type 0
EachDoes {T} does part shown xs ys = (i : ℕ) (d : T) → i < length xs → does part i shown (slice_index_or xs i d) (slice_index_or ys i d)

-- that each item of xs may be worked on in this part: `may` holds of it, with the marks `shown`, where the items are
-- numbered from the back: the last is number `first`, the one before it `first + 1`
abbrev pub BackMay : {T : Type 0} → (ℕ → ℕ → List Bool → T → Type 0) → ℕ → ℕ → List Bool → List T → Type 0
BackMay {T} may part first shown xs = (j k : ℕ) (d : T) → j + k + 1 ≡ length xs → may part (first + k) shown (slice_index_or xs j d)

-- that each item of xs became that of ys at its position: `does` holds of both, with part and marks `shown`, where the
-- items are numbered from the back: the last is number `first`, the one before it `first + 1`
abbrev pub BackDoes : {T : Type 0} → (ℕ → ℕ → List Bool → T → T → Type 0) → ℕ → ℕ → List Bool → List T → List T → Type 0
BackDoes {T} does part first shown xs ys = (j k : ℕ) (d : T) → j + k + 1 ≡ length xs
    → does part (first + k) shown (slice_index_or xs j d) (slice_index_or ys j d)

-- that the block has items of xs from position n on, in the opposite order: its last is item n of xs, the one before it
-- item n + 1, and so on; so always where the block is empty
abbrev pub IsBackOf : {T A : Type 0} → List T → ℕ → Vec T A → Type 0
IsBackOf {T} xs n block = (j k : ℕ) (d : T) → j + k + 1 ≡ vec_len block → slice_index_or block.items j d ≡ slice_index_or xs (n + k) d

-- that xs has, from position n on, the items of the block in the opposite order: item n is the block's last, item n + 1
-- the one before it, and so on; `IsBackOf` says the same from the block's side
abbrev pub HasBack : {T A : Type 0} → List T → ℕ → Vec T A → Type 0
HasBack {T} xs n block = (j k : ℕ) (d : T) → j + k + 1 ≡ vec_len block → slice_index_or xs (n + k) d ≡ slice_index_or block.items j d
