-- The lowest 32 bits of a spot are what is written of it.
use Rattle.std.proofs.Common.{◌≡◌, ℕ, ◌/◌, ◌%◌, List, [], ◌∷◌, ◌++◌, map, refl, ap, arith}
use Rattle.std.specs.Int.{w32, to_le_bytes}
use Rattle.street_base.specs.declared.record.RecordRow.{RecordRow}
use Rattle.street_base.specs.Prelude.{row_bytes, rows_bytes}
use Rattle.street_record.specs.Rows.{as_written}

byte-0 : (n : ℕ) → n % 4294967296 % 256 ≡ n % 256
byte-0 n = omega arith

byte-1 : (n : ℕ) → n % 4294967296 / 256 % 256 ≡ n / 256 % 256
byte-1 n = omega arith

byte-2 : (n : ℕ) → n % 4294967296 / 65536 % 256 ≡ n / 65536 % 256
byte-2 n = omega arith

byte-3 : (n : ℕ) → n % 4294967296 / 16777216 % 256 ≡ n / 16777216 % 256
byte-3 n = omega arith

same-bytes : (n : ℕ) → to_le_bytes w32 (n % 4294967296) ≡ to_le_bytes w32 n
same-bytes n =
    let a = byte-0 n in
    let b = byte-1 n in
    let c = byte-2 n in
    let d = byte-3 n in
    λ i. a i ∷ b i ∷ c i ∷ d i ∷ []

row-same : (row : RecordRow) → row_bytes (as_written row) ≡ row_bytes row
row-same row = ap (λ (bytes : List ℕ). to_le_bytes w32 row.car ++ to_le_bytes w32 row.slot ++ bytes ++ to_le_bytes w32 row.speed) (same-bytes row.spot)

-- rows as they are written have the bytes of the rows
pub rows-same : (rows : List RecordRow) → rows_bytes (map as_written rows) ≡ rows_bytes rows
rows-same [] = refl
rows-same (row ∷ rows) =
    let here = row-same row in
    let rest = rows-same rows in
    λ i. here i ++ rest i
