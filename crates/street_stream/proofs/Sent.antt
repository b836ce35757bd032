-- Bytes that go out in parts.
use Rattle.std.proofs.Common.{◌≡◌, ℕ, ◌+◌, ◌-◌, ◌≤◌, List, ◌++◌, length, take, drop, arith}
use Rattle.std.proofs.lemmas.List.{take_all, length-drop}
use Rattle.std.proofs.Math.Seq.{take-add}

-- the next n bytes of what is left from i on
pub next_part : (text : List ℕ) (i n : ℕ) → i ≤ length text → n ≤ length (take (length text - i) (drop i text))
    → (i + n ≤ length text) × (take (i + n) text ≡ take i text ++ take n (take (length text - i) (drop i text)))
next_part text i n within fits =
    let rest : take (length text - i) (drop i text) ≡ drop i text = take_all (length text - i) (drop i text) (omega (arith, length-drop i text)) in
    let less = rw rest at fits in
    (omega (arith, length-drop i text, less), rw rest (take-add i n text))
