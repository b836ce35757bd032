-- Marks of links among green turns.
use Rattle.std.proofs.Common.{◌≡◌, ℕ, ◌+◌, ◌*◌, ◌%◌, ◌^◌, ◌<◌, List, take, length, get_or, subst, arith, w64}
use Rattle.std.specs.Int.{bit_at}
use Rattle.std.specs.Int.Bits.{bit_or}
use Rattle.std.proofs.lemmas.Nat.Bits.{bit_at_or, bit_at-lt, bit_at_set_same}
use Rattle.std.proofs.lemmas.List.Elements.{All-more}
use Rattle.street_node.specs.declared.phase.GreenTurn.{GreenTurn}
use Rattle.street_node.specs.Prelude.{mark_of, HasMarks}

-- a mark stays when others come
stays : (marks others i : ℕ) → bit_at marks i ≡ 1 → bit_at (bit_or marks others) i ≡ 1
stays marks others i e =
    let low = bit_at-lt others i in
    let joined = bit_at_or marks others i in
    omega (arith, e, low, joined)

-- with the mark of one turn more, all of these have theirs
pub more : (marks : ℕ) (turns : List GreenTurn) (i : ℕ) (d : GreenTurn) (k : ℕ) → i < length turns → k < 64 → k ≡ mark_of (get_or turns i d).link → HasMarks marks (take i turns) → HasMarks (bit_or marks (1 * 2 ^ k % 2 ^ 64)) (take (i + 1) turns)
more marks turns i d k h small is marked =
    let both : ℕ = bit_or marks (1 * 2 ^ k % 2 ^ 64) in
    All-more (λ (t : GreenTurn). bit_at both (mark_of t.link) ≡ 1) turns i d h
    (λ j e l. stays marks (1 * 2 ^ k % 2 ^ 64) (mark_of (get_or (take i turns) j e).link) (marked j e l))
    (subst (λ x. bit_at both x ≡ 1) is (bit_at_set_same w64 marks k small))
