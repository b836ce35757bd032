use Rattle.std.proofs.Common.{◌≡◌, ◌*◌, ◌/◌, ◌+◌, ◌∙◌, ℕ, List, length, replicate, ap, arith}
use Rattle.std.proofs.lemmas.List.{length-replicate}
use Rattle.street_yard.proofs.Bits.{length-bits, bits-empty}
use Rattle.street_yard.proofs.filled.FilledLists.new.Goals as goal

pub returns-clause-many : goal.returns-clause-many
returns-clause-many c =
    let words = c.in_ok-words.words.items in
    let are : ◌≡◌ {A = List ℕ} words (replicate (3 * (c.args.lists / 192 + 1)) 0) = c.in_ok-words.ensures.items_if_clones_equal (λ y e. e) in
    let long = length-bits words in
    let count : length words ≡ 3 * (c.args.lists / 192 + 1) = ap length are ∙ length-replicate (3 * (c.args.lists / 192 + 1)) 0 in
    omega (arith, long, count)

pub returns-clause-none : goal.returns-clause-none
returns-clause-none c = bits-empty c.in_ok-words.words.items (3 * (c.args.lists / 192 + 1)) (c.in_ok-words.ensures.items_if_clones_equal (λ y e. e))
