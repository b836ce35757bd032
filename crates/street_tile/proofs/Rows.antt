-- Tiles in a row.
use Rattle.std.proofs.Common.{◌≡◌, ℕ, suc, ◌+◌, ◌-◌, ◌*◌, ◌/◌, ◌<◌, ◌≤◌, List, [], ◌∷◌, length, get_or, sym, ◌∙◌, ap, subst, arith}
use Rattle.std.proofs.Math.Nat.{div-mul-le_self, lt-div-mul-add, div-lt_iff_lt-mul, zero-div, mul-div_cancel_left, mul-le-mul_right, mul_comm, zero-mul, zero-add}
use Rattle.std.proofs.lemmas.Nat.{le-div}
use Rattle.street_base.specs.declared.net.NetSpec.{NetSpec}
use Rattle.street_tile.specs.Prelude.{TileView, IsRoads, IsTileOf, IsShare, AreTiles}

-- tiles in a row, of all nodes from one up to another
abbrev pub InRow : NetSpec → ℕ → ℕ → List TileView → Type 0
InRow net low high [] = low ≡ high
InRow net low high (x ∷ xs) = IsTileOf net x × (x.low ≡ low) × (low ≤ x.high) × InRow net x.high high xs

-- of all nodes
abbrev pub AreInRow : NetSpec → List TileView → Type 0
AreInRow net xs = InRow net 0 (length net.nodes) xs

-- ---- the shares of tiles

pub shares-mono : (i j n k : ℕ) → 0 < k → i ≤ j → i * n / k ≤ j * n / k
shares-mono i j n k some le = le-div (i * n / k) (j * n) k some (let a = div-mul-le_self (i * n) k in let b : i * n ≤ j * n = mul-le-mul_right n le in omega arith)

-- tiles from i on
row-from : (net : NetSpec) (k i : ℕ) (xs : List TileView) → 0 < k → i + length xs ≡ k → ((j : ℕ) (d : TileView) → j < length xs → IsShare net k (i + j) (get_or xs j d)) → InRow net (i * length net.nodes / k) (k * length net.nodes / k) xs
row-from net k i [] some e shares = let same : i ≡ k = omega arith in ap (λ (j : ℕ). j * length net.nodes / k) same
row-from net k i (x ∷ xs) some e shares =
    let at_zero : i + 0 ≡ i = omega arith in
    let share : IsShare net k i x = subst (λ (j : ℕ). IsShare net k j x) at_zero (shares 0 x (omega arith)) in
    let rest : InRow net ((i + 1) * length net.nodes / k) (k * length net.nodes / k) xs =
    row-from net k (i + 1) xs some (omega arith) (λ j d h. subst (λ (t : ℕ). IsShare net k t (get_or xs j d)) (shift i j) (shares (suc j) d (omega arith))) in
    (share.tile, share.low, subst (λ (h : ℕ). i * length net.nodes / k ≤ h) (sym share.high) (shares-mono i (i + 1) (length net.nodes) k some (omega arith)), subst (λ (h : ℕ). InRow net h (k * length net.nodes / k) xs) (sym share.high) rest)
  where
    shift : (i j : ℕ) → i + suc j ≡ i + 1 + j
    shift i j = omega arith

pub in-row : (net : NetSpec) (xs : List TileView) → AreTiles net xs → AreInRow net xs
in-row net xs t =
    let row = row-from net (length xs) 0 xs t.some (zero-add (length xs)) (λ j d h. subst (λ (i : ℕ). IsShare net (length xs) i (get_or xs j d)) (sym (zero-add j)) (t.shares j d h)) in
    let low : 0 * length net.nodes / length xs ≡ 0 = ap (λ (n : ℕ). n / length xs) (zero-mul (length net.nodes)) ∙ zero-div (length xs) in
    let high : length xs * length net.nodes / length xs ≡ length net.nodes = mul-div_cancel_left (length net.nodes) t.some in
    subst (λ (h : ℕ). InRow net 0 h xs) high (subst (λ (l : ℕ). InRow net l (length xs * length net.nodes / length xs) xs) low row)

-- one tile has all nodes
pub one-tile : (net : NetSpec) (xs : List TileView) → AreTiles net xs → length xs ≡ 1 → (d : TileView) → ((get_or xs 0 d).low ≡ 0) × ((get_or xs 0 d).high ≡ length net.nodes)
one-tile net xs tiles one d =
    let is = tiles.shares 0 d tiles.some in
    let low : 0 * length net.nodes / length xs ≡ 0 = ap (λ (n : ℕ). n / length xs) (zero-mul (length net.nodes)) ∙ zero-div (length xs) in
    let count : 0 + 1 ≡ length xs = omega arith in
    let high : (0 + 1) * length net.nodes / length xs ≡ length net.nodes = ap (λ (k : ℕ). k * length net.nodes / length xs) count ∙ mul-div_cancel_left (length net.nodes) tiles.some in
    (is.low ∙ low, is.high ∙ high)

-- ---- whose a node is

plus-times : (a b : ℕ) → (a + 1) * b ≡ a * b + b
plus-times a b = omega arith

div-le : (m n k : ℕ) → 0 < k → n < (m + 1) * k → n / k ≤ m
div-le m n k some l = let lt = (div-lt_iff_lt-mul {k = k} {x = n} {y = m + 1} some).1 l in omega arith

-- of k tiles the one whose share holds a node
pub share-of : (n k node : ℕ) → 0 < n → 0 < k → node < n → let j = ((node + 1) * k - 1) / n in (j < k) × (j * n / k ≤ node) × (node < (j + 1) * n / k)
share-of n k node some_node some_tile h =
    let j = ((node + 1) * k - 1) / n in
    let top : (node + 1) * k ≡ node * k + k = plus-times node k in
    let below : j * n ≤ (node + 1) * k - 1 = div-mul-le_self ((node + 1) * k - 1) n in
    let above : (node + 1) * k - 1 < j * n + n = lt-div-mul-add some_node in
    let last : (node + 1) * k ≤ n * k = mul-le-mul_right k (omega arith) in
    let swap : n * k ≡ k * n = mul_comm n k in
    let inside : j < k = (div-lt_iff_lt-mul some_node).1 (omega arith) in
    let next : (j + 1) * n ≡ j * n + n = plus-times j n in
    (inside, div-le node (j * n) k some_tile (omega arith), (let le = le-div (node + 1) ((j + 1) * n) k some_tile (omega arith) in omega arith))

pub roads-of : (net : NetSpec) (xs : List TileView) → AreTiles net xs → IsRoads net
roads-of net [] t = absurd (let some = t.some in omega arith)
roads-of net (x ∷ xs) t = (t.shares 0 x t.some).tile.roads
