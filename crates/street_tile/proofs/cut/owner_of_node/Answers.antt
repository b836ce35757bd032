use Rattle.std.proofs.Common.{◌≡◌, ◌+◌, ◌-◌, ◌*◌, ◌/◌, ◌<◌, ◌≤◌, length, refl, arith}
use Rattle.std.proofs.lemmas.Nat.{mul-le}
use Rattle.street_tile.proofs.EmptyTile.{faultless-roads}
use Rattle.street_tile.proofs.Rows.{share-of}
use Rattle.street_tile.proofs.cut.owner_of_node.Goals as goal

module _ (c : goal.After-position) where
  nodes : length c.as_slice-nodes.result.now ≡ length c.args.net.now.nodes
  nodes = rw (c.as_slice-nodes.ensures, c.spec.ensures.value) refl

  node : c.position.result < length c.args.net.now.nodes
  node = let e = c.position.ensures in let h = c.requires.node in omega arith

  share : let n = length c.args.net.now.nodes in let k = c.args.count in let j = ((c.position.result + 1) * k - 1) / n in (j < k) × (j * n / k ≤ c.position.result) × (c.position.result < (j + 1) * n / k)
  share = let h = node in share-of (length c.args.net.now.nodes) c.args.count c.position.result (omega arith) c.requires.some node

pub overflow_mul-result : goal.overflow_mul-result
overflow_mul-result c =
    let few = c.requires.few in
    let some = c.requires.some in
    let most = (faultless-roads c.args.net.now c.spec.ensures.faultless).nodes.1 in
    let at = node c in
    let le = mul-le (c.position.result + 1) c.args.count 4096 4096 (omega arith) (omega arith) in
    omega arith

pub returns-clause-inside : goal.returns-clause-inside
returns-clause-inside c = rw (nodes c) (share c).0

pub returns-clause-low : goal.returns-clause-low
returns-clause-low c = let within = (share c).1 in rw (nodes c) (omega (arith, within, c.position.ensures))

pub returns-clause-high : goal.returns-clause-high
returns-clause-high c = let within = (share c).2 in rw (nodes c) (omega (arith, within, c.position.ensures))
