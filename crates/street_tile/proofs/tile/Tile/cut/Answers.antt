use Rattle.std.proofs.Common.{◌≡◌, ℕ, ◌+◌, ◌*◌, ◌/◌, length, refl, ◌∙◌, ap, arith}
use Rattle.std.proofs.lemmas.Nat.{mul-le}
use Rattle.street_tile.proofs.EmptyTile.{faultless-roads}
use Rattle.street_tile.proofs.MadeTiles.{made-more, made-tiles, made-meters}
use Rattle.street_tile.proofs.tile.Tile.cut.Goals as goal

pub overflow_mul-i : goal.overflow_mul-i
overflow_mul-i c =
    let nodes : length c.as_slice-nodes.result.now ≡ length c.args.net.now.nodes = rw (c.as_slice-nodes.ensures, c.spec.ensures.value) refl in
    let most = (faultless-roads c.args.net.now c.spec.ensures.faultless).nodes.1 in
    let count = c.min-count.ensures in
    let le = mul-le c.loop-i.i (length c.as_slice-nodes.result.now) 4096 4096 (omega arith) (omega arith) in
    omega arith

pub overflow_mul-i-in-loop-i : goal.overflow_mul-i-in-loop-i
overflow_mul-i-in-loop-i c =
    let nodes : length c.as_slice-nodes.result.now ≡ length c.args.net.now.nodes = rw (c.as_slice-nodes.ensures, c.spec.ensures.value) refl in
    let most = (faultless-roads c.args.net.now c.spec.ensures.faultless).nodes.1 in
    let count = c.min-count.ensures in
    let le = mul-le (c.loop-i.i + 1) (length c.as_slice-nodes.result.now) 4096 4096 (omega arith) (omega arith) in
    omega arith

pub returns-clause-tiles : goal.returns-clause-tiles
returns-clause-tiles c =
    let nodes : length c.as_slice-nodes.result.now ≡ length c.args.net.now.nodes = rw (c.as_slice-nodes.ensures, c.spec.ensures.value) refl in
    let some = (faultless-roads c.args.net.now c.spec.ensures.faultless).nodes.0 in
    let count = c.min-count.ensures in
    made-tiles c.args.net.now c.min-count.result c.loop-i.i c.loop-i.tiles.items c.loop-i.invariant (omega arith) (omega arith) (omega arith) (omega arith)

pub loop-i-preserved : goal.loop-i-preserved
loop-i-preserved c =
    let k = c.min-count.result in
    let i = c.loop-i.i in
    let nodes : length c.as_slice-nodes.result.now ≡ length c.args.net.now.nodes = rw (c.as_slice-nodes.ensures, c.spec.ensures.value) refl in
    let made = c.loop-i.invariant in
    let long = made.long in
    let grown = c.in_ok-push.ensures.len in
    made-more c.args.net.now k i c.loop-i.tiles.items c.push.new.self.items c.in_ok-tile.tile c.in_ok-push.ensures.items (omega arith) made (record {
      share = record {
        tile = c.in_ok-tile.ensures.tile;
        low = c.in_ok-tile.ensures.nodes.0 ∙ ap (λ (n : ℕ). i * n / k) nodes;
        high = c.in_ok-tile.ensures.nodes.1 ∙ ap (λ (n : ℕ). (i + 1) * n / k) nodes;
      };
      idle = c.in_ok-tile.ensures.idle;
      stands = c.in_ok-tile.ensures.stands;
      meters = c.in_ok-tile.ensures.meters;
    })

pub returns-clause-meters : goal.returns-clause-meters
returns-clause-meters c = made-meters c.args.net.now c.min-count.result c.loop-i.i c.loop-i.tiles.items c.loop-i.invariant (omega arith) (omega arith)
