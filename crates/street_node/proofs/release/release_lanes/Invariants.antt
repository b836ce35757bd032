use Rattle.std.proofs.Common.{◌≡◌, ◌+◌, ◌-◌, ◌*◌, ◌≤◌, ◌++◌, length, map, List, vec_len, vec_capacity, None}
use Rattle.street_base.specs.Prelude.{network_fault}
use Rattle.street_net.specs.Prelude.{in_places}
use Rattle.street_yard.specs.Prelude.{IsApart}
use Rattle.street_node.specs.declared.release.Released.{Released}
use Rattle.street_node.proofs.Steps.{AreDone}
use Rattle.street_node.proofs.release.release_lanes.Given as goal

-- the buffers before k are done
abbrev pub invariant-loop-k : goal.invariant-loop-k
invariant-loop-k l = record {
  done : (faultless : network_fault l.network ≡ None) (apart : IsApart (map (λ n. n.0) l.lists)) (one_each : length (map (λ n. n.0) l.lists) ≡ length (in_places l.network l.fn.node)) (wide : length l.fn.mouths ≡ 2 * length l.network.links)
      → (more : List Released) × (l.released.items ≡ l.fn.released.items ++ more) × AreDone l.network faultless l.fn.node l.step (map (λ n. n.0) l.lists) apart one_each l.fn.yard l.fn.mouths wide l.k l.yard l.mouths more;
  wide : length l.mouths ≡ 2 * length l.network.links;
  room : vec_len l.released + (length l.lists - l.k) ≤ vec_capacity l.released;
  kept : vec_capacity l.fn.released ≤ vec_capacity l.released;
}
