use Rattle.std.proofs.Common.{◌≡◌, ℕ, ◌<◌, List, [], length, sym, subst, None, arith, Vec}
use Rattle.std.specs.declared.alloc.Global.{Global}
use Rattle.street_base.specs.declared.net.NetSpec.{NetSpec}
use Rattle.street_base.specs.declared.net.Turn.{Turn}
use Rattle.street_base.specs.Prelude.{network_fault}
use Rattle.street_net.specs.Prelude.{ids_of_nodes, ids_of_links, AreBriefs, AreInLanes, IsTurnTable, AreKept, IsChecked}
use Rattle.street_net.specs.declared.briefs.Brief.{Brief}
use Rattle.street_base.specs.declared.names.Place.{Place}
use Rattle.street_net.specs.declared.nexts.Pair.{Pair}
use Rattle.street_net.proofs.network.Network.build.Goals as goal

module _ (net given : NetSpec) (nodes links : List ℕ) (briefs : List Brief) (in_lanes : List (Vec Place Global)) (starts : List ℕ) (turns : List Turn) (nexts : List Pair) where
  checked : net ≡ given → network_fault given ≡ None → nodes ≡ ids_of_nodes given.nodes → links ≡ ids_of_links given.links → AreBriefs net briefs → AreInLanes net in_lanes → IsTurnTable net starts turns → AreKept net nexts
      → IsChecked net nodes links briefs in_lanes starts turns nexts
  checked same good nodes_are links_are briefs_are in_lanes_are turns_are nexts_are = record {
    faultless = subst (λ net. network_fault net ≡ None) (sym same) good;
    nodes_listed = rw same nodes_are;
    links_listed = rw same links_are;
    briefs_kept = briefs_are;
    in_lanes_kept = in_lanes_are;
    turns_kept = turns_are;
    nexts_kept = nexts_are;
  }

-- of no link
nothing-kept : (net : NetSpec) (nexts : List Pair) → nexts ≡ [] → AreKept net nexts
nothing-kept net nexts none link d low = absurd (let within : link < length {A = Pair} [] = subst (λ (xs : List Pair). link < length xs) none low in omega (arith, within))

pub invariant_of-network : goal.invariant_of-network
invariant_of-network c =
    checked c.in_ok-spec.spec c.args.spec.now c.in_ok-node_ids.node_ids.keys c.in_ok-node_ids.link_ids.keys c.in_ok-briefs.briefs.items c.in_ok-briefs.in_lanes.items c.in_ok-briefs.turns.starts.items c.in_ok-briefs.turns.turns.items c.new.result.items
    c.in_ok-spec.ensures c.in_ok-node_ids.ensures.faultless c.in_ok-node_ids.ensures.keys.0 c.in_ok-node_ids.ensures.keys.1 c.in_ok-briefs.ensures.0 c.in_ok-briefs.ensures.1 c.in_ok-briefs.ensures.2 (nothing-kept c.in_ok-spec.spec c.new.result.items c.new.ensures.items)

pub invariant_of-network-2 : goal.invariant_of-network-2
invariant_of-network-2 c =
    checked c.in_ok-spec.spec c.args.spec.now c.in_ok-node_ids.node_ids.keys c.in_ok-node_ids.link_ids.keys c.in_ok-briefs.briefs.items c.in_ok-briefs.in_lanes.items c.in_ok-briefs.turns.starts.items c.in_ok-briefs.turns.turns.items c.in_ok-nexts.nexts.items
    c.in_ok-spec.ensures c.in_ok-node_ids.ensures.faultless c.in_ok-node_ids.ensures.keys.0 c.in_ok-node_ids.ensures.keys.1 c.in_ok-briefs.ensures.0 c.in_ok-briefs.ensures.1 c.in_ok-briefs.ensures.2 c.in_ok-nexts.ensures
