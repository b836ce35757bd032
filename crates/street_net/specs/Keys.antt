-- The keys by which the entries of a load are told apart.
use Rattle.std.specs.Prelude.{ℕ, List, map}
use Rattle.street_base.specs.declared.net.NodeSpec.{NodeSpec}
use Rattle.street_base.specs.declared.net.LinkSpec.{LinkSpec}
use Rattle.street_base.specs.declared.net.TurnSpec.{TurnSpec}

-- the identifiers of these nodes, in the order of the list
abbrev pub ids_of_nodes : List NodeSpec → List ℕ
ids_of_nodes nodes = map (λ node. node.id) nodes

-- the identifiers of these links, in the order of the list
abbrev pub ids_of_links : List LinkSpec → List ℕ
ids_of_links links = map (λ link. link.id) links

-- what no two turns of a load may share: link, lane and next link, with both links named by identifier
abbrev pub turn_key : TurnSpec → ℕ × ℕ × ℕ
turn_key t = (t.link, t.lane, t.next)

-- link, lane and next link of each of these turns, in the order of the list
abbrev pub keys_of_turns : List TurnSpec → List (ℕ × ℕ × ℕ)
keys_of_turns turns = map turn_key turns
