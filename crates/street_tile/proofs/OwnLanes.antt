-- Which lanes are a tile's: each is the network's, and all buffers that lead to one lane are one tile's.
use Rattle.std.proofs.Common.{◌≡◌, ℕ, Bool, true, List, length, sym, ◌∙◌, ap, arith, filter, ◌&&◌, nat_le, nat_lt}
use Rattle.std.specs.List.{list_any}
use Rattle.std.proofs.lemmas.Bool.{and_parts}
use Rattle.std.proofs.lemmas.Map.Views.{any-filter_same}
use Rattle.street_base.specs.declared.net.NetSpec.{NetSpec}
use Rattle.street_base.specs.declared.names.Place.{Place}
use Rattle.street_base.specs.Prelude.{is_place, places, Traffic}
use Rattle.street_base.proofs.FormLemmas.{places-inside}
use Rattle.street_base.proofs.ReleaseLemmas.{is_place-same}
use Rattle.street_lanes.specs.Prelude.{IsLane, AllLanes}
use Rattle.street_node.specs.Prelude.{AtMostOnce, IsWalk}
use Rattle.street_node.proofs.BufferWalk.{at-any}
use Rattle.street_node.proofs.LaneWalk.{picked-once, lanes-walk}
use Rattle.street_tile.specs.Prelude.{IsRoads, is_own, own_places}

any-filter : (q : Place) (own : Place → Bool) (ps : List Place) → list_any (is_place q) (filter own ps) ≡ true → list_any (is_place q) ps ≡ true
any-filter q own ps among = (and_parts (own q) _ (sym (any-filter_same (is_place q) own (own q) (λ p same. ap own (sym (is_place-same q p same))) ps) ∙ among)).1

pub lane-of : (net : NetSpec) (p : Place) → list_any (is_place p) (places net) ≡ true → IsLane net p
lane-of net p among = let inside = places-inside net p 0 (length net.links) among in let a = inside.0 in (omega arith, inside.1)

pub own-lanes : (net : NetSpec) (low high : ℕ) → AllLanes net (own_places net low high)
own-lanes net low high k p at = lane-of net p (any-filter p (is_own net low high) (places net) (at-any (own_places net low high) k p at))

pub own-once : (net : NetSpec) (low high : ℕ) → AtMostOnce (own_places net low high)
own-once net low high = picked-once net (is_own net low high)

pub own-walk : (net : NetSpec) → IsRoads net → (m : Traffic) → m.network ≡ net → (low high : ℕ) → IsWalk m (own_places net low high)
own-walk net roads m on low high = lanes-walk net roads.joined m on (λ node. nat_le low node && nat_lt node high)
