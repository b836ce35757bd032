use Rattle.std.proofs.Common.{◌≡◌, true, length, get_or, vec_len, subst, arith}
use Rattle.street_tile.specs.Prelude.{is_own, TilesView}
use Rattle.street_tile.proofs.LaneOwners.{share-owns}
use Rattle.street_tile.proofs.tiles.Tiles.owner_of_link.Goals as goal

pub returns-clause-own : goal.returns-clause-own
returns-clause-own c = λ d p same.
    let s = c.self.inside in
    let i = c.owner_of_node.result in
    let own = rw (c.deref.ensures, c.len.ensures) at c.owner_of_node.ensures in
    let at = rw (c.deref-2.ensures, ← same) at c.end_of.ensures.position in
    let count : vec_len s.tiles ≡ length s.tiles.items = omega (arith, s.tiles.ok.0) in
    subst (λ (v : TilesView). is_own v.network (get_or v.tiles i d).low (get_or v.tiles i d).high p ≡ true) c.self.view_is
    (share-owns s.network.value s.tiles.items c.self.invariant.tiles (vec_len s.tiles) i c.end_of.result p count own.inside own.low own.high at d)
