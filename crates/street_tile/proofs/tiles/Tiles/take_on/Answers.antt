use Rattle.std.proofs.Common.{◌≡◌, true, refl, sym, ◌∙◌, is_some}
use Rattle.street_tile.proofs.TileCommands.{some-holds, some-or, take-on-does}
use Rattle.street_tile.proofs.Together.{tile-at, owns-here, kept-does, kept-same}
use Rattle.street_tile.proofs.tiles.Tiles.take_on.Goals as goal

pub take_out_on-requires-clause-own : goal.take_out_on-requires-clause-own
take_out_on-requires-clause-own c =
    let t = tile-at c.self.view_is c.owner_of_link-i.ensures.inside c.deref.ensures c.index_mut.ensures.value in
    owns-here t c.args.at.link c.args.at c.owner_of_link-i.ensures.own refl

pub invariant_of-self : goal.invariant_of-self
invariant_of-self c =
    let t = tile-at c.self.view_is c.owner_of_link-i.ensures.inside c.deref.ensures c.index_mut.ensures.value in
    some-or c.take_out_on.result
    (λ some. kept-does t c.self.invariant _ (some-holds _ c.take_out_on.result some c.take_out_on.ensures.some))
    (λ none. kept-same t c.self.invariant _ (c.take_out_on.ensures.none none))

pub returns-clause-taken : goal.returns-clause-taken
returns-clause-taken c = λ taken.
    let t = tile-at c.self.view_is c.owner_of_link-i.ensures.inside c.deref.ensures c.index_mut.ensures.value in
    let some : is_some c.take_out_on.result ≡ true = sym c.is_some.ensures ∙ taken in
    take-on-does c.self.inside.network.value c.args.number t c.self.invariant.tiles _ (some-holds _ c.take_out_on.result some c.take_out_on.ensures.some)
    c.args.at c.requires c.owner_of_link-i.ensures.own (some-holds _ c.take_out_on.result some c.take_out_on.ensures.had)
