use Rattle.std.proofs.Common.{◌≡◌, true, sym, ◌∙◌, subst, is_some}
use Rattle.street_tile.specs.Prelude.{HaveNot, WhereOnce, TilesView, TileHasNot}
use Rattle.street_tile.proofs.TileCommands.{some-holds, some-or, none-is, take-does, not-at}
use Rattle.street_tile.proofs.Together.{tile-at, at-list, kept-does, kept-same}
use Rattle.street_tile.proofs.tiles.Tiles.take_in_tile.Goals as goal

pub invariant_of-self : goal.invariant_of-self
invariant_of-self c =
    let t = tile-at c.self.view_is c.requires c.deref.ensures c.index_mut.ensures.value in
    some-or c.take_out.result
    (λ some. kept-does t c.self.invariant _ (some-holds _ c.take_out.result some c.take_out.ensures.some))
    (λ none. kept-same t c.self.invariant _ (c.take_out.ensures.none none))

pub returns-clause-taken : goal.returns-clause-taken
returns-clause-taken c = λ taken.
    let t = tile-at c.self.view_is c.requires c.deref.ensures c.index_mut.ensures.value in
    let some : is_some c.take_out.result ≡ true = sym c.is_some.ensures ∙ taken in
    take-does c.self.inside.network.value c.args.number t c.self.invariant.tiles _ (some-holds _ c.take_out.result some c.take_out.ensures.some) (some-holds _ c.take_out.result some c.take_out.ensures.had)

pub returns-clause-nowhere : goal.returns-clause-nowhere
returns-clause-nowhere c = λ missed.
    let t = tile-at c.self.view_is c.requires c.deref.ensures c.index_mut.ensures.value in
    let none = none-is c.take_out.result (sym c.is_some.ensures ∙ missed) in
    let had_not = at-list t (λ n u. WhereOnce n u c.args.number (λ m. HaveNot u.own.places m c.args.number)) (c.take_out.ensures.had_not none) in
    subst (λ (v : TilesView). TileHasNot v c.args.i c.args.number) c.self.view_is
    (not-at c.self.inside.network.value c.args.number c.self.inside.tiles.items c.args.i c.index_mut.result.now c.self.invariant.tiles t.within had_not)
