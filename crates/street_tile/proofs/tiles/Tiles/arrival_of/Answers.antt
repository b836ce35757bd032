use Rattle.std.proofs.Common.{◌≡◌, [], get_or, refl, sym, ap, ◌∙◌, subst}
use Rattle.std.proofs.lemmas.List.{get_or_default}
use Rattle.street_tile.specs.Prelude.{TileView, TilesView}
use Rattle.street_tile.proofs.NextArrival.{popped-of, popped-none}
use Rattle.street_tile.proofs.Together.{tile-at, kept-arrivals}
use Rattle.street_tile.proofs.tiles.Tiles.arrival_of.Goals as goal

pub invariant_of-self : goal.invariant_of-self
invariant_of-self c = kept-arrivals (tile-at c.self.view_is c.requires refl c.index_mut.ensures.value) c.self.invariant _ c.next_arrival.ensures.tile

pub returns-clause-some : goal.returns-clause-some
returns-clause-some c = popped-of (tile-at c.self.view_is c.requires refl c.index_mut.ensures.value) _ c.next_arrival.ensures.tile c.next_arrival.result c.next_arrival.ensures.rest

pub returns-clause-kept : goal.returns-clause-kept
returns-clause-kept c = λ none. popped-none (tile-at c.self.view_is c.requires refl c.index_mut.ensures.value) _ c.next_arrival.ensures.tile c.next_arrival.result none c.next_arrival.ensures.rest

pub returns-clause-none : goal.returns-clause-none
returns-clause-none c = λ none d.
    let t = tile-at c.self.view_is c.requires refl c.index_mut.ensures.value in
    subst (λ (v : TilesView). (get_or v.tiles c.args.i d).arrived ≡ []) c.self.view_is
    (ap (λ (u : TileView). u.arrived) (get_or_default c.self.inside.tiles.items c.args.i d c.index_mut.result.now t.within ∙ sym t.is) ∙ c.next_arrival.ensures.none none)
