use Rattle.std.proofs.Common.{◌≡◌, true, false, length, sym, subst, ap, ◌∙◌}
use Rattle.std.specs.List.{list_any}
use Rattle.std.proofs.lemmas.Bool.{both_ways}
use Rattle.street_base.specs.declared.net.NetSpec.{NetSpec}
use Rattle.street_base.specs.Prelude.{is_place}
use Rattle.street_base.proofs.PlaceLemmas.{places-listed}
use Rattle.street_base.proofs.PlaceOnceLemmas.{places-once}
use Rattle.street_tile.specs.Inside.{seen}
use Rattle.street_tile.specs.Prelude.{TileView, is_own}
use Rattle.street_tile.proofs.Phases.{tile-lanes}
use Rattle.street_tile.proofs.Sums.{all-own}
use Rattle.street_tile.proofs.MovedHandOvers.{own-listed}
use Rattle.street_tile.proofs.SameTile.{tile-seen}
use Rattle.street_tile.proofs.tile.Tile.mouths.Goals as goal

pub copy_lanes-requires-clause-there : goal.copy_lanes-requires-clause-there
copy_lanes-requires-clause-there c = tile-lanes c.args.net.now (seen c.self.inside) (tile-seen c.self.view_is c.requires.tile)

-- there is no lane of another tile
pub returns-then-self-as_slice-clause-rest : goal.returns-then-self-as_slice-clause-rest
returns-then-self-as_slice-clause-rest c = λ p there away.
    let net = c.args.net.now in
    let x : TileView = seen c.self.inside in
    let tile = tile-seen c.self.view_is c.requires.tile in
    let elsewhere : list_any (is_place p) x.own.places ≡ false = subst (λ (t : TileView). list_any (is_place p) t.own.places ≡ false) (sym c.self.view_is) away in
    let nodes : c.as_slice.result.now ≡ net.nodes = c.as_slice.ensures ∙ ap (λ (n : NetSpec). n.nodes) c.spec.ensures.value in
    let high : x.high ≡ length net.nodes = c.if-self-as_slice.true ∙ ap length nodes in
    let own : is_own net x.low x.high p ≡ true = rw (c.if-self-eq0.true, high) (all-own net tile.roads p there) in
    let listed = own-listed net x.low x.high p (places-once net p (places-listed net p there.1)) own in
    absurd (both_ways (list_any (is_place p) x.own.places) elsewhere (rw tile.places listed))
