use Rattle.std.proofs.Common.{◌≡◌, subst, IfOk}
use Rattle.std.proofs.lemmas.Option.{slice_get_within, get_or_from_slice_get}
use Rattle.street_base.specs.declared.names.Place.{Place}
use Rattle.street_base.specs.Prelude.{Traffic, lane_at, whereabouts_in}
use Rattle.street_lanes.specs.Prelude.{place_at, no_place, IsOn}
use Rattle.street_tile.specs.Prelude.{TileStandsFor, HaveAtMostOne}
use Rattle.street_tile.proofs.tile.Tile.find_on.Goals as goal

pub find_on_own-requires-clause-lane : goal.find_on_own-requires-clause-lane
find_on_own-requires-clause-lane c = slice_get_within c.args.self.now.own.places c.number-n.result c.args.at c.number-n.ensures

pub returns : goal.returns
returns c =
    let here : place_at c.args.self.now.own c.number-n.result ≡ c.args.at = get_or_from_slice_get c.args.self.now.own.places c.number-n.result c.args.at no_place c.number-n.ensures in
    subst (λ (p : Place). IfOk c.find_on_own.result (λ found. (m : Traffic) → IsOn c.args.net.now m → TileStandsFor c.args.self.now m → HaveAtMostOne c.args.self.now.own.places m c.args.number → found ≡ whereabouts_in c.args.net.now p c.args.number (lane_at m p))) here c.find_on_own.ensures.found
