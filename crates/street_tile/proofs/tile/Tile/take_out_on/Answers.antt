use Rattle.std.proofs.Common.{◌≡◌, ◌<◌, None, subst, IfSome, option_map}
use Rattle.std.proofs.lemmas.Option.{slice_get_within, get_or_from_slice_get}
use Rattle.street_base.specs.declared.names.Place.{Place}
use Rattle.street_base.specs.Prelude.{vehicle_of, Traffic, lane_at, in_lane}
use Rattle.street_lanes.specs.Prelude.{place_at, no_place, vehicle_on, IsOn}
use Rattle.street_tile.specs.Prelude.{TileStandsFor, HaveAtMostOne}
use Rattle.street_tile.proofs.tile.Tile.take_out_on.Goals as goal

pub take_out_of_own-requires-clause-lane : goal.take_out_of_own-requires-clause-lane
take_out_of_own-requires-clause-lane c = slice_get_within c.args.self.now.own.places c.number-n.result c.args.at c.number-n.ensures

pub returns-clause-had : goal.returns-clause-had
returns-clause-had c =
    let here : place_at c.args.self.now.own c.number-n.result ≡ c.args.at = get_or_from_slice_get c.args.self.now.own.places c.number-n.result c.args.at no_place c.number-n.ensures in
    subst (λ (p : Place). IfSome c.take_out_of_own.result (λ car. (m : Traffic) → IsOn c.args.net.now m → TileStandsFor c.args.self.now m → HaveAtMostOne c.args.self.now.own.places m c.args.number → 0 < in_lane c.args.number (lane_at m p))) here c.take_out_of_own.ensures.had

pub returns-clause-had_not : goal.returns-clause-had_not
returns-clause-had_not c =
    let here : place_at c.args.self.now.own c.number-n.result ≡ c.args.at = get_or_from_slice_get c.args.self.now.own.places c.number-n.result c.args.at no_place c.number-n.ensures in
    subst (λ (p : Place). c.take_out_of_own.result ≡ None → (m : Traffic) → IsOn c.args.net.now m → TileStandsFor c.args.self.now m → HaveAtMostOne c.args.self.now.own.places m c.args.number → in_lane c.args.number (lane_at m p) ≡ 0) here c.take_out_of_own.ensures.had_not

pub returns-clause-vehicle : goal.returns-clause-vehicle
returns-clause-vehicle c =
    let here : place_at c.args.self.now.own c.number-n.result ≡ c.args.at = get_or_from_slice_get c.args.self.now.own.places c.number-n.result c.args.at no_place c.number-n.ensures in
    subst (λ (p : Place). (m : Traffic) → IsOn c.args.net.now m → TileStandsFor c.args.self.now m → HaveAtMostOne c.args.self.now.own.places m c.args.number → option_map vehicle_of c.take_out_of_own.result ≡ vehicle_on c.args.number (lane_at m p)) here c.take_out_of_own.ensures.vehicle
