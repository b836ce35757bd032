use Rattle.std.proofs.Common.{◌≡◌, ◌<◌, None, subst, arith, IfSome, option_map}
use Rattle.street_base.specs.Prelude.{vehicle_of, Traffic, lane_at, in_lane}
use Rattle.street_lanes.specs.Prelude.{place_at, vehicle_on, IsOn}
use Rattle.street_tile.specs.Inside.{seen}
use Rattle.street_tile.specs.Prelude.{TileView, TileStandsFor, without, DoesIf, HaveAtMostOne}
use Rattle.street_tile.proofs.SameLanes.{even-of}
use Rattle.street_tile.proofs.SameTile.{at-view}
use Rattle.street_tile.proofs.NumberOnce.{lane-seen, stands-here, few-here, some-does, some-had, none-had}
use Rattle.street_tile.proofs.tile.Tile.take_out_of_own.Goals as goal

pub take_out-requires : goal.take_out-requires
take_out-requires c =
    let lane = lane-seen c.args.n c.self.view_is c.requires.tile c.requires.lane in
    let even = even-of c.args.net.now c.self.inside.own lane.0.own in
    let within = lane.1 in
    omega arith

pub returns-clause-some : goal.returns-clause-some
returns-clause-some c =
    let lane = lane-seen c.args.n c.self.view_is c.requires.tile c.requires.lane in
    at-view (λ (u w : TileView). IfSome c.take_out.result (λ car. DoesIf c.args.net.now (λ m. HaveAtMostOne u.own.places m c.args.number) (without c.args.number) u w)) c.self.view_is
    (some-does c.args.number c.args.net.now (seen c.self.inside) lane.0 c.args.n lane.1 c.take_out.result c.take_out.ensures.found c.take_out.new.self c.take_out.ensures.goes)

pub returns-clause-had : goal.returns-clause-had
returns-clause-had c =
    let lane = lane-seen c.args.n c.self.view_is c.requires.tile c.requires.lane in
    subst (λ (u : TileView). IfSome c.take_out.result (λ car. (m : Traffic) → IsOn c.args.net.now m → TileStandsFor u m → HaveAtMostOne u.own.places m c.args.number → 0 < in_lane c.args.number (lane_at m (place_at u.own c.args.n)))) c.self.view_is
    (some-had c.args.number c.args.net.now (seen c.self.inside) lane.0 c.args.n lane.1 c.take_out.result c.take_out.ensures.found)

pub returns-clause-had_not : goal.returns-clause-had_not
returns-clause-had_not c =
    let lane = lane-seen c.args.n c.self.view_is c.requires.tile c.requires.lane in
    subst (λ (u : TileView). c.take_out.result ≡ None → (m : Traffic) → IsOn c.args.net.now m → TileStandsFor u m → HaveAtMostOne u.own.places m c.args.number → in_lane c.args.number (lane_at m (place_at u.own c.args.n)) ≡ 0) c.self.view_is
    (none-had c.args.number c.args.net.now (seen c.self.inside) lane.0 c.args.n lane.1 c.take_out.result c.take_out.ensures.found)

pub returns-clause-vehicle : goal.returns-clause-vehicle
returns-clause-vehicle c =
    let lane = lane-seen c.args.n c.self.view_is c.requires.tile c.requires.lane in
    subst (λ (u : TileView). (m : Traffic) → IsOn c.args.net.now m → TileStandsFor u m → HaveAtMostOne u.own.places m c.args.number → option_map vehicle_of c.take_out.result ≡ vehicle_on c.args.number (lane_at m (place_at u.own c.args.n))) c.self.view_is
    (λ m on s few. c.take_out.ensures.vehicle (lane_at m (place_at c.self.inside.own c.args.n)) (stands-here c.args.number c.args.net.now (seen c.self.inside) lane.0 c.args.n lane.1 m s) (few-here c.args.number c.args.net.now (seen c.self.inside) lane.0 c.args.n lane.1 m few))
