use Rattle.std.proofs.Common.{◌≡◌, None, subst, arith, IfOk}
use Rattle.std.proofs.lemmas.Result.{IfOk-weaker}
use Rattle.street_base.specs.Prelude.{Traffic, lane_at, in_lane, whereabouts_in}
use Rattle.street_lanes.specs.Prelude.{place_at, IsOn}
use Rattle.street_tile.specs.Inside.{seen}
use Rattle.street_tile.specs.Prelude.{TileView, TileStandsFor, HaveAtMostOne}
use Rattle.street_tile.proofs.SameLanes.{even-of}
use Rattle.street_tile.proofs.NumberOnce.{lane-seen, stands-here, few-here}
use Rattle.street_tile.proofs.tile.Tile.find_on_own.Goals as goal

pub find_on-requires-clause-lane : goal.find_on-requires-clause-lane
find_on-requires-clause-lane c =
    let lane = lane-seen c.args.n c.self.view_is c.requires.tile c.requires.lane in
    let even = even-of c.args.net.now c.self.inside.own lane.0.own in
    let within = lane.1 in
    omega arith

pub find_on-requires-clause-of : goal.find_on-requires-clause-of
find_on-requires-clause-of c = (lane-seen c.args.n c.self.view_is c.requires.tile c.requires.lane).0.own

pub returns-clause-found : goal.returns-clause-found
returns-clause-found c =
    let lane = lane-seen c.args.n c.self.view_is c.requires.tile c.requires.lane in
    subst (λ (u : TileView). IfOk c.find_on.result (λ found. (m : Traffic) → IsOn c.args.net.now m → TileStandsFor u m → HaveAtMostOne u.own.places m c.args.number → found ≡ whereabouts_in c.args.net.now (place_at u.own c.args.n) c.args.number (lane_at m (place_at u.own c.args.n)))) c.self.view_is
    (IfOk-weaker c.find_on.result _ _ (λ found shown m on stand few. shown (lane_at m (place_at c.self.inside.own c.args.n)) (stands-here c.args.number c.args.net.now (seen c.self.inside) lane.0 c.args.n lane.1 m stand) (few-here c.args.number c.args.net.now (seen c.self.inside) lane.0 c.args.n lane.1 m few)) c.find_on.ensures.found)

pub returns-clause-there : goal.returns-clause-there
returns-clause-there c =
    let lane = lane-seen c.args.n c.self.view_is c.requires.tile c.requires.lane in
    subst (λ (u : TileView). IfOk c.find_on.result (λ found. (m : Traffic) → IsOn c.args.net.now m → TileStandsFor u m → HaveAtMostOne u.own.places m c.args.number → found ≡ None → in_lane c.args.number (lane_at m (place_at u.own c.args.n)) ≡ 0)) c.self.view_is
    (IfOk-weaker c.find_on.result _ _ (λ found there m on stand few. (there (lane_at m (place_at c.self.inside.own c.args.n)) (stands-here c.args.number c.args.net.now (seen c.self.inside) lane.0 c.args.n lane.1 m stand)).0) c.find_on.ensures.there)
