use Rattle.std.proofs.Common.{◌≡◌, refl, sym, ◌∙◌, Option, Some}
use Rattle.street_base.specs.declared.reply.Whereabouts.{Whereabouts}
use Rattle.street_base.specs.declared.names.Place.{Place}
use Rattle.street_base.specs.Prelude.{lane_at, whereabouts_in}
use Rattle.street_tile.proofs.Seen.{one-at, found-on-seen}
use Rattle.street_tile.proofs.Together.{tile-at, owns-here, stands-here}
use Rattle.street_tile.proofs.tiles.Tiles.find_on_link.Goals as goal

pub find_on-requires-clause-own : goal.find_on-requires-clause-own
find_on-requires-clause-own c =
    let t = tile-at c.self.view_is c.owner_of_link-i.ensures.inside c.deref.ensures c.index.ensures in
    owns-here t c.args.link (record { link = c.args.link; lane = c.loop-lane.lane }) c.owner_of_link-i.ensures.own refl

pub returns-in-Some : goal.returns-in-Some
returns-in-Some c = λ some m sound stood.
    let t = tile-at c.self.view_is c.owner_of_link-i.ensures.inside c.deref.ensures c.index.ensures in
    let p : Place = record { link = c.args.link; lane = c.loop-lane.lane } in
    let here = stands-here t m stood in
    let most = one-at c.self.inside.network.value c.self.inside.tiles.items c.self.invariant.tiles c.args.number t m sound stood in
    let found : ◌≡◌ {A = Option Whereabouts} (Some c.in-Some.found) (whereabouts_in c.deref.result.now p c.args.number (lane_at m p)) = sym c.in-Some.is ∙ c.in_ok-found.ensures m here.0 here.1 most in
    found-on-seen c.self.inside.network.value c.self.inside.tiles.items c.self.invariant.tiles c.args.number t m sound stood p c.in-Some.found (c.lanes_of-lane-end.ensures c.loop-lane.lane c.loop-lane-test.true) c.owner_of_link-i.ensures.own found
