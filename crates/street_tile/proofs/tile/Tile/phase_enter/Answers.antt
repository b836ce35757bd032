use Rattle.std.proofs.Common.{◌≡◌, List, map, sym, subst, ap, ◌∙◌, Option}
use Rattle.street_base.specs.Prelude.{Vehicle}
use Rattle.street_tile.specs.Prelude.{vehicle_in, TileView, nobody, EnterPhase, placed_lane}
use Rattle.street_tile.specs.Inside.{seen}
use Rattle.street_tile.proofs.SameTile.{tile-seen, at-view}
use Rattle.street_tile.proofs.SameLanes.{same-then}
use Rattle.street_tile.proofs.DepartedLanes.{placed-departed}
use Rattle.street_tile.proofs.Phases.{enters-of, nobody-in}
use Rattle.street_tile.proofs.tile.Tile.phase_enter.Goals as goal

pub returns : goal.returns
returns c =
    let s = c.self.inside in
    let x : TileView = seen s in
    let tile = tile-seen c.self.view_is c.requires.tile in
    let placed = c.place_comers.new.own in
    let own = c.depart_lanes.new.own in
    let coming : map vehicle_in c.place_comers.new.coming ≡ nobody x = ap (map vehicle_in) c.place_comers.ensures.none ∙ nobody-in s.coming s.own.places c.self.invariant.wide.coming in
    let same = same-then s.own placed own c.place_comers.ensures.same c.depart_lanes.ensures.same in
    let enters = enters-of c.args.net.now x tile own same (λ m entry stand is free.
    placed-departed s.clock (placed_lane entry) m placed own c.depart_lanes.ensures.same (c.place_comers.ensures.lanes m entry stand is free) c.depart_lanes.ensures.lanes) in
    at-view (EnterPhase c.args.net.now) c.self.view_is (subst (λ (os : List (Option Vehicle)). EnterPhase c.args.net.now x (record x { own = own; coming = os })) (sym coming) enters)
