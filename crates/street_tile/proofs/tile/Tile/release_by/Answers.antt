use Rattle.std.proofs.Common.{◌≡◌, ap, ◌∙◌, []}
use Rattle.street_base.specs.Prelude.{Traffic}
use Rattle.street_tile.specs.Inside.{seen}
use Rattle.street_tile.specs.Prelude.{TileView, ReleasePhase, IsReleasing}
use Rattle.street_tile.proofs.SameTile.{tile-seen, at-view}
use Rattle.street_tile.proofs.Phases.{tile-lanes, releases-of}
use Rattle.street_tile.proofs.tile.Tile.release_by.Goals as goal

pub release_lanes-requires-clause-there : goal.release_lanes-requires-clause-there
release_lanes-requires-clause-there c = tile-lanes c.args.net.now (seen c.self.inside) (tile-seen c.self.view_is c.requires.tile)

pub returns : goal.returns
returns c =
    let s = c.self.inside in
    let tile = tile-seen c.self.view_is c.requires.tile in
    let shown : c.deref_mut.result.now ≡ c.args.mouths.now = c.deref_mut.ensures.value ∙ c.copy_from_slice.ensures.items in
    let now : (m : Traffic) → IsReleasing c.args.net.now s.clock s.own c.args.mouths.now m → IsReleasing c.args.net.now s.clock s.own c.deref_mut.result.now m = λ m r. rw shown r in
    let none : s.handed.items ≡ [] = ap (λ (t : TileView). t.handed) c.self.view_is ∙ c.requires.empty in
    at-view (ReleasePhase c.args.net.now c.args.mouths.now) c.self.view_is
    (releases-of c.args.net.now (seen c.self.inside) tile c.args.mouths.now c.release_lanes.new.own _ c.release_lanes.new.handed.items c.release_lanes.ensures.same c.release_lanes.ensures.room
    (λ m r. c.release_lanes.ensures.lanes m (now m r))
    (λ m r. rw none at (c.release_lanes.ensures.handed m (now m r))))
