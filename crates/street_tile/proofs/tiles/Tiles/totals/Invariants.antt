use Rattle.std.proofs.Common.{◌≡◌, take, length, is_some, count_by}
use Rattle.street_base.specs.Prelude.{Traffic}
use Rattle.street_tile.specs.Prelude.{TilesStandFor, over, all_places}
use Rattle.street_tile.proofs.tiles.Tiles.totals.Given as goal

abbrev pub invariant-loop-i : goal.invariant-loop-i
invariant-loop-i l = record {
  cells : (m : Traffic) → TilesStandFor l.self m → l.all.cells ≡ over (all_places (take l.i l.self.tiles)) (λ lane. count_by is_some lane.track.cells) m;
  buffers : (m : Traffic) → TilesStandFor l.self m → l.all.buffers ≡ over (all_places (take l.i l.self.tiles)) (λ lane. length lane.queue) m;
  waiting : (m : Traffic) → TilesStandFor l.self m → l.all.waiting ≡ over (all_places (take l.i l.self.tiles)) (λ lane. length lane.waiting) m;
}
