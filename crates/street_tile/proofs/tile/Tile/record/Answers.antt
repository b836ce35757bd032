use Rattle.std.proofs.Common.{◌≡◌, ℕ, ◌<◌, arith, List, map, filter_map, slice_get, sym, subst, ap, ◌∙◌, Some}
use Rattle.std.specs.List.{FoldsTo}
use Rattle.std.specs.List.Sorted.{IsNonDecreasingBy}
use Rattle.street_base.specs.declared.names.Place.{Place}
use Rattle.street_base.specs.declared.record.RecordRow.{RecordRow}
use Rattle.street_base.specs.Prelude.{LaneState, lane_rows, leaver_of, slot_of}
use Rattle.street_lanes.specs.Prelude.{LaneStands, lane_of}
use Rattle.street_lanes.proofs.GivenRows.{rows-stand}
use Rattle.street_record.specs.Rows.{as_written, arrival_at, FindsRow}
use Rattle.street_record.proofs.Arrivals.{found-is, lane-given}
use Rattle.street_record.proofs.InOrder.{arrivals-sorted}
use Rattle.street_tile.specs.Prelude.{TileView, is_own, own_places}
use Rattle.street_tile.proofs.DoesIf.{seen-within, seen-any}
use Rattle.street_tile.proofs.SameLanes.{same-none}
use Rattle.street_tile.proofs.OwnLanes.{own-lanes}
use Rattle.street_tile.proofs.tile.Tile.record.Goals as goal

pub record-requires : goal.record-requires
record-requires g c = seen-within c.args.net.now c.self.view_is c.requires.tile c.number-lane.result c.args.at c.number-lane.ensures c.self.inside.own (same-none c.self.inside.own)

pub returns : goal.returns
returns g c before after on s left =
    let net = c.args.net.now in
    let v = c.args.self.now in
    let at = c.args.at in
    let n = c.number-lane.result in
    let own = own_places net v.low v.high in
    let tile = c.requires.tile in
    let takes = g.S.RowSink.takes in
    let items : c.deref.result.now ≡ filter_map (arrival_at before) own =
    c.deref.ensures.value ∙ ap (λ (t : TileView). t.left) c.self.view_is ∙ left ∙ ap (filter_map (arrival_at before)) tile.places in
    let rising : IsNonDecreasingBy (λ (r : RecordRow). r.slot) c.deref.result.now =
    subst (IsNonDecreasingBy (λ (r : RecordRow). r.slot)) (sym items) (arrivals-sorted net tile.roads.two (is_own net v.low v.high) (leaver_of before)) in
    let finds : FindsRow (filter_map (arrival_at before) own) (slot_of at) c.row_of.result =
    subst (λ (rows : List RecordRow). FindsRow rows (slot_of at) c.row_of.result) items (subst (λ (k : ℕ). FindsRow c.deref.result.now k c.row_of.result) c.slot-slot.ensures (c.row_of.ensures rising)) in
    let there : slice_get own n ≡ Some at = ap (λ (ps : List Place). slice_get ps n) (sym tile.places) ∙ c.number-lane.ensures in
    let two : (k : ℕ) (p : Place) → slice_get own k ≡ Some p → p.lane < 2 =
    λ k p is. (let lane = (own-lanes net v.low v.high k p is).1 in let few = tile.roads.two p.link in omega arith) in
    let found : c.row_of.result ≡ arrival_at before at = found-is (leaver_of before) own two n at there c.row_of.result finds in
    let given : (lane : LaneState) → LaneStands (lane_of c.self.inside.own n) lane → FoldsTo takes c.args.sink.now (map as_written (lane_rows (slot_of at) lane)) c.record.new.sink =
    λ lane stands. subst (λ (rows : List RecordRow). FoldsTo takes c.args.sink.now (map as_written rows) c.record.new.sink) (rows-stand (lane_of c.self.inside.own n) lane (slot_of at) stands)
    (subst (λ (k : ℕ). FoldsTo takes c.args.sink.now (map as_written (lane_rows k (lane_of c.self.inside.own n))) c.record.new.sink) c.slot-slot.ensures c.record.ensures) in
    let lane = seen-any net c.self.view_is tile n at c.number-lane.ensures (λ lane. FoldsTo takes c.args.sink.now (map as_written (lane_rows (slot_of at) lane)) c.record.new.sink) given after s in
    lane-given takes c.args.sink.now c.record.new.sink c.give_row.new.sink before after at c.row_of.result lane found c.give_row.ensures
