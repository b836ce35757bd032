use Rattle.std.proofs.Common.{◌≡◌, List, [], ap, subst, ◌∙◌}
use Rattle.std.proofs.lemmas.Bool.{not-true}
use Rattle.street_base.specs.Prelude.{is_closed}
use Rattle.street_gap.specs.declared.closures.Stretch.{Stretch}
use Rattle.street_gap.specs.Prelude.{IsWithin, closed_marks}
use Rattle.street_gap.proofs.Marks.{closed_marks-at}
use Rattle.street_lanes.specs.Prelude.{LaneView}
use Rattle.street_lanes.specs.Inside.{length_at, closed_at}
use Rattle.street_lanes.proofs.Access.{in-extents, lane-is}
use Rattle.street_lanes.proofs.lanes.Lanes.is_all_open.Goals as goal

pub returns : goal.returns
returns c = λ e n h.
    let x = c.self.inside in
    let count = length_at x.extents.items n in
    let none : closed_at x.closures.items n ≡ [] = c.self.invariant.none_closed (not-true x.has_closures e) n in
    let inside = subst (λ (s : List Stretch). IsWithin s count) none (c.self.invariant.laid.within n (in-extents x c.args.self.now c.self.view_is n h)) in
    ap (λ (l : LaneView). is_closed l.track.closed 0) (lane-is x c.args.self.now c.self.view_is n h)
    ∙ ap (λ (s : List Stretch). is_closed (closed_marks s count) 0) none
    ∙ closed_marks-at [] count 0 inside
