use Rattle.std.proofs.Common.{◌≡◌, [], ap, subst, sym, ◌∙◌, arith}
use Rattle.std.proofs.lemmas.List.{get_or_read}
use Rattle.street_base.specs.Prelude.{is_closed}
use Rattle.street_gap.specs.Prelude.{IsWithin, closed_marks}
use Rattle.street_gap.proofs.Marks.{closed_marks-at}
use Rattle.street_lanes.specs.Prelude.{LaneView}
use Rattle.street_lanes.specs.Inside.{length_at, closed_at}
use Rattle.street_lanes.proofs.Access.{in-extents, in-closures, lane-is}
use Rattle.street_lanes.proofs.lanes.Lanes.is_first_closed.Goals as goal

pub index-requires : goal.index-requires
index-requires c = omega (arith, in-closures c.self.inside c.args.self.now c.self.view_is c.args.lane c.requires c.self.invariant.laid, c.self.inside.closures.ok.0)

pub returns : goal.returns
returns c =
    let n = c.args.lane in
    let count = length_at c.self.inside.extents.items n in
    let is : c.index.result.now ≡ closed_at c.self.inside.closures.items n = get_or_read c.self.inside.closures.items n c.index.result.now (in-closures c.self.inside c.args.self.now c.self.view_is n c.requires c.self.invariant.laid) c.index.ensures [] in
    let inside = c.self.invariant.laid.within n (in-extents c.self.inside c.args.self.now c.self.view_is n c.requires) in
    c.is_closed.ensures
    ∙ sym (closed_marks-at c.index.result.now count 0 (subst (λ s. IsWithin s count) (sym is) inside))
    ∙ ap (λ s. is_closed (closed_marks s count) 0) is
    ∙ sym (ap (λ (l : LaneView). is_closed l.track.closed 0) (lane-is c.self.inside c.args.self.now c.self.view_is n c.requires))
