use Rattle.std.proofs.Common.{◌≡◌, ◌<◌, ◌∙◌, length, ap, sym, subst, arith}
use Rattle.std.proofs.lemmas.Option.{slice_get_within}
use Rattle.street_base.specs.Prelude.{lane_at, in_lane}
use Rattle.street_lanes.specs.Prelude.{place_at, vehicle_on}
use Rattle.street_tile.specs.Prelude.{TileView, TileStandsFor, HaveAtMostOne, WhereOnce}
use Rattle.street_tile.proofs.SameLanes.{place-is}
use Rattle.street_tile.proofs.NumberOnce.{not-more}
use Rattle.street_tile.proofs.tile.Tile.take_out.Goals as goal

pub loop-n-preserved : goal.loop-n-preserved
loop-n-preserved c = record {
  same = c.take_out_of_own.ensures.none c.in_default.is ∙ c.loop-n.invariant.same;
  had_not = λ m on s few.
      let none = subst (λ (t : TileView). WhereOnce c.args.net.now t c.args.number (λ m. in_lane c.args.number (lane_at m (place_at t.own c.loop-n.n)) ≡ 0)) c.loop-n.invariant.same (c.take_out_of_own.ensures.had_not c.in_default.is) in
      not-more c.args.number c.args.self.now.own m c.loop-n.n (none m on s few) (c.loop-n.invariant.had_not m on s few);
}

pub returns-in-Some-clause-had : goal.returns-in-Some-clause-had
returns-in-Some-clause-had c = λ m on s few.
    let x = c.args.self.now in
    let n = c.loop-n.n in
    let some = subst (λ (t : TileView). WhereOnce c.args.net.now t c.args.number (λ m. 0 < in_lane c.args.number (lane_at m (place_at t.own n)))) c.loop-n.invariant.same c.in-Some.ensures.had in
    let places : length c.self.inside.own.places ≡ length x.own.places = ap (λ (t : TileView). length t.own.places) c.self.view_is in
    (n, place_at x.own n, place-is x.own n (omega arith), some m on s few)

pub returns-clause-had_not : goal.returns-clause-had_not
returns-clause-had_not c = λ none m on s few k p at.
    let h = slice_get_within c.args.self.now.own.places k p at in
    let places : length c.self.inside.own.places ≡ length c.args.self.now.own.places = ap (λ (t : TileView). length t.own.places) c.self.view_is in
    c.loop-n.invariant.had_not m on s few k p (omega arith) at

pub returns-in-Some-clause-vehicle : goal.returns-in-Some-clause-vehicle
returns-in-Some-clause-vehicle c = λ m on s few.
    let x = c.args.self.now in
    let n = c.loop-n.n in
    let same = c.loop-n.invariant.same in
    let is = c.in-Some.ensures.vehicle m on (subst (λ (t : TileView). TileStandsFor t m) (sym same) s) (subst (λ (t : TileView). HaveAtMostOne t.own.places m c.args.number) (sym same) few) in
    let places : length c.self.inside.own.places ≡ length x.own.places = ap (λ (t : TileView). length t.own.places) c.self.view_is in
    (n, place_at x.own n, place-is x.own n (omega arith), ap (λ (t : TileView). vehicle_on c.args.number (lane_at m (place_at t.own n))) (sym same) ∙ sym is)
