use Rattle.std.proofs.Common.{ℕ, Some, IsSome, refl, sym, ap, subst, ◌∙◌}
use Rattle.street_yard.proofs.YardLemmas.{on_has_entry}
use Rattle.street_record.specs.Rows.{as_written}
use Rattle.street_lanes.specs.Record.{car_row}
use Rattle.street_lanes.proofs.ListWalk.{walk-start, walk-on, walk-smaller}
use Rattle.street_lanes.proofs.Given.{row-read, given-step, given-all}
use Rattle.street_lanes.proofs.record.give.Goals as goal

pub loop-cursor-init : goal.loop-cursor-init
loop-cursor-init g c = record { walk = walk-start c.args.yard.now c.args.list.0 _ c.list_front-cursor.ensures.front; each = refl }

pub number-requires : goal.number-requires
number-requires g c = on_has_entry c.args.yard.now c.in-Some.key c.args.list.0 (walk-on c.in-Some.key c.list_front-cursor.ensures.whole c.loop-cursor.invariant.walk c.in-Some.is)

pub of-requires : goal.of-requires
of-requires g c = on_has_entry c.args.yard.now c.in-Some.key c.args.list.0 (walk-on c.in-Some.key c.list_front-cursor.ensures.whole c.loop-cursor.invariant.walk c.in-Some.is)

pub speed-requires : goal.speed-requires
speed-requires g c = on_has_entry c.args.yard.now c.in-Some.key c.args.list.0 (walk-on c.in-Some.key c.list_front-cursor.ensures.whole c.loop-cursor.invariant.walk c.in-Some.is)

pub behind-cursor-requires : goal.behind-cursor-requires
behind-cursor-requires g c = subst IsSome (sym (walk-on c.in-Some.key c.list_front-cursor.ensures.whole c.loop-cursor.invariant.walk c.in-Some.is)) refl

pub loop-cursor-smaller : goal.loop-cursor-smaller
loop-cursor-smaller g c = walk-smaller c.in-Some.key c.list_front-cursor.ensures.whole c.loop-cursor.invariant.walk c.in-Some.is _ c.behind-cursor.ensures.behind

pub loop-cursor-preserved : goal.loop-cursor-preserved
loop-cursor-preserved g c =
    given-step c.args.yard.now c.args.list.0 g.S.RowSink.takes (λ car. as_written (car_row c.args.slot g.P.Spot.spot car)) c.args.sink.now c.loop-cursor.cursor c.loop-cursor.sink c.in-Some.key c.list_front-cursor.ensures.whole c.loop-cursor.invariant c.in-Some.is
    _ c.behind-cursor.ensures.behind _ (row-read c.args.slot g.P.Spot.spot _ _ _ _ c.number.ensures c.of.ensures (c.speed.ensures ∙ ap (λ (v : ℕ). Some v) (sym c.from.ensures))) c.row.new.self c.row.ensures
