use Rattle.std.proofs.Common.{IsSome, refl, sym, subst}
use Rattle.street_yard.proofs.YardLemmas.{on_has_entry}
use Rattle.street_lanes.proofs.PlaceFor.{IsBetween, on-key, behind-fewer, between-start, between-on, between-step}
use Rattle.street_lanes.proofs.departures.last_not_after.Goals as goal

pub loop-cursor-init : goal.loop-cursor-init
loop-cursor-init c = between-start c.args.yard.now c.args.list.0 c.args.car.now _ _ c.next_behind-cursor.ensures.whole c.requires.start c.next_behind-cursor.ensures.next

pub is_before-requires : goal.is_before-requires
is_before-requires c = on_has_entry c.args.yard.now c.in-Some.key c.args.list.0 (on-key c.args.yard.now c.args.list.0 _ c.in-Some.key (between-on c.args.yard.now c.args.list.0 c.args.car.now _ _ c.next_behind-cursor.ensures.whole c.loop-cursor.invariant) c.in-Some.is)

pub behind-cursor-requires : goal.behind-cursor-requires
behind-cursor-requires c = subst IsSome (sym (on-key c.args.yard.now c.args.list.0 _ c.in-Some.key (between-on c.args.yard.now c.args.list.0 c.args.car.now _ _ c.next_behind-cursor.ensures.whole c.loop-cursor.invariant) c.in-Some.is)) refl

pub loop-cursor-smaller : goal.loop-cursor-smaller
loop-cursor-smaller c = behind-fewer c.args.yard.now c.args.list.0 _ c.in-Some.key c.next_behind-cursor.ensures.whole (between-on c.args.yard.now c.args.list.0 c.args.car.now _ _ c.next_behind-cursor.ensures.whole c.loop-cursor.invariant) c.in-Some.is _ c.behind-cursor.ensures.behind

pub loop-cursor-preserved : goal.loop-cursor-preserved
loop-cursor-preserved c =
    let is = c.in-Some.is in
    subst (λ o. IsBetween c.args.yard.now c.args.list.0 c.args.car.now o c.behind-cursor.result) is
    (between-step c.args.yard.now c.args.list.0 c.args.car.now _ c.in-Some.key is c.is_before.result c.is_before.ensures _ c.loop-cursor.invariant c.if-is_before.false _ c.behind-cursor.ensures.behind)
