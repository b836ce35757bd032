use Rattle.std.proofs.Common.{IsSome, refl, sym, subst, ◌∙◌}
use Rattle.street_yard.specs.Prelude.{car_of}
use Rattle.street_yard.proofs.YardLemmas.{on_has_entry}
use Rattle.street_lanes.proofs.ListWalk.{walk-on, walk-smaller}
use Rattle.street_lanes.proofs.Sought.{ahead-start, ahead-found, ahead-step, number-held}
use Rattle.street_lanes.proofs.search.seek.Goals as goal

pub loop-cursor-init : goal.loop-cursor-init
loop-cursor-init c = ahead-start c.args.yard.now c.args.list.0 c.args.number _ c.list_front-cursor.ensures.front

pub number-requires : goal.number-requires
number-requires c = on_has_entry c.args.yard.now c.in-Some-cursor.key c.args.list.0 (walk-on c.in-Some-cursor.key c.list_front-cursor.ensures.whole c.loop-cursor.invariant.walk c.in-Some-cursor.is)

pub returns-then-number-clause-sought : goal.returns-then-number-clause-sought
returns-then-number-clause-sought c = let h = number-held (car_of c.args.yard.now c.in-Some-cursor.key) c.number.result c.number.ensures in ahead-found c.args.yard.now c.args.list.0 c.args.number _ c.in-Some-cursor.key c.list_front-cursor.ensures.whole c.loop-cursor.invariant c.in-Some-cursor.is h.0 h.1 (h.2 ∙ c.if-number.true)

pub behind-cursor-requires : goal.behind-cursor-requires
behind-cursor-requires c = subst IsSome (sym (walk-on c.in-Some-cursor.key c.list_front-cursor.ensures.whole c.loop-cursor.invariant.walk c.in-Some-cursor.is)) refl

pub loop-cursor-smaller : goal.loop-cursor-smaller
loop-cursor-smaller c = walk-smaller c.in-Some-cursor.key c.list_front-cursor.ensures.whole c.loop-cursor.invariant.walk c.in-Some-cursor.is _ c.behind-cursor.ensures.behind

pub loop-cursor-preserved : goal.loop-cursor-preserved
loop-cursor-preserved c = let h = number-held (car_of c.args.yard.now c.in-Some-cursor.key) c.number.result c.number.ensures in ahead-step c.args.yard.now c.args.list.0 c.args.number _ c.in-Some-cursor.key c.list_front-cursor.ensures.whole c.loop-cursor.invariant c.in-Some-cursor.is _ c.behind-cursor.ensures.behind h.0 h.1 (λ e. c.if-number.false (sym h.2 ∙ e))
