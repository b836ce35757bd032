use Rattle.std.proofs.Common.{IsSome, refl, sym, ap, subst, ◌++◌, ◌∷◌, [], ◌∙◌}
use Rattle.street_yard.proofs.YardLemmas.{on_has_entry}
use Rattle.street_yard.specs.Prelude.{viewed}
use Rattle.street_lanes.proofs.ListWalk.{walk-start, walk-on, walk-smaller}
use Rattle.street_lanes.proofs.Entries.{IsTold, told-step}
use Rattle.street_lanes.proofs.lane_reply.entries.Goals as goal

pub loop-cursor-init : goal.loop-cursor-init
loop-cursor-init g c = record { walk = walk-start c.args.yard.now c.args.list.0 _ c.list_front-cursor.ensures.front; each = c.in_ok-entries.ensures.items }

pub car-requires : goal.car-requires
car-requires g c = on_has_entry c.args.yard.now c.in-Some.key c.args.list.0 (walk-on c.in-Some.key c.list_front-cursor.ensures.whole c.loop-cursor.invariant.walk c.in-Some.is)

pub behind-cursor-requires : goal.behind-cursor-requires
behind-cursor-requires g c = subst IsSome (sym (walk-on c.in-Some.key c.list_front-cursor.ensures.whole c.loop-cursor.invariant.walk c.in-Some.is)) refl

pub loop-cursor-smaller : goal.loop-cursor-smaller
loop-cursor-smaller g c = walk-smaller c.in-Some.key c.list_front-cursor.ensures.whole c.loop-cursor.invariant.walk c.in-Some.is _ c.behind-cursor.ensures.behind

pub loop-cursor-preserved : goal.loop-cursor-preserved
loop-cursor-preserved g c =
    subst (IsTold c.args.yard.now c.args.list.0 g.E.CarEntry.shown _) (sym (c.in_ok-push.ensures.items ∙ ap (λ e. c.loop-cursor.entries.items ++ e ∷ []) c.of.ensures))
    (told-step c.args.yard.now c.args.list.0 g.E.CarEntry.shown _ _ c.in-Some.key c.list_front-cursor.ensures.whole c.loop-cursor.invariant c.in-Some.is _ c.behind-cursor.ensures.behind (viewed c.car.result) c.car.ensures)
