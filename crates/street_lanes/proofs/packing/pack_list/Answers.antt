use Rattle.std.proofs.Common.{◌≡◌, Some, refl, ◌∙◌, arith}
use Rattle.street_yard.specs.Prelude.{list_on}
use Rattle.street_lanes.proofs.PlaceFor.{on-key, on-front, behind-on}
use Rattle.street_lanes.proofs.PackLemmas.{packs-none, packs-then, renew-packs}
use Rattle.street_lanes.proofs.packing.pack_list.Goals as goal

pub loop-car-init : goal.loop-car-init
loop-car-init c = record {
  packs = packs-none c.args.yard.now;
  on = on-front c.args.yard.now c.args.list.0 _ c.list_front-cursor.ensures.whole c.list_front-cursor.ensures.front;
  dice = refl;
}

pub loop-car-preserved : goal.loop-car-preserved
loop-car-preserved c =
    let was : list_on c.loop-car.yard c.in-Some.key ≡ Some c.args.list.0 = on-key c.loop-car.yard c.args.list.0 _ c.in-Some.key c.loop-car.invariant.on c.in-Some.is in
    record {
      packs = packs-then c.args.yard.now c.loop-car.yard c.renew-next.new.self c.loop-car.invariant.packs (renew-packs c.loop-car.yard c.renew-next.new.self c.in-Some.key c.renew-next.result c.renew-next.ensures.was_whole (omega arith) c.renew-next.ensures.renews);
      on = behind-on c.renew-next.new.self c.args.list.0 (Some c.renew-next.result) c.renew-next.result c.renew-next.ensures.whole (c.renew-next.ensures.renews.on ∙ was) refl _ c.behind-cursor.ensures.behind;
      dice = c.follow.ensures ∙ c.loop-car.invariant.dice;
    }
