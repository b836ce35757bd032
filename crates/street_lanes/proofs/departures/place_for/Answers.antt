use Rattle.std.proofs.Common.{Option, sym, subst}
use Rattle.street_yard.specs.declared.names.Key.{Key}
use Rattle.street_yard.specs.Prelude.{IsOnList}
use Rattle.street_yard.proofs.YardLemmas.{on_has_entry}
use Rattle.street_lanes.proofs.PlaceFor.{on-key, on-back}
use Rattle.street_lanes.proofs.departures.place_for.Goals.{in-Some, in_default-2, in_default}
use Rattle.street_lanes.proofs.departures.place_for.Goals as goal

pub is_before-requires : goal.is_before-requires
is_before-requires c = on_has_entry c.args.yard.now c.in-Some.last c.args.list.0 (on-key c.args.yard.now c.args.list.0 _ c.in-Some.last (on-back c.args.yard.now c.args.list.0 _ c.list_back.ensures.whole c.list_back.ensures.back) c.in-Some.is)

pub not_after-start-requires : goal.not_after-start-requires
not_after-start-requires c =
    let IsOn : Option Key → Type 0 = λ o. IsOnList c.args.yard.now c.args.list.0 o in
    let back : IsOn c.list_back.result = on-back c.args.yard.now c.args.list.0 _ c.list_back.ensures.whole c.list_back.ensures.back in
    elim c.match-list_back.branch as (λ _. IsOn c.match-list_back.start) [
      | in-Some w ↦ subst IsOn (sym w.start-is) w.near-start.ensures
      | in_default-2 w ↦ subst IsOn (sym w.start-is) (subst IsOn w.in-Some.is back)
      | in_default w ↦ subst IsOn (sym w.start-is) back
    ]
