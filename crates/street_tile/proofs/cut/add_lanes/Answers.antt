use Rattle.std.proofs.Common.{◌∷◌, [], ◌++◌, ◌∙◌, sym, ap, arith, map, List}
use Rattle.std.specs.List.{range_with_len}
use Rattle.std.proofs.lemmas.List.{append_assoc}
use Rattle.std.proofs.lemmas.List.FromFn.{map-range_with_len_more}
use Rattle.street_base.specs.declared.names.Place.{Place}
use Rattle.street_tile.proofs.cut.add_lanes.Goals as goal

pub loop-lane-preserved : goal.loop-lane-preserved
loop-lane-preserved c =
    let lane : Place = record { link = c.args.link; lane = c.loop-lane.lane } in
    c.in_ok-push.ensures.items
    ∙ ap (λ (xs : List Place). xs ++ lane ∷ []) c.loop-lane.invariant
    ∙ append_assoc c.args.list.now.items (map (λ k. record { link = c.args.link; lane = k }) (range_with_len 0 c.loop-lane.lane)) (lane ∷ [])
    ∙ ap (λ (xs : List Place). c.args.list.now.items ++ xs) (sym (map-range_with_len_more (λ k. record { link = c.args.link; lane = k }) 0 c.loop-lane.lane c.loop-lane.lane (omega arith)))
