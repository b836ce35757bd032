use Rattle.std.proofs.Common.{◌≡◌, map, take}
use Rattle.street_base.specs.Prelude.{link_at}
use Rattle.street_lanes.proofs.whereabouts.remaining_ids.Given as goal

abbrev pub invariant-loop-link : goal.invariant-loop-link
invariant-loop-link l = l.ids.items ≡ map (λ link. (link_at l.net link).id) (take l.link-index l.plan)
