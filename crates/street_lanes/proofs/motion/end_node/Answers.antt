use Rattle.std.proofs.Common.{◌∙◌}
use Rattle.std.proofs.lemmas.Option.{slice_get-get_or}
use Rattle.street_lanes.proofs.Residences.{residence-within}
use Rattle.street_lanes.proofs.motion.end_node.Goals as goal

pub returns-clause-residence : goal.returns-clause-residence
returns-clause-residence c = rw (c.as_slice.ensures, c.spec.ensures.value, c.position.ensures) (residence-within c.args.net.now c.spec.ensures.faultless c.end_of.result _ c.end_of.ensures.within)

pub bounds-as_slice-position : goal.bounds-as_slice-position
bounds-as_slice-position c = rw (c.as_slice.ensures, c.spec.ensures.value, c.position.ensures) c.end_of.ensures.within

pub returns-clause-node : goal.returns-clause-node
returns-clause-node c = c.end_of.ensures.node ∙ rw (c.as_slice.ensures, c.spec.ensures.value, c.position.ensures) (slice_get-get_or c.args.net.now.nodes c.end_of.result _ c.end_of.ensures.within)
