use Rattle.std.proofs.Common.{◌∙◌}
use Rattle.street_lanes.proofs.PackLemmas.{packs-then}
use Rattle.street_lanes.proofs.packing.pack_lanes.Goals as goal

pub loop-lane-preserved : goal.loop-lane-preserved
loop-lane-preserved c = (
  packs-then c.args.yard.now c.pack_list-at.new.yard c.pack_list-at-in-loop-lane.new.yard
      (packs-then c.args.yard.now c.loop-lane.yard c.pack_list-at.new.yard c.loop-lane.invariant.0 c.pack_list-at.ensures.packs)
      c.pack_list-at-in-loop-lane.ensures.packs,
  c.pack_list-at-in-loop-lane.ensures.dice ∙ c.pack_list-at.ensures.dice ∙ c.loop-lane.invariant.1,
)
