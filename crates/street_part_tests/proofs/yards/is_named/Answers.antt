use Rattle.std.proofs.Common.{rules}
use Rattle.street_yard.proofs.YardLemmas.{loose_has_entry}
use Rattle.street_part_tests.proofs.yards.is_named.Goals as goal

pub returns : goal.returns
returns g c = loose_has_entry c.args.yard.now c.args.key (c.is_loose.ensures.0 (search rules))
