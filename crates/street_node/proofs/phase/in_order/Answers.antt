use Rattle.std.proofs.Common.{◌∙◌}
use Rattle.std.specs.Ordering.{nat_cmp}
use Rattle.street_node.proofs.TurnRank.{compared}
use Rattle.street_node.proofs.phase.in_order.Goals as goal

pub returns : goal.returns
returns c =
    c.cmp.ensures
    ∙ (λ i. nat_cmp (c.rank.ensures.rank i) (c.rank-2.ensures.rank i))
    ∙ compared c.args.turn.now c.args.other.now c.rank.ensures.small.0 c.rank-2.ensures.small.0 c.rank.ensures.small.1 c.rank-2.ensures.small.1
