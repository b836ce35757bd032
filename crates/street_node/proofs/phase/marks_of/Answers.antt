use Rattle.std.proofs.Common.{◌∙◌, ap, subst, take_all}
use Rattle.street_node.specs.declared.phase.GreenTurn.{GreenTurn}
use Rattle.street_node.specs.Prelude.{mark_of, HasMarks}
use Rattle.street_node.proofs.LinkMarks.{more}
use Rattle.street_node.proofs.phase.marks_of.Goals as goal

pub loop-green-preserved : goal.loop-green-preserved
loop-green-preserved c = more c.loop-green.marks c.args.greens.now c.loop-green.green-index _ c.mark_of.result c.loop-green-test.true c.mark_of.ensures.small (c.mark_of.ensures.is ∙ ap (λ (t : GreenTurn). mark_of t.link) c.green-item.is) c.loop-green.invariant

pub returns : goal.returns
returns c = subst (HasMarks c.loop-green.marks) (take_all c.loop-green.green-index c.args.greens.now c.loop-green-test.false) c.loop-green.invariant
