use Rattle.street_text.specs.ReplyLines.{reply_line}
use Rattle.street_text.proofs.replies.reply_text.Goals as goal

pub returns-in-Census : goal.returns-in-Census
unfolding reply_line
returns-in-Census c = rw c.in-Census.is c.object_line-in-Census.ensures
