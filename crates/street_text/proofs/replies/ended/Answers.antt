use Rattle.street_text.proofs.replies.ended.Goals as goal

pub returns-in-Arrived : goal.returns-in-Arrived
returns-in-Arrived c = rw c.in-Arrived.is c.ended_as.ensures
