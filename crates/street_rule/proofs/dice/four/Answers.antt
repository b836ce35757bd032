use Rattle.street_rule.proofs.DrawLemmas.{asked-four}
use Rattle.street_rule.proofs.dice.four.Goals as goal

pub returns-clause-asked : goal.returns-clause-asked
returns-clause-asked c small = asked-four _ _ _ _ _ _ _ _ _ _ _ c.next_word-first.ensures c.next_word-second.ensures c.next_word-third.ensures c.next_word-fourth.ensures small
