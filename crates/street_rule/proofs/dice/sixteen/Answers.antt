use Rattle.std.proofs.Common.{subst, arith}
use Rattle.street_rule.specs.Prelude.{Asked}
use Rattle.street_rule.proofs.DrawLemmas.{joined-four, four-below, four-fit}
use Rattle.street_rule.proofs.dice.sixteen.Goals as goal

pub returns-clause-asked : goal.returns-clause-asked
returns-clause-asked c small =
    subst (Asked 16 c.args.lane c.args.slow c.args.rng.now c.four-fourth.new.rng) (omega arith)
    (joined-four 4 _ _ _ _ _ _ _ _ _ _ _ (omega arith) (omega (arith, small)) c.four-first.ensures.asked c.four-second.ensures.asked c.four-third.ensures.asked c.four-fourth.ensures.asked)

pub overflow_mul-result : goal.overflow_mul-result
overflow_mul-result c = (four-fit c.four-first.result c.four-second.result c.four-third.result c.four-fourth.result c.four-first.ensures.bound c.four-second.ensures.bound c.four-third.ensures.bound c.four-fourth.ensures.bound).0

pub overflow_add-result : goal.overflow_add-result
overflow_add-result c = (four-fit c.four-first.result c.four-second.result c.four-third.result c.four-fourth.result c.four-first.ensures.bound c.four-second.ensures.bound c.four-third.ensures.bound c.four-fourth.ensures.bound).1

pub overflow_mul-result-2 : goal.overflow_mul-result-2
overflow_mul-result-2 c = (four-fit c.four-first.result c.four-second.result c.four-third.result c.four-fourth.result c.four-first.ensures.bound c.four-second.ensures.bound c.four-third.ensures.bound c.four-fourth.ensures.bound).2

pub overflow_add-result-2 : goal.overflow_add-result-2
overflow_add-result-2 c = (four-fit c.four-first.result c.four-second.result c.four-third.result c.four-fourth.result c.four-first.ensures.bound c.four-second.ensures.bound c.four-third.ensures.bound c.four-fourth.ensures.bound).3

pub overflow_mul-result-3 : goal.overflow_mul-result-3
overflow_mul-result-3 c = (four-fit c.four-first.result c.four-second.result c.four-third.result c.four-fourth.result c.four-first.ensures.bound c.four-second.ensures.bound c.four-third.ensures.bound c.four-fourth.ensures.bound).4

pub overflow_add-result-3 : goal.overflow_add-result-3
overflow_add-result-3 c = (four-fit c.four-first.result c.four-second.result c.four-third.result c.four-fourth.result c.four-first.ensures.bound c.four-second.ensures.bound c.four-third.ensures.bound c.four-fourth.ensures.bound).5

pub returns-clause-bound : goal.returns-clause-bound
returns-clause-bound c = four-below c.four-first.result c.four-second.result c.four-third.result c.four-fourth.result c.four-first.ensures.bound c.four-second.ensures.bound c.four-third.ensures.bound c.four-fourth.ensures.bound
