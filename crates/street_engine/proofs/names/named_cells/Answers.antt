use Rattle.std.proofs.Common.{ap, arith}
use Rattle.std.proofs.lemmas.Result.{err_from_is_err_and}
use Rattle.street_base.specs.declared.names.Place.{Place}
use Rattle.street_engine.proofs.Numbers.{lane-refused, turned-round, past-the-lane, in-the-lane}
use Rattle.street_engine.proofs.names.named_cells.Goals as goal
use Rattle.street_engine.proofs.names.named_cells.Goals.{then-first-last-via-then-first-last, then-first-last-via-else-first-last+then-last-length}

pub returns-in_err-at-clause-refused : goal.returns-in_err-at-clause-refused
returns-in_err-at-clause-refused c =
    let p = err_from_is_err_and c.from_residual.result c.from_residual.ensures.1 in
    rw (p.1, p.2) (λ m same. lane-refused c.args.link c.args.lane c.args.first c.args.last m _ (λ rest. c.in_err-at.ensures.refused m rest same))

pub returns-then-first-last-clause-refused : goal.returns-then-first-last-clause-refused
returns-then-first-last-clause-refused c = λ m same. elim c.then-first-last.branch [
  | then-first-last-via-then-first-last w ↦ turned-round c.args.net.now c.args.link c.args.lane c.args.first c.args.last c.in_ok-at.at.link m same (ap (λ (p : Place). p.link) c.in_ok-at.ensures.place) (λ rest. c.in_ok-at.ensures.passed m rest same) (omega arith)
  | then-first-last-via-else-first-last+then-last-length w ↦ past-the-lane c.args.net.now c.args.link c.args.lane c.args.first c.args.last c.in_ok-at.at.link m same (ap (λ (p : Place). p.link) c.in_ok-at.ensures.place) (λ rest. c.in_ok-at.ensures.passed m rest same) (omega (arith, w.if-last-length.true, c.length_of.ensures, c.from-length.ensures))
]

pub overflow_cast-result : goal.overflow_cast-result
overflow_cast-result c = omega (arith, c.if-last-length.false, c.if-first-last.false)

pub overflow_cast-result-2 : goal.overflow_cast-result-2
overflow_cast-result-2 c = omega (arith, c.if-last-length.false)

pub returns-clause-passed : goal.returns-clause-passed
returns-clause-passed c = λ m same. in-the-lane c.args.net.now c.args.link c.args.lane c.args.first c.args.last c.in_ok-at.at.link m same (ap (λ (p : Place). p.link) c.in_ok-at.ensures.place) (λ rest. c.in_ok-at.ensures.passed m rest same) (omega (arith, c.if-first-last.false)) (omega (arith, c.if-last-length.false, c.length_of.ensures, c.from-length.ensures))
