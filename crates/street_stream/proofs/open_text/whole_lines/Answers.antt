use Rattle.std.proofs.Common.{arith}
use Rattle.street_stream.proofs.CutParts.{last_end, no_end}
use Rattle.street_stream.proofs.open_text.whole_lines.Goals as goal

pub returns-in-Some-clause-some : goal.returns-in-Some-clause-some
returns-in-Some-clause-some c = λ seen. last_end seen c.args.bytes.now c.in-Some.at c.in-Some.ensures.0.high c.in-Some.ensures.1 (λ k after within. c.in-Some.ensures.0.after k (omega (arith, after)) within)

pub returns-in-None-clause-none : goal.returns-in-None-clause-none
returns-in-None-clause-none c = λ none seen. no_end seen c.args.bytes.now (λ k within. c.in-None.ensures k (omega arith) within)
