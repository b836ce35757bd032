use Rattle.std.proofs.Common.{ap, arith, length, length-append, List, ℕ, refl}
use Rattle.street_stream.specs.Lines.{cut}
use Rattle.street_line.proofs.redo.ended_bytes.Goals as goal

pub returns-in-Some : goal.returns-in-Some
returns-in-Some c = λ earlier before total. let some = c.in-Some.ensures.some earlier in omega (arith, some, total, length-append earlier c.args.bytes.now)

pub returns-in-None : goal.returns-in-None
returns-in-None c = λ earlier before total.
    let last = ap (λ (l : List ℕ). length l) (c.in-None.ensures.none refl earlier) in
    omega (arith, last, before, length-append earlier c.args.bytes.now, length-append (cut earlier).1 c.args.bytes.now)
