use Rattle.std.proofs.Common.{List, ℕ, Option, Some, Bor, subst, sym}
use Rattle.street_runs.specs.Taped.{TapeEnds}
use Rattle.street_runs.proofs.taped.keep_tape.Goals as goal

pub returns : goal.returns
returns g c =
    let taped = c.end_with_tape-taped in
    subst (λ (name : Option (Bor (List ℕ))). TapeEnds g.T.Write.contents (g.O.TapeOpener.start c.args.opener.now) (g.O.TapeOpener.fails c.args.opener.now) c.args.pass name taped.result (Some taped.new.writer)) (sym c.in-Some.is)
    (c.in-Ok.tape, c.in-Ok.ensures.opened.0, c.in-Ok.ensures.opened.1, taped.ensures.written, taped.ensures.stops)
