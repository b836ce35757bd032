use Rattle.std.proofs.Common.{List, Ok, Err, map, string_bytes, subst}
use Rattle.std.proofs.lemmas.Result.{IfOk-weaker, err_from_is_err_and}
use Rattle.clap.proofs.WalkLemmas.{IfOk-both}
use Rattle.clap.specs.Words.{Row, app_of}
use Rattle.street_runs.specs.Parser.{IsFit, IsFound}
use Rattle.street_runs.proofs.Parser.{found, options_refused, refused, told_refused}
use Rattle.street_runs.proofs.command_line.options_by.Goals as goal

pub returns-in_err-matches-clause-refused : goal.returns-in_err-matches-clause-refused
returns-in_err-matches-clause-refused c = λ is.
    let words = map string_bytes c.args.words.now in
    let p = err_from_is_err_and c.from_residual.result c.from_residual.ensures.1 in
    rw p.1 (told_refused words _ p.0 p.2 (refused (app_of c.args.command.now) words (Err c.in_err-matches.field-0.0) is c.in_err-matches.ensures.kinds))

pub returns-clause-asked : goal.returns-clause-asked
returns-clause-asked c = λ is.
    let words = map string_bytes c.args.words.now in
    let same = found (app_of c.args.command.now) words c.in_ok-matches.matches is c.in_ok-matches.ensures.ok.2 in
    IfOk-weaker c.matched.result _ _
    (λ options both. record {
      taken = refused (app_of c.args.command.now) words (Ok c.in_ok-matches.matches) is c.in_ok-matches.ensures.kinds;
      fit = subst IsFit same both.1;
      is = subst (λ (rows : List Row). IsFound rows options) same both.0;
    })
    (IfOk-both c.matched.result _ _ c.matched.ensures.found c.matched.ensures.fit)

pub returns-clause-refused : goal.returns-clause-refused
returns-clause-refused c = λ is.
    let words = map string_bytes c.args.words.now in
    options_refused words _ c.matched.result
    (refused (app_of c.args.command.now) words (Ok c.in_ok-matches.matches) is c.in_ok-matches.ensures.kinds)
    (found (app_of c.args.command.now) words c.in_ok-matches.matches is c.in_ok-matches.ensures.ok.2) c.matched.ensures.unfit
