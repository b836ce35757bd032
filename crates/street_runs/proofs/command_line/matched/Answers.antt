use Rattle.std.proofs.Common.{arith, codes, true≢false, refl, sym, ◌∙◌}
use Rattle.street_runs.proofs.Parser.{bad_unfit, few, fit, found_rows, silent, stands, stands_alone, unsaid, unsaid_calls}
use Rattle.street_runs.proofs.command_line.matched.Goals as goal

pub returns-clause-found : goal.returns-clause-found
returns-clause-found c =
    found_rows c.args.matches.now _ c.in_ok-workers.ensures.said c.in_ok-calls.ensures.said c.get_str.ensures c.get_str-2.ensures c.get_str-3.ensures
    c.is_said.ensures c.get_str-4.ensures c.is_said-2.ensures c.get_str-5.ensures c.in_ok-named_scripts.ensures.scripts

pub returns-clause-fit : goal.returns-clause-fit
returns-clause-fit c =
    let together = c.in_default.ensures.none refl in
    let alone = c.in-None.ensures.none refl in
    fit _ _ c.in_ok-named_scripts.ensures.whole (returns-clause-found c) c.in_ok-workers.ensures.fit c.in_ok-calls.ensures.fit together.0 alone.0 together.1
    (λ deskless. unsaid c.args.matches.now (codes "calls") _ _ c.get_str-6.ensures c.is_some-says_calls.ensures (alone.1 deskless))

pub returns-in-Some-clause-unfit : goal.returns-in-Some-clause-unfit
returns-in-Some-clause-unfit c =
    bad_unfit _ c.bad_words.result _ c.bad_words.ensures (λ fits.
    let is = found_rows c.args.matches.now _ c.in_ok-workers.ensures.said c.in_ok-calls.ensures.said
    c.get_str.ensures c.get_str-2.ensures c.get_str-3.ensures c.is_said.ensures c.get_str-4.ensures c.is_said-2.ensures c.get_str-5.ensures c.in_ok-named_scripts.ensures.scripts in
    let many = c.in-Some.ensures.some refl (stands _ _ c.in_ok-named_scripts.ensures.whole is fits) in
    omega (arith, many, few _ _ c.in_ok-named_scripts.ensures.whole is fits))

pub returns-in-Some-misfit_alone-clause-unfit : goal.returns-in-Some-misfit_alone-clause-unfit
returns-in-Some-misfit_alone-clause-unfit c =
    bad_unfit _ c.bad_words-in-Some-misfit_alone.result _ c.bad_words-in-Some-misfit_alone.ensures (λ fits.
    let is = found_rows c.args.matches.now _ c.in_ok-workers.ensures.said c.in_ok-calls.ensures.said
    c.get_str.ensures c.get_str-2.ensures c.get_str-3.ensures c.is_said.ensures c.get_str-4.ensures c.is_said-2.ensures c.get_str-5.ensures c.in_ok-named_scripts.ensures.scripts in
    let both = c.in-Some-misfit_alone.ensures.some refl (stands_alone _ _ c.in_ok-named_scripts.ensures.whole is fits) in
    true≢false (sym both.1 ∙ silent c.args.matches.now (codes "calls") _ _ c.get_str-6.ensures c.is_some-says_calls.ensures (unsaid_calls _ _ is fits both.0)))
