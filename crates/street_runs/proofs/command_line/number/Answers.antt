use Rattle.std.proofs.Common.{List, ℕ, Option, refl, subst, sym}
use Rattle.street_runs.specs.Parser.{IsCountIfSaid, IsNumberOf}
use Rattle.street_runs.proofs.Parser.{bad_unfit, first_row}
use Rattle.street_runs.proofs.command_line.number.Goals as goal

pub returns-in_default-clause-said : goal.returns-in_default-clause-said
returns-in_default-clause-said c =
    subst (λ (word : Option (List ℕ)). IsNumberOf word c.args.default c.args.default) (first_row c.args.matches.now c.args.name.now _ c.in_default.ensures) refl

pub returns-in_default-clause-fit : goal.returns-in_default-clause-fit
returns-in_default-clause-fit c =
    subst (λ (word : Option (List ℕ)). IsCountIfSaid c.args.most word) (first_row c.args.matches.now c.args.name.now _ c.in_default.ensures) tt

pub returns-in-Some-number_of-clause-said : goal.returns-in-Some-number_of-clause-said
returns-in-Some-number_of-clause-said c =
    subst (λ (word : Option (List ℕ)). IsNumberOf word c.args.default c.in-Some-number_of.number)
    (first_row c.args.matches.now c.args.name.now _ c.in-Some.ensures) c.in-Some-number_of.ensures.1

pub returns-in-Some-number_of-clause-fit : goal.returns-in-Some-number_of-clause-fit
returns-in-Some-number_of-clause-fit c =
    subst (λ (word : Option (List ℕ)). IsCountIfSaid c.args.most word) (first_row c.args.matches.now c.args.name.now _ c.in-Some.ensures)
    c.in-Some-number_of.ensures.0

pub returns-clause-unfit : goal.returns-clause-unfit
returns-clause-unfit c =
    bad_unfit _ c.bad_words.result _ c.bad_words.ensures (λ said. c.in_default-number_of.ensures
    (subst (λ (word : Option (List ℕ)). IsCountIfSaid c.args.most word) (sym (first_row c.args.matches.now c.args.name.now _ c.in-Some.ensures)) said))
