use Rattle.std.proofs.Common.{◌≡◌, ◌∙◌, ap, ap₂, codes}
use Rattle.std.proofs.lemmas.Result.{IfOk-weaker}
use Rattle.clap.specs.Simple.{app_of, app_of_fields, new_app}
use Rattle.street_runs.specs.Parser.{with_rules, with_version}
use Rattle.street_runs.proofs.Parser.{rules_in_turn}
use Rattle.street_runs.proofs.command.streetsim.Goals as goal

pub returns : goal.returns
returns c =
    let named : app_of c.in_ok-bin_name.field-0 ≡ with_version (new_app (codes "streetsim")) =
    ap app_of_fields c.in_ok-bin_name.ensures.0 ∙ ap app_of_fields c.version.ensures
    ∙ ap with_version (ap app_of_fields c.about.ensures ∙ c.new.ensures.app) in
    IfOk-weaker c.args-2.result _ _ (λ command adds.
    rules_in_turn c.in_ok-bin_name.field-0 c.in_ok-arguments.arguments.items command adds c.in_ok-arguments.ensures.local
    ∙ ap₂ with_rules named c.in_ok-arguments.ensures.rules) c.args-2.ensures
