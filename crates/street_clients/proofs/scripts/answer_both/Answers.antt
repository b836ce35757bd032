use Rattle.std.proofs.Common.{◌≡◌, ◌∙◌, [], ap, refl, rules, subst}
use Rattle.street_desk.specs.Passes.{PassView}
use Rattle.street_clients.proofs.Told.{replied}
use Rattle.street_clients.specs.Told.{Replied}
use Rattle.street_clients.proofs.scripts.answer_both.Goals as goal

pub returns : goal.returns
returns g c =
    let run = c.in_ok-one.ensures.run in
    let one : c.open-one.result.session ≡ c.args.one.0 = search rules in
    let two : c.open-two.result.session ≡ c.args.two.0 = search rules in
    let stay = c.in_ok-one.ensures.desk c.args.desk.now (ap (λ p. p.desk) one ∙ c.requires.0) (ap (λ p. p.desk) two ∙ c.requires.1) in
    let first = replied c.open-one.result.file _ c.open-one.result c.in_ok-one.one c.client_of.result c.open-one.ensures.fault.0 run.0 refl c.client_of.ensures.pass c.client_of.ensures.replies in
    let second = replied c.open-two.result.file _ c.open-two.result c.in_ok-one.two c.client_of-2.result c.open-two.ensures.fault.0 run.1 refl c.client_of-2.ensures.pass c.client_of-2.ensures.replies in
    record {
      desk = (ap (λ p. p.desk) c.client_of.ensures.pass ∙ stay.0, ap (λ p. p.desk) c.client_of-2.ensures.pass ∙ stay.1);
      replied = (subst (λ (p : PassView). Replied p [] c.client_of.result) one first, subst (λ (p : PassView). Replied p [] c.client_of-2.result) two second);
    }
