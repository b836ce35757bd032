use Rattle.std.proofs.Common.{◌≡◌, ◌∙◌, ◌++◌, ◌∷◌, [], List, All, ap, rules, subst, sym}
use Rattle.std.proofs.lemmas.List.Elements.{All-pop}
use Rattle.street_desk.specs.History.{BeginsWith}
use Rattle.street_line.specs.declared.script.Script.{Script}
use Rattle.street_runs.proofs.Told.{begins_through, heard_more}
use Rattle.street_runs.proofs.clients.hear_all.Goals as goal

pub loop-script-preserved : goal.loop-script-preserved
loop-script-preserved g c =
    let kept = c.loop-script.invariant in
    let heard = c.hear_of.ensures in
    let items : c.loop-script.scripts.items ≡ c.pop.new.self.items ++ c.in-Some.script ∷ [] = search rules in
    let hears : BeginsWith c.hear_of.new.pass.seen c.in-Some.script.session.seen = rw (← c.pass_of.ensures) heard.told in
    record {
      same = (heard.same.0 ∙ kept.same.0, heard.same.1 ∙ kept.same.1, heard.same.2 ∙ kept.same.2);
      kept = begins_through _ _ _ heard.kept kept.kept;
      desks = (All-pop (λ s. s.session.desk ≡ c.args.desk.now) c.loop-script.scripts.items c.pop.new.self.items c.pop.result c.pop.ensures.items kept.desks).0;
      told = heard_more c.args.scripts.items c.loop-script.scripts.items c.pop.new.self.items kept.told.0 c.in-Some.script c.loop-script.pass.seen c.hear_of.new.pass.seen
          kept.told.1 items kept.told.2 heard.kept hears;
    }

pub returns-clause-told : goal.returns-clause-told
returns-clause-told g c =
    let kept = c.loop-script.invariant in
    let none : c.loop-script.scripts.items ≡ [] = search rules in
    let all : c.args.scripts.items ≡ kept.told.0 = kept.told.1 ∙ ap (λ (l : List (Script g.row.R.Denot)). l ++ kept.told.0) none in
    subst (λ (l : List (Script g.row.R.Denot)). All (λ s. BeginsWith c.loop-script.pass.seen s.session.seen) l) (sym all) kept.told.2
