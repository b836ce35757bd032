use Rattle.std.proofs.Common.{arith, subst}
use Rattle.street_desk.specs.History.{BeginsWith}
use Rattle.street_desk.specs.Passes.{PassView}
use Rattle.street_runs.proofs.Told.{all_first}
use Rattle.street_runs.proofs.clients.told_pass.Goals as goal

pub returns-clause-told : goal.returns-clause-told
returns-clause-told g c =
    let heard = c.hear_all.ensures in
    all_first (λ s. BeginsWith c.hear_all.new.pass.seen s.session.seen) c.args.scripts.items c.remove.new.self.items c.remove.result
    (omega arith) c.remove.ensures.value c.remove.ensures.by_index.2
    (subst (λ (p : PassView). BeginsWith c.hear_all.new.pass.seen p.seen) c.pass_of-pass.ensures heard.kept) heard.told
