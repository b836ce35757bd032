use Rattle.std.proofs.Common.{◌≡◌, ◌∙◌, ◌+◌, ◌++◌, ◌∷◌, [], ap, arith, length, rules, vec_len}
use Rattle.street_runs.specs.Scripts.{IsOpened}
use Rattle.street_runs.proofs.Told.{opened_more, places_less}
use Rattle.street_runs.proofs.clients.open_scripts.Goals as goal

pub new-session-requires-after_bounds : goal.new-session-requires-after_bounds
new-session-requires-after_bounds g c κs within =
    let kept = c.loop-pass.invariant in
    let items : c.loop-pass.passes.items ≡ c.pop.new.self.items ++ c.in-Some.pass ∷ [] = search rules in
    let at : vec_len c.loop-pass.scripts + length c.pop.new.self.items + 1 ≡ length c.args.names.now = omega (arith, c.in-Some.ensures.cases) in
    let less = places_less c.args.desk.now (length c.args.names.now) c.pop.new.self.items c.loop-pass.passes.items c.in-Some.pass (vec_len c.loop-pass.scripts) items at kept.passes in
    ap (λ p. p.desk) less.1

pub loop-pass-preserved : goal.loop-pass-preserved
loop-pass-preserved g c =
    let kept = c.loop-pass.invariant in
    let items : c.loop-pass.passes.items ≡ c.pop.new.self.items ++ c.in-Some.pass ∷ [] = search rules in
    let at : length c.loop-pass.scripts.items + length c.pop.new.self.items + 1 ≡ length c.args.names.now = omega (arith, c.in-Some.ensures.cases) in
    let less = places_less c.args.desk.now (length c.args.names.now) c.pop.new.self.items c.loop-pass.passes.items c.in-Some.pass (length c.loop-pass.scripts.items) items at kept.passes in
    let pushed : c.push.new.self.items ≡ c.loop-pass.scripts.items ++ c.open-script.result ∷ [] = search rules in
    let opened : IsOpened c.args.desk.now (length c.loop-pass.scripts.items) c.open-script.result = record {
      session = c.open-script.ensures.session ∙ c.new-session.ensures ∙ less.1;
      replies = c.open-script.ensures.replies;
      fault = c.open-script.ensures.fault;
    } in
    let count : vec_len c.push.new.self ≡ vec_len c.loop-pass.scripts + 1 = search rules in
    record {
      each = omega (arith, c.in-Some.ensures.cases);
      passes = less.0;
      scripts = opened_more c.args.desk.now c.loop-pass.scripts.items c.push.new.self.items c.open-script.result pushed kept.scripts opened;
    }
