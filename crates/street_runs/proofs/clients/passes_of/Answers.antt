use Rattle.std.proofs.Common.{◌≡◌, ◌+◌, ◌++◌, ◌∷◌, [], ap, arith, length, refl, rules, vec_len}
use Rattle.street_runs.proofs.Told.{first_is, last_is, less_last, places_more}
use Rattle.street_runs.proofs.clients.passes_of.Goals as goal

pub loop-pass-preserved : goal.loop-pass-preserved
loop-pass-preserved c =
    let kept = c.loop-pass.invariant in
    let split = c.in-Ok.ensures.ok in
    let items : c.push.new.self.items ≡ c.loop-pass.passes.items ++ c.in-Ok.last ∷ [] = search rules in
    let at : c.loop-pass.pass.greatest + length c.loop-pass.passes.items + 1 ≡ c.args.sessions = omega arith in
    let count : vec_len c.push.new.self ≡ vec_len c.loop-pass.passes + 1 = search rules in
    record {
      pass = less_last c.args.desk.now c.loop-pass.pass c.split.new.pass kept.pass split.1;
      left = omega (arith, ap (λ p. p.greatest) split.1, split.0, kept.left);
      all = places_more c.args.desk.now c.args.sessions c.loop-pass.passes.items c.push.new.self.items c.in-Ok.last c.loop-pass.pass.greatest items at kept.all
          (last_is c.args.desk.now c.loop-pass.pass c.in-Ok.last c.loop-pass.pass.greatest kept.pass split.2 refl);
    }

pub returns-clause-places : goal.returns-clause-places
returns-clause-places c =
    let kept = c.loop-pass.invariant in
    let items : c.push-2.new.self.items ≡ c.loop-pass.passes.items ++ c.loop-pass.pass ∷ [] = search rules in
    let at : 0 + length c.loop-pass.passes.items + 1 ≡ c.args.sessions = omega arith in
    let none : c.loop-pass.pass.greatest ≡ 0 = omega arith in
    places_more c.args.desk.now c.args.sessions c.loop-pass.passes.items c.push-2.new.self.items c.loop-pass.pass 0 items at kept.all (first_is c.args.desk.now c.loop-pass.pass kept.pass none)
