use Rattle.std.proofs.Common.{◌≡◌, ◌∙◌, [], ◌∷◌, length, drop, ap, rules}
use Rattle.street_clients.proofs.Pairs.{both_taken, taken_ran, taken_stay}
use Rattle.street_clients.proofs.scripts.run_two.Goals as goal

pub returns : goal.returns
returns g c =
    let new = c.run_scripts.new.scripts in
    let made = c.in_ok-scripts.scripts in
    let was : c.deref_mut.result.now ≡ c.args.one ∷ c.args.two ∷ [] = search rules in
    let two : length new ≡ 2 = c.run_scripts.ensures.same ∙ ap length was in
    let is = both_taken new c.pop-two.new.self.items c.pop-one.new.self.items (drop (length new) made.items) made.len c.pop-one.result c.pop-two.result c.zip.result two (search rules) c.pop-two.ensures.items c.pop-one.ensures.items c.zip.ensures in
    record {
      run = taken_ran c.deref_mut.result.now new c.args.one c.args.two was c.zip.result is c.run_scripts.ensures.each;
      desk = taken_stay c.deref_mut.result.now new c.args.one c.args.two was c.zip.result is c.run_scripts.ensures.desks;
    }
