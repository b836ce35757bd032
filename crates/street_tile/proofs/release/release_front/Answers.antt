use Rattle.std.proofs.Common.{◌≡◌, ℕ, true, false, get_or, refl, sym, ap, ◌∙◌}
use Rattle.std.proofs.lemmas.Bool.{both_ways}
use Rattle.street_net.specs.Prelude.{mouth}
use Rattle.street_tile.proofs.release.release_front.Goals as goal

pub returns-in_default-clause-front : goal.returns-in_default-clause-front
returns-in_default-clause-front c =
    let is_open : mouth c.args.mouths.now c.args.to ≡ true = ap (λ (n : ℕ). get_or c.args.mouths.now n false) (sym c.slot-at.ensures) ∙ c.if-not-mouths-at.false in
    record {
      shut = λ shut. absurd (both_ways (mouth c.args.mouths.now c.args.to) shut is_open);
      goes = λ free. c.take_front.ensures.goes;
      mouths = λ free q h. (let none : false ≡ true = rw c.in_default.is at (c.take_front.ensures.some q h) in absurd (both_ways false refl none));
      handed = λ free q h next. (let none : false ≡ true = rw c.in_default.is at (c.take_front.ensures.some q h) in absurd (both_ways false refl none));
      room = c.take_front.ensures.room;
    }
