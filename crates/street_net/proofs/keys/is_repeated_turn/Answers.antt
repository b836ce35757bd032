use Rattle.std.proofs.Common.{◌∙◌, ap, take, refl}
use Rattle.street_base.specs.Prelude.{is_same_turn}
use Rattle.std.specs.List.{list_any}
use Rattle.street_net.specs.Prelude.{turn_key}
use Rattle.street_net.proofs.KeyLemmas.{list_any-keys, is_same_key}
use Rattle.street_net.proofs.keys.is_repeated_turn.Goals as goal

pub returns : goal.returns
returns c =
    let before = take c.args.at c.args.spec.now.turns in
    c.contains.ensures
    ∙ ap (λ key. list_any (is_same_key key) c.args.seen.now.keys) c.turn_key.ensures
    ∙ ap (list_any (is_same_key (turn_key c.args.turn.now))) c.requires
    ∙ list_any-keys turn_key (is_same_key (turn_key c.args.turn.now)) (is_same_turn c.args.turn.now) (λ _. refl) before
