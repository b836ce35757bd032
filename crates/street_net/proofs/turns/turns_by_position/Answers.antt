use Rattle.std.proofs.Common.{◌≡◌, ◌<◌, ◌++◌, ◌∷◌, [], length, get_or, take, map, sym, ◌∙◌, ap, List}
use Rattle.std.proofs.lemmas.List.{take_more, map-append}
use Rattle.street_base.specs.declared.net.TurnSpec.{TurnSpec}
use Rattle.street_base.specs.declared.net.Turn.{Turn}
use Rattle.street_base.specs.Prelude.{joins}
use Rattle.street_net.specs.Prelude.{seen_turn}
use Rattle.street_net.proofs.GoodLinks.{good-turn}
use Rattle.street_net.proofs.TurnTable.{no_turn}
use Rattle.street_net.proofs.turns.turns_by_position.Goals as goal

pub by_position-requires-clause-joins : goal.by_position-requires-clause-joins
by_position-requires-clause-joins c =
    let within : c.loop-turn.turn-index < length c.args.spec.now.turns = rw (← c.as_slice-listed.ensures) c.loop-turn-test.true in
    ap (λ ts. joins c.args.spec.now (get_or ts c.loop-turn.turn-index no_turn)) c.as_slice-listed.ensures
    ∙ (good-turn c.args.spec.now c.requires.faultless c.loop-turn.turn-index no_turn within).0

pub loop-turn-preserved : goal.loop-turn-preserved
loop-turn-preserved c =
    let net = c.args.spec.now in
    let i = c.loop-turn.turn-index in
    let within : i < length net.turns = rw (← c.as_slice-listed.ensures) c.loop-turn-test.true in
    let t : TurnSpec = get_or net.turns i no_turn in
    let seen : c.by_position.result ≡ seen_turn net t = c.by_position.ensures ∙ ap (λ (ts : List TurnSpec). seen_turn net (get_or ts i no_turn)) c.as_slice-listed.ensures in
    c.in_ok-push.ensures.items
    ∙ ap (λ (us : List Turn). us ++ c.by_position.result ∷ []) c.loop-turn.invariant
    ∙ ap (λ (u : Turn). map (seen_turn net) (take i net.turns) ++ u ∷ []) seen
    ∙ sym (map-append (seen_turn net) (take i net.turns) (t ∷ []))
    ∙ ap (map (seen_turn net)) (sym (take_more net.turns i no_turn within))
