use Rattle.std.proofs.Common.{◌≡◌, ◌<◌, ◌≤◌, true, false, take, length, get_or, ◌∙◌, sym, ap, refl, arith, ℕ, cond, ◌++◌, ◌∷◌, []}
use Rattle.std.specs.List.{list_any}
use Rattle.std.proofs.lemmas.Bool.{or_parts}
use Rattle.street_base.specs.declared.net.TurnSpec.{TurnSpec}
use Rattle.street_base.specs.declared.net.NetSpec.{NetSpec}
use Rattle.street_base.specs.declared.refusal.Part.TheVariants.{Turns}
use Rattle.street_base.specs.Prelude.{is_bad_turn, in_part, is_same_turn}
use Rattle.street_net.specs.Prelude.{turn_key}
use Rattle.street_net.proofs.KeyLemmas.{keys-more, is_same_key}
use Rattle.street_net.proofs.FirstBad.{NoneBad-more, first_bad-here, first_bad-none}
use Rattle.street_net.proofs.lists.read_turns.Goals as goal

-- past the end
abbrev none : TurnSpec
none = record { link = 0; lane = 0; next = 0; next_lane = 0 }

fresh : (net : NetSpec) (at : ℕ) (turn : TurnSpec) → is_bad_turn net at turn ≡ false → list_any (is_same_turn turn) (take at net.turns) ≡ false
fresh net at turn good = (or_parts _ _ good).1

pub returns-then-is_bad_turn-clause-fault : goal.returns-then-is_bad_turn-clause-fault
returns-then-is_bad_turn-clause-fault c =
    let turns = c.args.spec.now.turns in
    let within : c.loop-at.at < length turns = rw (← c.as_slice-turns.ensures) c.loop-at-test.true in
    let here : is_bad_turn c.args.spec.now c.loop-at.at (get_or turns c.loop-at.at none) ≡ true =
    ap (λ xs. is_bad_turn c.args.spec.now c.loop-at.at (get_or xs c.loop-at.at none)) (sym c.as_slice-turns.ensures) ∙ sym c.is_bad_turn.ensures ∙ c.if-is_bad_turn.true in
    ap (in_part Turns) (first_bad-here (is_bad_turn c.args.spec.now) turns c.loop-at.at none within c.loop-at.invariant.none_bad here)

pub loop-at-preserved : goal.loop-at-preserved
loop-at-preserved c =
    let turns = c.args.spec.now.turns in
    let turn : TurnSpec = get_or turns c.loop-at.at none in
    let within : c.loop-at.at < length turns = rw (← c.as_slice-turns.ensures) c.loop-at-test.true in
    let good : is_bad_turn c.args.spec.now c.loop-at.at turn ≡ false =
    ap (λ xs. is_bad_turn c.args.spec.now c.loop-at.at (get_or xs c.loop-at.at none)) (sym c.as_slice-turns.ensures) ∙ sym c.is_bad_turn.ensures ∙ c.if-is_bad_turn.false in
    record {
      keys = keys-more (turn_key) is_same_key (is_same_turn) (λ _ _. refl) turns c.loop-at.at none c.loop-at.seen.keys c.insert.new.self.keys within (fresh c.args.spec.now c.loop-at.at turn good) c.loop-at.invariant.keys
          (c.in_ok-insert.ensures.keys ∙ ap (λ key. cond (list_any (is_same_key key) c.loop-at.seen.keys) c.loop-at.seen.keys (c.loop-at.seen.keys ++ key ∷ [])) (c.turn_key.ensures ∙ ap (λ xs. turn_key (get_or xs c.loop-at.at none)) c.as_slice-turns.ensures));
      none_bad = NoneBad-more (is_bad_turn c.args.spec.now) turns c.loop-at.at none within c.loop-at.invariant.none_bad good;
    }

pub returns-clause-faultless : goal.returns-clause-faultless
returns-clause-faultless c =
    let turns = c.args.spec.now.turns in
    let all : length turns ≤ c.loop-at.at = rw (← c.as_slice-turns.ensures) c.loop-at-test.false in
    first_bad-none (is_bad_turn c.args.spec.now) turns (λ j d l. c.loop-at.invariant.none_bad j d (omega arith))
