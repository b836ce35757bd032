use Rattle.std.proofs.Common.{◌≡◌, ◌+◌, ◌*◌, refl, ap, subst, arith}
use Rattle.rand_chacha.specs.ChaCha.{ChaCha}
use Rattle.street_rule.specs.Prelude.{Asked}
use Rattle.street_rule.proofs.DrawLemmas.{at_block, placed, joined-four, lane-asked, slow-asked}
use Rattle.street_rule.proofs.dice.drawn.Goals as goal

-- all 64 words, from the block's first on
block-asked : (c : goal.After-sixteen-fourth) → Asked 64 c.last_of-lane.result c.last_of-slow.result (at_block c.args.rng.now.key c.args.number c.args.block) c.sixteen-fourth.new.rng
    (c.sixteen-first.result + c.sixteen-second.result * 65536 + (c.sixteen-third.result + c.sixteen-fourth.result * 65536) * 4294967296)
block-asked c =
    let begun = at_block c.args.rng.now.key c.args.number c.args.block in
    let start : c.set_stream.new.self ≡ begun =
    placed c.args.rng.now c.set_word_pos.new.self c.set_stream.new.self _ _ (c.args.block * 64) _ _ c.set_word_pos.ensures c.set_stream.ensures refl c.from-2.ensures (omega arith) in
    let place : c.set_stream.new.self.word_pos ≡ c.args.block * 64 = ap (λ (s : ChaCha). s.word_pos) start in
    let bits = c.sixteen-first.result + c.sixteen-second.result * 65536 + (c.sixteen-third.result + c.sixteen-fourth.result * 65536) * 4294967296 in
    let lane = c.last_of-lane.result in
    let slow = c.last_of-slow.result in
    let asked = joined-four 16 lane slow c.set_stream.new.self _ _ _ _ _ _ _ _ (omega arith) (omega (arith, place)) c.sixteen-first.ensures.asked c.sixteen-second.ensures.asked c.sixteen-third.ensures.asked c.sixteen-fourth.ensures.asked in
    subst (λ s. Asked 64 lane slow s c.sixteen-fourth.new.rng bits) start (subst (Asked 64 lane slow c.set_stream.new.self c.sixteen-fourth.new.rng) (omega arith) asked)

pub returns-clause-kept : goal.returns-clause-kept
returns-clause-kept c = record {
  changes = λ some under i small. lane-asked _ _ _ _ _ _ _ i _ (block-asked c) some (c.last_of-lane.ensures some under) small;
  dawdles = λ some under i small. slow-asked _ _ _ _ _ _ _ i _ (block-asked c) some (c.last_of-slow.ensures some under) small;
}

pub returns-clause-key : goal.returns-clause-key
returns-clause-key c = ap (λ (s : ChaCha). s.key) (block-asked c).moved
