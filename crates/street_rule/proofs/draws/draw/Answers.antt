use Rattle.std.proofs.Common.{◌∙◌, arith}
use Rattle.street_rule.proofs.DrawLemmas.{draw-read, placed}
use Rattle.street_rule.proofs.draws.draw.Goals as goal

pub returns : goal.returns
returns c =
    c.scaled.ensures
    ∙ draw-read _ _ _ _ _ _ c.next_word.ensures
    (placed c.generator-rng.result c.set_word_pos.new.self c.set_stream.new.self _ _ c.args.place _ _ c.set_word_pos.ensures c.set_stream.ensures c.generator-rng.ensures c.from-2.ensures (omega arith))
    (omega arith)
