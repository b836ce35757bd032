use Rattle.std.proofs.Common.{◌≡◌, ◌∙◌, [], ◌∷◌, ◌++◌, List, arith, append_assoc, ap, drop}
use Rattle.std.proofs.Math.ListN.{drop_of_length-le}
use Rattle.std.proofs.lemmas.Result.{on_ok_weaker}
use Rattle.json.specs.Token.{Token, begin_object}
use Rattle.street_text.proofs.Tokens.{one_more_field, rest_of_object}
use Rattle.street_text.proofs.fields.write_object.Goals as goal

pub loop-key-init : goal.loop-key-init
loop-key-init c =
    let rest : List Token = rest_of_object c.args.fields.now in
    record {
      before = c.begin_object.ensures.room.0;
      tokens = ap (λ ts. ts ++ rest) c.in_ok-begin_object.ensures.ok ∙ append_assoc c.args.out.now.tokens (begin_object ∷ []) rest;
    }

pub loop-key-preserved : goal.loop-key-preserved
loop-key-preserved c =
    let more = c.in_ok-write_field.ensures in
    record {
      before = more.0 ∙ c.loop-key.invariant.before;
      tokens = one_more_field _ _ _ c.args.fields.now c.loop-key.key-index _ c.loop-key-test.true more.1 c.loop-key.invariant.tokens;
    }

pub returns : goal.returns
returns c =
    let over : drop c.loop-key.key-index c.args.fields.now ≡ [] = drop_of_length-le c.args.fields.now (omega arith) in
    let whole = rw over at c.loop-key.invariant.tokens in
    on_ok_weaker c.end_object.result (λ ended. (c.end_object.ensures.room.0 ∙ c.loop-key.invariant.before, ended ∙ whole)) c.end_object.ensures.ok
