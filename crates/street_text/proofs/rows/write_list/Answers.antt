use Rattle.std.proofs.Common.{◌≡◌, ◌∙◌, [], ◌∷◌, ◌++◌, List, arith, append_assoc, ap, drop}
use Rattle.std.proofs.Math.ListN.{drop_of_length-le}
use Rattle.std.proofs.lemmas.Result.{on_ok_weaker}
use Rattle.json.specs.Token.{Token, begin_array}
use Rattle.street_text.proofs.Tokens.{one_more_row, rest_of_list}
use Rattle.street_text.proofs.rows.write_list.Goals as goal

pub loop-entry-init : goal.loop-entry-init
loop-entry-init g c =
    let rest : List Token = rest_of_list g.T.Row.shows c.args.list.now in
    record {
      before = c.begin_array.ensures.room.0;
      tokens = ap (λ ts. ts ++ rest) c.in_ok-begin_array.ensures.ok ∙ append_assoc c.args.out.now.tokens (begin_array ∷ []) rest;
    }

pub loop-entry-preserved : goal.loop-entry-preserved
loop-entry-preserved g c =
    let more = c.in_ok-write.ensures in
    record {
      before = more.0 ∙ c.loop-entry.invariant.before;
      tokens = one_more_row g.T.Row.shows _ _ _ c.args.list.now c.loop-entry.entry-index c.entry-item.result c.loop-entry-test.true (rw (← c.entry-item.is) more.1) c.loop-entry.invariant.tokens;
    }

pub returns : goal.returns
returns g c =
    let over : drop c.loop-entry.entry-index c.args.list.now ≡ [] = drop_of_length-le c.args.list.now (omega arith) in
    let whole = rw over at c.loop-entry.invariant.tokens in
    on_ok_weaker c.end_array.result (λ ended. (c.end_array.ensures.room.0 ∙ c.loop-entry.invariant.before, ended ∙ whole)) c.end_array.ensures.ok
