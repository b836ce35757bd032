use Rattle.std.proofs.Common.{◌≡◌, ◌++◌, drop}
use Rattle.serde_json.specs.Data.{array}
use Rattle.street_text.specs.Tokens.{tokens_of}
use Rattle.street_text.specs.ReplyLines.{items_from}
use Rattle.street_text.proofs.Tokens.{rest_of_list}
use Rattle.street_text.proofs.rows.write_list.Given as goal

abbrev pub invariant-loop-entry : goal.invariant-loop-entry
invariant-loop-entry g l = record {
  before : l.out.before ≡ l.fn.out.before;
  tokens : l.out.tokens ++ rest_of_list g.T.Row.shows (drop l.entry-index l.list) ≡ l.fn.out.tokens ++ tokens_of (array (items_from g.T.Row.shows l.list));
}
