use Rattle.std.proofs.Common.{◌≡◌, ◌++◌, drop}
use Rattle.serde_json.specs.Data.{object}
use Rattle.street_text.specs.Tokens.{tokens_of, members_of}
use Rattle.street_text.proofs.Tokens.{rest_of_object}
use Rattle.street_text.proofs.fields.write_object.Given as goal

abbrev pub invariant-loop-key : goal.invariant-loop-key
invariant-loop-key l = record {
  before : l.out.before ≡ l.fn.out.before;
  tokens : l.out.tokens ++ rest_of_object (drop l.key-index l.fields) ≡ l.fn.out.tokens ++ tokens_of (object (members_of l.fields));
}
