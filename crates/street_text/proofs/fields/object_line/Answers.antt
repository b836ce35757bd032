use Rattle.std.proofs.Common.{◌≡◌, ◌∙◌, rules}
use Rattle.serde_json.specs.Data.{object}
use Rattle.serde_json.specs.Written.{compact_text}
use Rattle.street_text.specs.Tokens.{members_of}
use Rattle.street_text.proofs.Tokens.{text_of_value}
use Rattle.street_text.proofs.fields.object_line.Goals as goal

pub returns : goal.returns
returns c =
    let text : c.into_inner-text.result.items ≡ compact_text (object (members_of c.args.fields.now)) =
    c.into_inner-text.ensures.items
    ∙ text_of_value (object (members_of c.args.fields.now)) c.new-out.result c.write_object.new.out (c.new-out.ensures.before ∙ c.in_ok-with_capacity.ensures.items) c.new-out.ensures.tokens c.in_ok-write_object.ensures
    in
    search (rules, text)
