use Rattle.std.proofs.Common.{◌≡◌, [], ◌∷◌, List, ap, ◌∙◌, arith}
use Rattle.json.specs.Lex.{tokens}
use Rattle.json.specs.Token.{Token}
use Rattle.json.specs.Json.{value}
use Rattle.serde_json.specs.Data.{object}
use Rattle.serde_json.specs.Read.{of_json, converted}
use Rattle.street_text.specs.FlatLines.{flat_members}
use Rattle.street_text.proofs.Converted.{whole_read}
use Rattle.street_text.proofs.FlatReading.{object_read}
use Rattle.street_text.proofs.flat.read_text.Goals as goal

pub returns : goal.returns
returns c =
    let ts = c.next.new.self in
    let ms = flat_members c.in_ok-members.members.items in
    let first : tokens c.args.text.now ≡ Token.begin_object ∷ ts = grind arith in
    let over : c.read_members.new.reader ≡ [] = grind arith in
    let members = rw over at (c.in_ok-members.ensures 125) in
    whole_read (value 127 (tokens c.args.text.now)) (object ms) (ap (λ (xs : List Token). converted of_json (value 127 xs)) first ∙ object_read 126 ts [] ms members)
