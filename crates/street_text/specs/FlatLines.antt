-- What a line of numbers, texts and lists of numbers says, as JSON.
use Rattle.std.specs.Prelude.{◌≡◌, ℕ, suc, List, [], ◌∷◌, length, Some}
use Rattle.json.specs.Json.{value, items, members}
use Rattle.json.specs.Token.{Token}
use Rattle.serde_json.specs.Data.{Data, string, array, object, Items, Members, no_members, put}
use Rattle.serde_json.specs.Read.{of_items, of_members, converted}
use Rattle.street_text.specs.ReplyLines.{number_data, numbers}
use Rattle.street_text.specs.declared.flat.FlatLine.{FlatLine}
use Rattle.street_text.specs.declared.flat.FlatMember.{FlatMember}
use Rattle.street_text.specs.declared.flat.FlatValue.{FlatValue}
use Rattle.street_text.specs.declared.flat.FlatValue.TheVariants.{Number, Text, Numbers}

-- the JSON value of a flat line's member: a number, a text, or a list of numbers
abbrev pub flat_data : FlatValue → Data
flat_data (Number n) = number_data n
flat_data (Text text) = string text.now
flat_data (Numbers list) = array (numbers list.items)

-- an object's members after these of a flat line were put under their names, in byte order, one after another; of two
-- with one name the later stays
abbrev pub put_flat : List FlatMember → Members → Members
put_flat [] found = found
put_flat (m ∷ ms) found = put_flat ms (put m.name.now (flat_data m.value) found)

-- the members of the JSON object that a flat line with these members says; of two with one name the later stays
abbrev pub flat_members : List FlatMember → Members
flat_members ms = put_flat ms no_members

-- the JSON object that a flat line says: its members, of two with one name the later
abbrev pub flat_object : FlatLine → Data
flat_object line = object (flat_members line.members.items)

-- that the tokens `ts`, behind an opening bracket that was read already, are exactly these items, the closing bracket,
-- and then `rest`; no item is a list or an object
abbrev pub ReadsItems : List Token → Items → List Token → Type 0
ReadsItems ts found rest = (depth : ℕ) → converted of_items (items (value depth) (length ts) ts) ≡ Some (found, rest)

-- that the tokens `ts`, behind an opening brace that was read already, are members that come to `found` (of two with
-- one key the later), the closing brace, and then `rest`; no value is nested deeper than a list or object of plain
-- values
abbrev pub ReadsMembers : List Token → Members → List Token → Type 0
ReadsMembers ts found rest = (depth : ℕ) → converted (λ ms. of_members ms no_members) (members (value (suc depth)) (length ts) ts) ≡ Some (found, rest)
