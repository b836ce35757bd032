-- What is printed straight into bytes: values behind one another, and the fields of an object.
use Rattle.std.specs.Borrow.{Bor}
use Rattle.std.specs.Prelude.{◌≡◌, ℕ, List, [], ◌∷◌, ◌++◌, Bool, true, false, if◌then◌else◌, Some, None}
use Rattle.json.specs.Token.{Token}
use Rattle.json.specs.Token as token
use Rattle.json.specs.Tree.{json_tokens}
use Rattle.json.specs.Written.{Written}
use Rattle.serde_json.specs.Data.{Data, null, boolean, string, array, Members, no_members, member}
use Rattle.serde_json.specs.Written.{outline}
use Rattle.street_text.specs.declared.fields.Field.{Field}
use Rattle.street_text.specs.declared.fields.Field.TheVariants.{Number, Text, Flag, Numbers, Running, Rows, Buffer, Cells, Stretches, Waiting, Optional}
use Rattle.street_text.specs.ReplyLines.{items_from, number_data, numbers, meter_data, running_data, buffer_data, cell_data, stretch_data, waiting_data}

-- the JSON tokens by which a value is printed, in order
abbrev pub tokens_of : Data → List Token
tokens_of d = json_tokens (outline d)

-- that exactly these tokens were written behind those written before, and that `before` is the same
abbrev pub Adds : List Token → Written → Written → Type 0
Adds ts old new = (new.before ≡ old.before) × (new.tokens ≡ old.tokens ++ ts)

-- the JSON value of a reply's field: a number, a text, a truth value, a list of numbers, one running row, or a list of
-- rows or entries; null for an optional number that is missing
abbrev pub field_data : Field → Data
field_data (Number n) = number_data n
field_data (Text text) = string text.now
field_data (Flag b) = boolean b
field_data (Numbers list) = array (numbers list.now)
field_data (Running row) = running_data row.now
field_data (Rows list) = array (items_from meter_data list.now)
field_data (Buffer list) = array (items_from buffer_data list.now)
field_data (Cells list) = array (items_from cell_data list.now)
field_data (Stretches list) = array (items_from stretch_data list.now)
field_data (Waiting list) = array (items_from waiting_data list.now)
field_data (Optional (Some n)) = number_data n
field_data (Optional None) = null

-- whether a field of a reply is left out, key and all: an optional number that is missing
abbrev pub is_left_out : Field → Bool
is_left_out (Optional None) = true
is_left_out f = false

-- the members of an object with these fields, each under its key, in their order, but no optional numbers that are
-- missing
abbrev pub members_of : List (Bor (List ℕ) × Field) → Members
members_of [] = no_members
members_of ((key, f) ∷ rest) = if is_left_out f then members_of rest else member key.now (field_data f) (members_of rest)

-- the tokens of one field of an object: its key and its value; no tokens where it is an optional number that is missing
abbrev pub field_tokens : List ℕ → Field → List Token
field_tokens key f = if is_left_out f then [] else token.key key ∷ tokens_of (field_data f)
