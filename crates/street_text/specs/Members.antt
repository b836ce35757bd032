-- The members of a command's object, each under its key.
use Rattle.std.specs.Borrow.{Bor}
use Rattle.std.specs.Prelude.{ℕ, List, [], ◌∷◌, Bool, true, false, if◌then◌else◌, Some, None}
use Rattle.serde_json.specs.Data.{Data, null, string, array, object, Members, no_members, put}
use Rattle.street_text.specs.declared.members.Member.{Member}
use Rattle.street_text.specs.declared.members.Member.TheVariants.{Number, Text, Numbers, Nodes, Links, Turns, Phases, Optional}
use Rattle.street_text.specs.ReplyLines.{items_from, number_data, numbers, node_data, link_data, turn_data, phase_data}

-- the JSON value of a command's member: a number, a text, or a list of numbers or entries; null for an optional number
-- that is missing
abbrev pub member_data : Member → Data
member_data (Number n) = number_data n
member_data (Text text) = string text.now
member_data (Numbers list) = array (numbers list.now)
member_data (Nodes list) = array (items_from node_data list.now)
member_data (Links list) = array (items_from link_data list.now)
member_data (Turns list) = array (items_from turn_data list.now)
member_data (Phases list) = array (items_from phase_data list.now)
member_data (Optional (Some n)) = number_data n
member_data (Optional None) = null

-- whether a member of a command is left out, key and all: an optional number that is missing
abbrev pub is_absent : Member → Bool
is_absent (Optional None) = true
is_absent m = false

-- an object's members after this one was put under its key, in byte order of keys and in place of one that was there;
-- as they were where this one is an optional number that is missing
abbrev pub put_member : List ℕ → Member → Members → Members
put_member key m found = if is_absent m then found else put key (member_data m) found

-- an object's members after these were put under their keys, one after another, without optional numbers that are
-- missing; of two with one key the later stays
abbrev pub put_all : List (Bor (List ℕ) × Member) → Members → Members
put_all [] found = found
put_all ((key, m) ∷ rest) found = put_all rest (put_member key.now m found)

-- the JSON object of a command with these members, in byte order of keys, without optional numbers that are missing; of
-- two with one key the later stays
abbrev pub object_of : List (Bor (List ℕ) × Member) → Data
object_of members = object (put_all members no_members)
