-- What a line says, by cases on its JSON value.
-- A number is written with digits alone; unknown fields are ignored.
use Rattle.std.specs.Prelude.{◌≡◌, ℕ, ◌==◌, List, [], ◌∷◌, length, nat_lt, if◌then◌else◌, Bool, true, false, Option, Some, None, option_map, option_and_then, Result, Ok, Err, codes, bytes_eq}
use Rattle.std.specs.Str.{is_utf8}
use Rattle.serde_json.specs.Data.{Data, Items, no_items, item}
use Rattle.serde_json.specs.Read.{read}
use Rattle.serde_json.specs.Find.{get, as_number, as_u64, as_str, as_array}
use Rattle.serde_json.specs.View.{view}
use Rattle.serde_json.specs.declared.value.Value.{Value}
use Rattle.street_base.specs.declared.command.Command.{Command}
use Rattle.street_base.specs.declared.command.Command.TheVariants.{Load, Enter, Signal, Advance, CloseLane, ReopenLane, TakeOut, PlaceMeter, ReadMeter, Vehicle, Lane, Count}
use Rattle.street_base.specs.declared.command.GreenSpec.{GreenSpec}
use Rattle.street_base.specs.declared.command.PhaseSpec.{PhaseSpec}
use Rattle.street_base.specs.declared.net.NodeSpec.{NodeSpec}
use Rattle.street_base.specs.declared.net.LinkSpec.{LinkSpec}
use Rattle.street_base.specs.declared.net.TurnSpec.{TurnSpec}
use Rattle.street_text.specs.declared.line_commands.NetNumbers.{NetNumbers}
use Rattle.street_text.specs.declared.fault.LineFault.{LineFault}
use Rattle.street_text.specs.declared.fault.LineFault.TheVariants.{LineTooLong, NotJson, BadCommand, Starved}

-- ---- entries

-- the number that a JSON value is; none unless it is written with digits alone and is below 2^64
abbrev pub number_in : Data → Option ℕ
number_in d = option_and_then as_u64 (as_number d)

-- what `entry` reads from each item of a JSON list, in order; none where one of them cannot be read; no items give an
-- empty list
abbrev pub entries_of : {T : Type 0} → (Data → Option T) → Items → Option (List T)
entries_of entry no_items = Some []
entries_of entry (item d ds) = option_and_then (λ x. option_map (λ xs. x ∷ xs) (entries_of entry ds)) (entry d)

-- the list of what `entry` reads from each item of a JSON value; none where the value is no list or an item cannot be
-- read
abbrev pub list_in : {T : Type 0} → (Data → Option T) → Data → Option (List T)
list_in entry d = option_and_then (entries_of entry) (as_array d)

-- the numbers of a JSON list of exactly n numbers, each in digits alone and below 2^64; none where the value is
-- anything else
unfoldable pub row_in : ℕ → Data → Option (List ℕ)
row_in n d = option_and_then (λ ns. if length ns == n then Some ns else None) (list_in number_in d)

-- the node of three numbers: identifier, residence, capacity; none of more or fewer numbers
abbrev pub node_from : List ℕ → Option NodeSpec
node_from (a ∷ b ∷ c ∷ []) = Some (record { id = a; residence = b; capacity = c })
node_from _ = None

-- the node that a JSON list of three numbers is; none where the value is anything else
unfoldable pub node_in : Data → Option NodeSpec
node_in d = option_and_then node_from (row_in 3 d)

-- the link of six numbers: identifier, from, to, lanes, length, limit; none of more or fewer numbers
abbrev pub link_from : List ℕ → Option LinkSpec
link_from (a ∷ b ∷ c ∷ d ∷ e ∷ f ∷ []) = Some (record { id = a; from = b; to = c; lanes = d; length = e; limit = f })
link_from _ = None

-- the link that a JSON list of six numbers is; none where the value is anything else
unfoldable pub link_in : Data → Option LinkSpec
link_in d = option_and_then link_from (row_in 6 d)

-- the turn of four numbers: link, lane, next link, next lane; none of more or fewer numbers
abbrev pub turn_from : List ℕ → Option TurnSpec
turn_from (a ∷ b ∷ c ∷ d ∷ []) = Some (record { link = a; lane = b; next = c; next_lane = d })
turn_from _ = None

-- the turn that a JSON list of four numbers is; none where the value is anything else
unfoldable pub turn_in : Data → Option TurnSpec
turn_in d = option_and_then turn_from (row_in 4 d)

-- the green turn of three numbers: link, lane, next link; none of more or fewer numbers
abbrev pub green_from : List ℕ → Option GreenSpec
green_from (a ∷ b ∷ c ∷ []) = Some (record { link = a; lane = b; next = c })
green_from _ = None

-- the green turn that a JSON list of three numbers is; none where the value is anything else
unfoldable pub green_in : Data → Option GreenSpec
green_in d = option_and_then green_from (row_in 3 d)

-- the phase of two items: a duration and a list of green turns; none of more or fewer items, or where one cannot be
-- read
abbrev pub phase_from : Items → Option PhaseSpec
phase_from (item d (item g no_items)) =
    option_and_then (λ duration. option_map (λ greens. record { duration = duration; greens = greens }) (list_in green_in g)) (number_in d)
phase_from _ = None

-- the phase that a JSON list of a duration and a list of green turns is; none where the value is anything else
unfoldable pub phase_in : Data → Option PhaseSpec
phase_in d = option_and_then phase_from (as_array d)

-- ---- fields

-- what `entry` reads from the value under a key of a JSON object; none where the key is missing or the value cannot be
-- read
abbrev pub field : {T : Type 0} → (Data → Option T) → List ℕ → Data → Option T
field entry key d = option_and_then entry (get key d)

-- the number under a key of a JSON object; none where the key is missing or its value is no number in digits below 2^64
abbrev pub number_field : List ℕ → Data → Option ℕ
number_field key d = field number_in key d

-- the number of a JSON value that was found, none where it is no such number; the number `absent` where no value was
-- found
abbrev pub or_if_none : ℕ → Option Data → Option ℕ
or_if_none absent None = Some absent
or_if_none absent (Some d) = number_in d

-- the number under a key of a JSON object, none where its value is no such number; the number `absent` where the key is
-- missing
abbrev pub number_or : ℕ → List ℕ → Data → Option ℕ
number_or absent key d = or_if_none absent (get key d)

-- ---- commands

infixl 60 ◌with◌
-- a command that lacks fields, with the next field filled in; none where that field, or one before it, is missing or
-- could not be read
abbrev pub ◌with◌ : {A B : Type 0} → Option (A → B) → Option A → Option B
None with x = None
(Some f) with x = option_map f x

-- the five single numbers of a `load`: zone, dawdle, change, seed, and start, which is 0 where the key is missing; none
-- where another is missing or one is no number
unfoldable pub numbers_in : Data → Option NetNumbers
numbers_in d =
    Some (λ zone dawdle change seed start. record { zone = zone; dawdle = dawdle; change = change; seed = seed; start = start })
    with number_field (codes "zone") d
    with number_field (codes "dawdle") d
    with number_field (codes "change") d
    with number_field (codes "seed") d
    with number_or 0 (codes "start") d

-- the `load` that a JSON object says by its fields: nodes, links, turns, and five numbers of which only `start` may be
-- missing (0); none where another is missing or one cannot be read
unfoldable pub load_in : Data → Option Command
load_in d =
    Some (λ nodes links turns numbers. Load (record {
      nodes = nodes;
      links = links;
      turns = turns;
      zone = numbers.zone;
      dawdle = numbers.dawdle;
      change = numbers.change;
      seed = numbers.seed;
      start = numbers.start;
    }))
    with field (list_in node_in) (codes "nodes") d
    with field (list_in link_in) (codes "links") d
    with field (list_in turn_in) (codes "turns") d
    with numbers_in d

-- the size that the object of an `enter` says: 1 where the key is missing, none where its value is no number; where
-- sizes are not read (false) always 1
abbrev pub size_in : Bool → Data → Option ℕ
size_in true d = number_or 1 (codes "size") d
size_in false d = Some 1

-- the `enter` that a JSON object says by its fields: plan, lane, depart, and its size, which is 1 if it is missing or
-- sizes are not read (`sized` false); none where another is missing or one cannot be read
unfoldable pub enter_in : Bool → Data → Option Command
enter_in sized d =
    Some (λ plan lane depart size. Enter plan lane depart size)
    with field (list_in number_in) (codes "plan") d
    with number_field (codes "lane") d
    with number_field (codes "depart") d
    with size_in sized d

-- the `signal` that a JSON object says by its fields: node, offset and phases; none where one is missing or cannot be
-- read
unfoldable pub signal_in : Data → Option Command
signal_in d =
    Some (λ node offset phases. Signal node offset phases)
    with number_field (codes "node") d
    with number_field (codes "offset") d
    with field (list_in phase_in) (codes "phases") d

-- the `advance` that a JSON object says by its field `steps`; none where that is missing or cannot be read
unfoldable pub advance_in : Data → Option Command
advance_in d = Some Advance with number_field (codes "steps") d

-- the `close` that a JSON object says by its fields: link, lane, first and last cell; none where one is missing or
-- cannot be read
unfoldable pub close_in : Data → Option Command
close_in d =
    Some (λ link lane first last. CloseLane link lane first last)
    with number_field (codes "link") d
    with number_field (codes "lane") d
    with number_field (codes "first") d
    with number_field (codes "last") d

-- the `reopen` that a JSON object says by its fields: link, lane, first and last cell; none where one is missing or
-- cannot be read
unfoldable pub reopen_in : Data → Option Command
reopen_in d =
    Some (λ link lane first last. ReopenLane link lane first last)
    with number_field (codes "link") d
    with number_field (codes "lane") d
    with number_field (codes "first") d
    with number_field (codes "last") d

-- the `takeout` that a JSON object says by its field `car`; none where that is missing or cannot be read
unfoldable pub take_out_in : Data → Option Command
take_out_in d = Some TakeOut with number_field (codes "car") d

-- the `meter`, which places a detector, that a JSON object says by its fields: link, lane, cell and period; none where
-- one is missing or cannot be read
unfoldable pub place_meter_in : Data → Option Command
place_meter_in d =
    Some (λ link lane cell period. PlaceMeter link lane cell period)
    with number_field (codes "link") d
    with number_field (codes "lane") d
    with number_field (codes "cell") d
    with number_field (codes "period") d

-- the `read` of a detector's rows that a JSON object says by its field `meter`; none where that is missing or cannot be
-- read
unfoldable pub read_meter_in : Data → Option Command
read_meter_in d = Some ReadMeter with number_field (codes "meter") d

-- the `vehicle`, which asks where one is, that a JSON object says by its field `car`; none where that is missing or
-- cannot be read
unfoldable pub vehicle_in : Data → Option Command
vehicle_in d = Some Vehicle with number_field (codes "car") d

-- the `lane`, which asks what is on one, that a JSON object says by its fields link and lane; none where one is missing
-- or cannot be read
unfoldable pub lane_in : Data → Option Command
lane_in d =
    Some (λ link lane. Lane link lane)
    with number_field (codes "link") d
    with number_field (codes "lane") d

-- the names of the commands that place detectors or ask (meter, read, vehicle, lane, count), each with the function
-- that reads the command from its object
abbrev pub observing_names : List (List ℕ × (Data → Option Command))
observing_names =
    (codes "meter", place_meter_in) ∷ (codes "read", read_meter_in) ∷ (codes "vehicle", vehicle_in) ∷ (codes "lane", lane_in)
    ∷ (codes "count", λ d. Some Count) ∷ []

-- the names of the commands whose fields are numbers and lists of numbers (all but load and signal), each with the
-- function that reads the command from its object; the size of an `enter` is read only if `sized`
abbrev pub number_names : Bool → List (List ℕ × (Data → Option Command))
number_names sized =
    (codes "enter", enter_in sized) ∷ (codes "advance", advance_in) ∷ (codes "close", close_in) ∷ (codes "reopen", reopen_in)
    ∷ (codes "takeout", take_out_in) ∷ observing_names

-- the names of all commands, each with the function that reads the command from its object; the size of an `enter` is
-- read only if `sized`
abbrev pub names : Bool → List (List ℕ × (Data → Option Command))
names sized = (codes "load", load_in) ∷ (codes "signal", signal_in) ∷ number_names sized

-- the command that an object says by the first entry of a table with this name; none where no entry has the name, or
-- that entry cannot read the object
abbrev pub named_in : List (List ℕ × (Data → Option Command)) → List ℕ → Data → Option Command
named_in [] name d = None
named_in ((key, reads) ∷ rest) name d = if bytes_eq name key then reads d else named_in rest name d

-- the command of this name that an object says; none where no command has the name, or a field is missing or bad; the
-- size of an `enter` is read only if `sized`
unfoldable pub named : Bool → List ℕ → Data → Option Command
named sized name d = named_in (names sized) name d

-- the command that a JSON object says by its name under `cmd` and its other keys; none where name or fields are missing
-- or bad; the size of an `enter` is read only if `sized`
unfoldable pub command_in : Bool → Data → Option Command
command_in sized d = option_and_then (λ name. named sized name d) (field as_str (codes "cmd") d)

-- ---- lines

-- the most bytes that a line may have, its LF not counted
abbrev pub longest_line : ℕ
longest_line = 1048576

-- what was found, or this fault where nothing was found
abbrev pub or_fault : {A : Type 0} → LineFault → Option A → Result A LineFault
or_fault fault (Some x) = Ok x
or_fault fault None = Err fault

-- the JSON value of a line; none where it is no UTF-8 or no JSON, is nested more than 127 levels deep, or has a number
-- too great for a float of 64 bits
unfoldable pub value_of : List ℕ → Option Data
value_of line = if is_utf8 line then read line else None

-- the command that a line's JSON value says; the fault NotJson where there is no value, BadCommand where it says no
-- command
abbrev pub command_or_fault : Option Data → Result Command LineFault
command_or_fault None = Err NotJson
command_or_fault (Some d) = or_fault BadCommand (command_in true d)

-- what a line says: a command, or its fault: of more bytes than `longest_line`, no JSON, or no command, tested in this
-- order
unfoldable pub reading : List ℕ → Result Command LineFault
reading line = if nat_lt longest_line (length line) then Err LineTooLong else command_or_fault (value_of line)

-- ---- what a function answers that may want memory

-- that the fault that was answered is the fault that was wanted; or that it is lack of memory, whatever was wanted
abbrev pub Fails : {Y : Type 0} → LineFault → Result Y LineFault → Type 0
Fails Starved wanted = Unit {0}
Fails LineTooLong wanted = wanted ≡ Err LineTooLong
Fails NotJson wanted = wanted ≡ Err NotJson
Fails BadCommand wanted = wanted ≡ Err BadCommand

-- that what was answered, a result or a fault, is what was wanted; or that lack of memory was answered, whatever was
-- wanted
abbrev pub Gives : {Y : Type 0} → Result Y LineFault → Result Y LineFault → Type 0
Gives (Ok x) wanted = wanted ≡ Ok x
Gives (Err e) wanted = Fails e wanted

-- that a fault is right for a line whose JSON value is `wanted`: it is NotJson and there is no value, or it is lack of
-- memory, whatever the value; no other fault is right
abbrev pub FailsValue : LineFault → Option Data → Type 0
FailsValue Starved wanted = Unit {0}
FailsValue LineTooLong wanted = ⊥
FailsValue NotJson wanted = wanted ≡ None
FailsValue BadCommand wanted = ⊥

-- that the JSON value that was answered is the one wanted; or that the fault answered is NotJson and none is there, or
-- lack of memory, whatever was wanted
abbrev pub GivesValue : Result Value LineFault → Option Data → Type 0
GivesValue (Ok v) wanted = wanted ≡ Some (view v)
GivesValue (Err e) wanted = FailsValue e wanted
