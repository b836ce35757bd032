-- The text of a command.
-- All its fields are written but a size of 1, keys in byte order.
use Rattle.std.specs.Prelude.{ℕ, ◌==◌, List, Bool, false, not, if◌then◌else◌, codes}
use Rattle.serde_json.specs.Data.{Data, Members, object, no_members}
use Rattle.serde_json.specs.Written.{compact_text}
use Rattle.street_base.specs.declared.command.Command.{Command}
use Rattle.street_base.specs.declared.command.Command.TheVariants.{Load, Enter, Signal, Advance, CloseLane, ReopenLane, TakeOut, PlaceMeter, ReadMeter, Vehicle, Lane, Count}
use Rattle.street_base.specs.declared.net.NetSpec.{NetSpec}
use Rattle.street_text.specs.ReplyLines.{number_data, node_data, link_data, turn_data, phase_data, number_at, text_at, list_member}

-- ---- objects, their keys in byte order

-- the JSON object of a `load` of this network: change, cmd, dawdle, links, nodes, seed, start, turns and zone, in byte
-- order of keys
abbrev pub load_data : NetSpec → Data
load_data net =
    object (number_at (codes "change") net.change (text_at (codes "cmd") (codes "load") (number_at (codes "dawdle") net.dawdle
    (list_member (codes "links") link_data net.links (list_member (codes "nodes") node_data net.nodes (number_at (codes "seed") net.seed
    (number_at (codes "start") net.start (list_member (codes "turns") turn_data net.turns (number_at (codes "zone") net.zone no_members)))))))))

-- the JSON object of a command of this name (`close` or `reopen`) for the cells of a lane from `first` to `last`
abbrev pub stretch_data_of : List ℕ → ℕ → ℕ → ℕ → ℕ → Data
stretch_data_of name link lane first last =
    object (text_at (codes "cmd") name (number_at (codes "first") first (number_at (codes "lane") lane (number_at (codes "last") last
    (number_at (codes "link") link no_members)))))

-- the JSON object of a command of this name (`takeout` or `vehicle`) for the vehicle of a number
abbrev pub car_data_of : List ℕ → ℕ → Data
car_data_of name car = object (number_at (codes "car") car (text_at (codes "cmd") name no_members))

-- whether the text of a command has the field of a size: only an `enter` of a vehicle whose size is not 1
abbrev pub tells_size : Command → Bool
tells_size (Enter plan lane depart size) = not (size == 1)
tells_size c = false

-- the members of an `enter` with the vehicle's size put before the members `more`; only `more` where the size is 1
abbrev pub size_at : ℕ → Members → Members
size_at size more = if size == 1 then more else number_at (codes "size") size more

-- the JSON object by which a command is written: its name under `cmd` and all its fields, but no size of 1, keys in
-- byte order
abbrev pub command_data : Command → Data
command_data (Load net) = load_data net
command_data (Enter plan lane depart size) =
    object (text_at (codes "cmd") (codes "enter") (number_at (codes "depart") depart (number_at (codes "lane") lane
    (list_member (codes "plan") number_data plan (size_at size no_members)))))
command_data (Signal node offset phases) =
    object (text_at (codes "cmd") (codes "signal") (number_at (codes "node") node (number_at (codes "offset") offset
    (list_member (codes "phases") phase_data phases no_members))))
command_data (Advance steps) = object (text_at (codes "cmd") (codes "advance") (number_at (codes "steps") steps no_members))
command_data (CloseLane link lane first last) = stretch_data_of (codes "close") link lane first last
command_data (ReopenLane link lane first last) = stretch_data_of (codes "reopen") link lane first last
command_data (TakeOut car) = car_data_of (codes "takeout") car
command_data (PlaceMeter link lane cell period) =
    object (number_at (codes "cell") cell (text_at (codes "cmd") (codes "meter") (number_at (codes "lane") lane
    (number_at (codes "link") link (number_at (codes "period") period no_members)))))
command_data (ReadMeter meter) = object (text_at (codes "cmd") (codes "read") (number_at (codes "meter") meter no_members))
command_data (Vehicle car) = car_data_of (codes "vehicle") car
command_data (Lane link lane) = object (text_at (codes "cmd") (codes "lane") (number_at (codes "lane") lane (number_at (codes "link") link no_members)))
command_data Count = object (text_at (codes "cmd") (codes "count") no_members)

-- the compact JSON text of a command, without a line end
unfoldable pub text_of : Command → List ℕ
text_of c = compact_text (command_data c)
