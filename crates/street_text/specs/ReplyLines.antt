-- The lines that answer: a reply, or an error that has no place.
-- Keys stand in byte order, and no more is written than the object.
use Rattle.std.specs.Prelude.{ℕ, List, [], ◌∷◌, ◌++◌, nat_lt, if◌then◌else◌, true, codes}
use Rattle.serde_json.specs.Data.{Data, boolean, number, unsigned, string, array, object, Items, no_items, item, Members, no_members, member}
use Rattle.serde_json.specs.Written.{compact_text}
use Rattle.street_base.specs.declared.reply.BufferEntry.{BufferEntry}
use Rattle.street_base.specs.declared.reply.CellEntry.{CellEntry}
use Rattle.street_base.specs.declared.reply.End.TheVariants.{Arrived, Taken}
use Rattle.street_base.specs.declared.reply.MeterRow.{MeterRow}
use Rattle.street_base.specs.declared.refusal.Refusal.{Refusal}
use Rattle.street_base.specs.declared.refusal.Refusal.TheVariants.{BadNetwork, BadPlan, BadSignal}
use Rattle.street_base.specs.declared.reply.Reply.{Reply}
use Rattle.street_base.specs.declared.reply.Reply.TheVariants.{Loaded, Signalled, Entered, Clock, Short, Closed, Placed, Rows, Vehicle, Lane, Census, Refused, Starved}
use Rattle.street_base.specs.declared.reply.RunningRow.{RunningRow}
use Rattle.street_base.specs.declared.reply.Stretch.{Stretch}
use Rattle.street_base.specs.declared.reply.WaitingEntry.{WaitingEntry}
use Rattle.street_base.specs.declared.reply.Whereabouts.{Whereabouts}
use Rattle.street_base.specs.declared.reply.Whereabouts.TheVariants.{Cell, Buffer, Waiting, Ended}
use Rattle.street_base.specs.declared.command.GreenSpec.{GreenSpec}
use Rattle.street_base.specs.declared.command.PhaseSpec.{PhaseSpec}
use Rattle.street_base.specs.declared.net.NodeSpec.{NodeSpec}
use Rattle.street_base.specs.declared.net.LinkSpec.{LinkSpec}
use Rattle.street_base.specs.declared.net.TurnSpec.{TurnSpec}
use Rattle.street_base.specs.Prelude.{number_of, name_of, part_name}

-- ---- lists

-- the items of a JSON list, made of the entries of a list in order; `one` gives the value of one entry
abbrev pub items_from : {T : Type 0} → (T → Data) → List T → Items
items_from one [] = no_items
items_from one (x ∷ xs) = item (one x) (items_from one xs)

-- the JSON value of a number, written with digits alone
abbrev pub number_data : ℕ → Data
number_data n = number (unsigned n)

-- the items of a JSON list of these numbers
abbrev pub numbers : List ℕ → Items
numbers ns = items_from number_data ns

-- ---- rows

-- the JSON list of a detector's full row: start, passes, speeds, occupied
abbrev pub meter_data : MeterRow → Data
meter_data r = array (numbers (r.start ∷ r.passes ∷ r.speeds ∷ r.occupied ∷ []))

-- the JSON list of a detector's running row: start, steps so far, passes, speeds, occupied
abbrev pub running_data : RunningRow → Data
running_data r = array (numbers (r.start ∷ r.steps ∷ r.passes ∷ r.speeds ∷ r.occupied ∷ []))

-- the JSON list of a vehicle in a buffer: number, speed, the step from which it may go on
abbrev pub buffer_data : BufferEntry → Data
buffer_data e = array (numbers (e.car ∷ e.speed ∷ e.ready ∷ []))

-- the JSON list of a vehicle in a cell: number, cell, speed, and behind these its size if that is above 1
abbrev pub cell_data : CellEntry → Data
cell_data e = array (numbers (e.car ∷ e.cell ∷ e.speed ∷ (if nat_lt 1 e.size then e.size ∷ [] else [])))

-- the JSON list of a closed stretch: first and last cell
abbrev pub stretch_data : Stretch → Data
stretch_data s = array (numbers (s.first ∷ s.last ∷ []))

-- the JSON list of a vehicle that waits: number, and the step from which it may depart
abbrev pub waiting_data : WaitingEntry → Data
waiting_data e = array (numbers (e.car ∷ e.depart ∷ []))

-- ---- entries of a command

-- the JSON list of a node to be loaded: identifier, residence, capacity
abbrev pub node_data : NodeSpec → Data
node_data n = array (numbers (n.id ∷ n.residence ∷ n.capacity ∷ []))

-- the JSON list of a link to be loaded: identifier, from, to, lanes, length, limit
abbrev pub link_data : LinkSpec → Data
link_data l = array (numbers (l.id ∷ l.from ∷ l.to ∷ l.lanes ∷ l.length ∷ l.limit ∷ []))

-- the JSON list of a turn to be loaded: link, lane, next link, next lane
abbrev pub turn_data : TurnSpec → Data
turn_data t = array (numbers (t.link ∷ t.lane ∷ t.next ∷ t.next_lane ∷ []))

-- the JSON list of a green turn: link, lane, next link
abbrev pub green_data : GreenSpec → Data
green_data g = array (numbers (g.link ∷ g.lane ∷ g.next ∷ []))

-- the JSON list of a phase: its duration, and the list of its green turns
abbrev pub phase_data : PhaseSpec → Data
phase_data p = array (item (number_data p.duration) (item (array (items_from green_data p.greens)) no_items))

-- ---- members

-- the members of an object with a number under this key put before the members `more`
abbrev pub number_at : List ℕ → ℕ → Members → Members
number_at key n more = member key (number (unsigned n)) more

-- the members of an object with a text under this key put before the members `more`
abbrev pub text_at : List ℕ → List ℕ → Members → Members
text_at key text more = member key (string text) more

-- the members of an object with a list under this key put before the members `more`; `one` gives the value of one entry
abbrev pub list_member : {T : Type 0} → List ℕ → (T → Data) → List T → Members → Members
list_member key one list more = member key (array (items_from one list)) more

-- the members of an object with a vehicle's plan, a list of numbers, under `plan` put before the members `more`
abbrev pub plan_at : List ℕ → Members → Members
plan_at plan more = list_member (codes "plan") number_data plan more

-- the members of a reply with a vehicle's size put before the members `more`; only `more` where the size is not above 1
abbrev pub size_at : ℕ → Members → Members
size_at size more = if nat_lt 1 size then number_at (codes "size") size more else more

-- ---- objects, their keys in byte order

-- the members of an object with the number of an error, under `error`, and its name, under `name`, put before the
-- members `more`
abbrev pub error_at : ℕ → List ℕ → Members → Members
error_at n name more = number_at (codes "error") n (text_at (codes "name") name more)

-- the members of an object with the number of a refusal, under `error`, and its name, under `name`, put before the
-- members `more`
abbrev pub refusal_at : Refusal → Members → Members
refusal_at r more = error_at (number_of r) (name_of r) more

-- the JSON object of an error that has no place: its number under `error` and its name under `name`
abbrev pub error_data : ℕ → List ℕ → Data
error_data n name = object (error_at n name no_members)

-- the JSON object of a refusal: its number and name; of a bad load also part and position of the fault, of a bad plan
-- or signal plan its position
abbrev pub refused_data : Refusal → Data
refused_data (BadNetwork part at) =
    object (number_at (codes "at") at (refusal_at (BadNetwork part at) (text_at (codes "part") (part_name part) no_members)))
refused_data (BadPlan at) = object (number_at (codes "at") at (refusal_at (BadPlan at) no_members))
refused_data (BadSignal at) = object (number_at (codes "at") at (refusal_at (BadSignal at) no_members))
refused_data refusal = object (refusal_at refusal no_members)

-- the JSON object of a vehicle that has ended: its number, how it ended (`arrived` or `taken`) as `state`, and the step
-- in which it ended
abbrev pub ended_data : ℕ → List ℕ → ℕ → Data
ended_data car state step = object (number_at (codes "car") car (text_at (codes "state") state (number_at (codes "step") step no_members)))

-- the JSON object that tells of a vehicle: its number and state; in a cell, in a buffer or waiting also link, lane, its
-- remaining plan, a size above 1, and what that state has (cell and speed, ready and speed, or depart); ended, the step
-- of its end
abbrev pub vehicle_data : ℕ → Whereabouts → Data
vehicle_data car (Cell link lane cell speed size plan) =
    object (number_at (codes "car") car (number_at (codes "cell") cell (number_at (codes "lane") lane (number_at (codes "link") link
    (plan_at plan (size_at size (number_at (codes "speed") speed (text_at (codes "state") (codes "cell") no_members))))))))
vehicle_data car (Buffer link lane ready speed size plan) =
    object (number_at (codes "car") car (number_at (codes "lane") lane (number_at (codes "link") link (plan_at plan
    (number_at (codes "ready") ready (size_at size (number_at (codes "speed") speed (text_at (codes "state") (codes "buffer") no_members))))))))
vehicle_data car (Waiting link lane depart size plan) =
    object (number_at (codes "car") car (number_at (codes "depart") depart (number_at (codes "lane") lane (number_at (codes "link") link
    (plan_at plan (size_at size (text_at (codes "state") (codes "waiting") no_members)))))))
vehicle_data car (Ended (Arrived step)) = ended_data car (codes "arrived") step
vehicle_data car (Ended (Taken step)) = ended_data car (codes "taken") step

-- the JSON object by which a reply is written: its fields by name, keys in byte order; of a vehicle and of a refusal as
-- their own objects, and `starved` true where memory ran out
abbrev pub reply_data : Reply → Data
reply_data (Loaded links nodes turns) = object (number_at (codes "links") links (number_at (codes "nodes") nodes (number_at (codes "turns") turns no_members)))
reply_data (Signalled cycle) = object (number_at (codes "cycle") cycle no_members)
reply_data (Entered car) = object (number_at (codes "car") car no_members)
reply_data (Clock clock) = object (number_at (codes "clock") clock no_members)
reply_data (Short clock short) = object (number_at (codes "clock") clock (number_at (codes "short") short no_members))
reply_data (Closed closed) = object (number_at (codes "closed") closed no_members)
reply_data (Reply.Taken taken) = object (number_at (codes "taken") taken no_members)
reply_data (Placed meter) = object (number_at (codes "meter") meter no_members)
reply_data (Rows now rows) = object (member (codes "now") (running_data now) (list_member (codes "rows") meter_data rows no_members))
reply_data (Vehicle car whereabouts) = vehicle_data car whereabouts
reply_data (Lane buffer cells closed waiting) =
    object (list_member (codes "buffer") buffer_data buffer (list_member (codes "cells") cell_data cells
    (list_member (codes "closed") stretch_data closed (list_member (codes "waiting") waiting_data waiting no_members))))
reply_data (Census admitted arrived buffers cells clock taken waiting) =
    object (number_at (codes "admitted") admitted (number_at (codes "arrived") arrived (number_at (codes "buffers") buffers (number_at (codes "cells") cells
    (number_at (codes "clock") clock (number_at (codes "taken") taken (number_at (codes "waiting") waiting no_members)))))))
reply_data (Refused refusal) = refused_data refusal
reply_data Starved = object (member (codes "starved") (boolean true) no_members)

-- ---- lines

-- the line of a JSON value: its compact text and LF
abbrev pub line_of : Data → List ℕ
line_of d = compact_text d ++ 10 ∷ []

-- the line of a reply: its JSON object as compact text, and LF
unfoldable pub reply_line : Reply → List ℕ
reply_line r = line_of (reply_data r)
