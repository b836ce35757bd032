-- What a network keeps beside its lists, so that a step searches for nothing in them.
use Rattle.std.specs.Prelude.{◌≡◌, ℕ, ◌+◌, ◌*◌, ◌<◌, ◌≤◌, ◌==◌, List, map, filter, length, nat_lt, Bool, true, false, ◌&&◌, ◌||◌, Some, None, Vec}
use Rattle.std.specs.Prelude.{unwrap_or, slice_index_or, ◌≢◌, Option, MatchOption, Contains}
use Rattle.std.specs.Option.{option_map_or}
use Rattle.std.specs.List.{between}
use Rattle.std.specs.declared.alloc.Global.{Global}
use Rattle.std.specs.List.Sorted.{IsPermutation, IsNonDecreasingBy}
use Rattle.street_base.specs.declared.net.NetSpec.{NetSpec}
use Rattle.street_base.specs.declared.net.TurnSpec.{TurnSpec}
use Rattle.street_base.specs.declared.net.Turn.{Turn}
use Rattle.street_base.specs.declared.names.Place.{Place}
use Rattle.street_base.specs.Prelude.{names_link, link_of, link_at, node_of, places, serves, network_fault}
use Rattle.street_net.specs.Keys.{ids_of_nodes, ids_of_links}
use Rattle.street_net.specs.declared.briefs.Brief.{Brief}
use Rattle.street_net.specs.declared.nexts.Nexts.{Nexts}
use Rattle.street_net.specs.declared.nexts.Pair.{Pair}

-- ---- what a step asks of a link

-- that the brief of a link (what a step asks of it) has the link's length, lanes and limit, and the position of the
-- node to which it runs
pub record IsBrief (net : NetSpec) (link : ℕ) (brief : Brief) : Type 0 where
  pub runs_to : node_of net (link_at net link).to ≡ Some brief.end
  pub same_length : brief.length ≡ (link_at net link).length
  pub same_lanes : brief.lanes ≡ (link_at net link).lanes
  pub same_limit : brief.limit ≡ (link_at net link).limit

-- that there is one brief for each link, in the order of the links, with its length, lanes, limit and the position of
-- its end node
pub record AreBriefs (net : NetSpec) (briefs : List Brief) : Type 0 where
  pub one_each : length briefs ≡ length net.links
  pub told : (link : ℕ) (d : Brief) → link < length net.links → IsBrief net link (slice_index_or briefs link d)

-- ---- the lanes that run to a node

-- whether the link of this lane runs to the node at this position; no where it runs to no node of the network
abbrev pub ends_at : NetSpec → ℕ → Place → Bool
ends_at net node place = option_map_or (λ end. end == node) (node_of net (link_at net place.link).to) false

-- the lanes that run to the node at a position, in the order of release: by the position of the link, then by the lane
abbrev pub in_places : NetSpec → ℕ → List Place
in_places net node = filter (ends_at net node) (places net)

-- that there is one list for each node, by the node's position, of the lanes that run to it in the order of release: by
-- the position of the link, then by the lane
pub record AreInLanes (net : NetSpec) (listed : List (Vec Place Global)) : Type 0 where
  pub one_each : length listed ≡ length net.nodes
  pub lists : (node : ℕ) (d : Vec Place Global) → node < length net.nodes → (slice_index_or listed node d).items ≡ in_places net node

-- ---- the turns from a lane

-- a turn from this lane to this next link, with both links named by position; of the load's turn t only the next lane
-- is taken
abbrev pub turn_by_position : Place → ℕ → TurnSpec → Turn
turn_by_position place next t = record { link = place.link; lane = place.lane; next = next; next_lane = t.next_lane }

-- a turn of the load with both links named by position in place of identifier; 0 where no link has the identifier
abbrev pub seen_turn : NetSpec → TurnSpec → Turn
seen_turn net t = record { link = unwrap_or (link_of net t.link) 0; lane = t.lane; next = unwrap_or (link_of net t.next) 0; next_lane = t.next_lane }

-- whether a turn of the load, whose links are identifiers, leaves this lane, whose link is a position
abbrev pub is_from : NetSpec → Place → TurnSpec → Bool
is_from net place t = names_link net t.link place.link && (t.lane == place.lane)

-- those of these turns of the load that leave a lane, with their links named by position
abbrev pub turns_from : NetSpec → Place → List TurnSpec → List Turn
turns_from net place turns = map (seen_turn net) (filter (is_from net place) turns)

-- that a list has exactly the turns of the load that leave this lane, their links named by position, in the order of
-- their next links
pub record AreTurnsFrom (net : NetSpec) (place : Place) (turns : List Turn) : Type 0 where
  pub same : IsPermutation (turns_from net place net.turns) turns
  pub rising : IsNonDecreasingBy (λ t. t.next) turns

-- the number of the list in which a turn stands: each lane has one, 2 * link + lane
abbrev pub list_number : Turn → ℕ
list_number t = 2 * t.link + t.lane

-- the number by which the table of turns is sorted: first by the turn's list (2 * link + lane), then by its next link,
-- which has 16 bits
abbrev pub turn_rank : Turn → ℕ
turn_rank t = list_number t * 65536 + t.next

-- that list number `list` begins at position `start` of the sorted turns: turns of lower lists stand before it, turns
-- of this list or higher ones from there on; `start` is the end where there are none of those
pub record IsStart (turns : List Turn) (list start : ℕ) : Type 0 where
  pub within : start ≤ length turns
  pub before : (k : ℕ) (d : Turn) → k < start → list_number (slice_index_or turns k d) < list
  pub after : (k : ℕ) (d : Turn) → start ≤ k → k < length turns → list ≤ list_number (slice_index_or turns k d)

-- that each entry of `starts` is the position in the sorted turns where the list of that number (2 * link + lane)
-- begins
abbrev pub AreStarts : List ℕ → List Turn → Type 0
AreStarts starts turns = (list d : ℕ) → list < length starts → IsStart turns list (slice_index_or starts list d)

-- the turns of list number `list`, 2 * link + lane of the lane that they leave: the sorted turns from its start to
-- before the start of the next list; no turn where there is no next start
abbrev pub turns_at : List ℕ → List Turn → ℕ → List Turn
turns_at starts turns list = between (slice_index_or starts list 0) (slice_index_or starts (list + 1) 0) turns

-- that the table has all turns of the load, links named by position, sorted by `turn_rank` (lane, then next link), and
-- for each of two lanes a link the position where its turns begin; one start more says where the last lane's end
pub record IsTurnTable (net : NetSpec) (starts : List ℕ) (turns : List Turn) : Type 0 where
  pub same : IsPermutation (map (seen_turn net) net.turns) turns
  pub rising : IsNonDecreasingBy turn_rank turns
  pub two_each : length starts ≡ 2 * length net.links + 1
  pub cut : AreStarts starts turns

-- that the tables beside a network are right: a brief for each link, the lanes that run to each node, and all turns
-- with the start of each lane's list
abbrev pub AreTables : NetSpec → List Brief → List (Vec Place Global) → List ℕ → List Turn → Type 0
AreTables net briefs in_lanes starts turns = AreBriefs net briefs × AreInLanes net in_lanes × IsTurnTable net starts turns

-- that the turn found leads to this next link and is one of these turns; or that none was found and none of them leads
-- there
abbrev pub FindsTurn : List Turn → ℕ → Option Turn → Type 0
FindsTurn turns next found =
    MatchOption found ((k : ℕ) (d : Turn) → k < length turns → (slice_index_or turns k d).next ≢ next) (λ t. Contains turns t × (t.next ≡ next))

-- ---- next links that are kept

-- whether a link, by its position, is one of the at most four next links kept for a lane; 65535 stands for an empty
-- entry
abbrev pub has_next : Nexts → ℕ → Bool
has_next n next = nat_lt next 65535 && (((n.first == next || n.second == next) || n.third == next) || n.fourth == next)

-- that a lane has a turn to the link at position `next`; nothing is said where `next` is 65535 or more, which names no
-- link
abbrev pub IsServedOrNone : NetSpec → Place → ℕ → Type 0
IsServedOrNone net place next = next < 65535 → serves net place next ≡ true

-- that a lane has a turn to every next link that is kept for it, at most four
abbrev pub AreServed : NetSpec → Place → Nexts → Type 0
AreServed net place n = (next : ℕ) → has_next n next ≡ true → serves net place next ≡ true

-- that the next links kept for the two lanes of a link are links that these lanes serve; not all that they serve need
-- be kept
pub record IsKept (net : NetSpec) (link : ℕ) (pair : Pair) : Type 0 where
  pub zero : AreServed net (record { link = link; lane = 0 }) pair.zero
  pub one : AreServed net (record { link = link; lane = 1 }) pair.one

-- that the next links kept for each link are served by its lanes, entry by entry; the list may be shorter than that of
-- links
abbrev pub AreKept : NetSpec → List Pair → Type 0
AreKept net pairs = (link : ℕ) (d : Pair) → link < length pairs → IsKept net link (slice_index_or pairs link d)

-- ---- a network

-- that a network is ready for steps: its load has no fault, the identifiers of nodes and of links are listed in the
-- order of the load, and right are the briefs of links, the lanes to each node, the turns of each lane and the next
-- links kept
pub record IsChecked (net : NetSpec) (nodes links : List ℕ) (briefs : List Brief) (in_lanes : List (Vec Place Global)) (starts : List ℕ)
    (turns : List Turn) (nexts : List Pair) : Type 0 where
  pub faultless : network_fault net ≡ None
  pub nodes_listed : nodes ≡ ids_of_nodes net.nodes
  pub links_listed : links ≡ ids_of_links net.links
  pub briefs_kept : AreBriefs net briefs
  pub in_lanes_kept : AreInLanes net in_lanes
  pub turns_kept : IsTurnTable net starts turns
  pub nexts_kept : AreKept net nexts
