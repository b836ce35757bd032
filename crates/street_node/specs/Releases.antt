-- The release phase of one node: which fronts go, whereto, and what is left.
use Rattle.std.specs.Prelude.{◌≡◌, ◌≢◌, ℕ, ◌+◌, ◌<◌, ◌==◌, nat_le, min, List, [], ◌∷◌, ◌++◌, length, map, drop, take, filter_map, Bool, true, false}
use Rattle.std.specs.Prelude.{Option, Some, None, option_map, option_and_then, slice_get, slice_set, slice_index_or, if◌then◌else◌, All}
use Rattle.std.specs.Option.{option_map_or}
use Rattle.street_base.specs.declared.net.NetSpec.{NetSpec}
use Rattle.street_base.specs.declared.car.Car.{Car}
use Rattle.street_base.specs.Prelude.{Vehicle, vehicle_of, next_link, is_free, link_at, node_of, turn, Traffic, Queued, lane_at, target, gives, entering}
use Rattle.street_base.specs.declared.names.Place.{Place}
use Rattle.street_net.specs.Prelude.{slot_of, mouth, in_places, turn_by_position}
use Rattle.street_yard.specs.Prelude.{Yard, YardEntry, list_at, entry_at, car_of, without, first_or, Away, IsWhole, vehicle_with}
use Rattle.street_node.specs.Buffers.{queue_of}
use Rattle.street_node.specs.Walks.{AreShut}
use Rattle.street_node.specs.declared.release.Released.{Released}

-- ---- who crosses, by the machine

-- a vehicle on its way over a node: the lane whose buffer it leaves, the lane that it enters, and the vehicle as it
-- enters
pub record Crossing : Type 0 where
  pub from : Place
  pub to : Place
  pub vehicle : Vehicle

-- the crossing of the front of this lane's buffer in this step: from this lane, to the lane where its turn leads, and
-- the vehicle as it enters there; none where that lane does not take the front of this buffer
abbrev pub crossing : Traffic → Place → Option Crossing
crossing m from =
    if gives m from then option_and_then (λ to. option_map (λ v. record { from = from; to = to; vehicle = v }) (entering m to)) (target m from) else None

-- the buffer of this lane after the releases of a step: without its front if the lane where that one's turn leads takes
-- it, else as it was
abbrev pub queue_after : Traffic → Place → List Queued
queue_after m from = if gives m from then drop 1 (lane_at m from).queue else (lane_at m from).queue

-- ---- mouths

-- whether the link of this lane begins at the node at this position; no where it begins at no node of the network
abbrev pub begins_at : NetSpec → ℕ → Place → Bool
begins_at net node p = option_map_or (λ begin. begin == node) (node_of net (link_at net p.link).from) false

-- that a lane is one of the network's and begins at this node: vehicles from the node's buffers may enter it
pub record IsAhead (net : NetSpec) (node : ℕ) (p : Place) : Type 0 where
  pub link : p.link < length net.links
  pub lane : p.lane < (link_at net p.link).lanes
  pub begins : begins_at net node p ≡ true

-- ---- what the buffers and the mouths of a node stand for

-- that the k-th of the lists ns is the buffer of the k-th lane, in the order of release, that runs to the node: the
-- vehicles of its keys and the steps from which they may go on are that lane's `queue`
abbrev pub StandFor : NetSpec → ℕ → List ℕ → Yard → (Place → List Queued) → Type 0
StandFor net node ns y queue = (k : ℕ) (p : Place) → slice_get (in_places net node) k ≡ Some p → queue_of y (slice_index_or ns k 0) ≡ queue p

-- that a traffic of this network and clock is shown by lists and mouths at a node: the lists ns are its buffers, in the
-- order of release, and the mouth of each lane that begins there is open exactly if that lane's cell 0 is free
pub record Shows (net : NetSpec) (node clock : ℕ) (ns : List ℕ) (y : Yard) (mouths : List Bool) (m : Traffic) : Type 0 where
  pub network : m.network ≡ net
  pub in_time : m.clock ≡ clock
  pub queues : StandFor net node ns y (λ p. (lane_at m p).queue)
  pub shown : (p : Place) → IsAhead net node p → mouth mouths p ≡ is_free (lane_at m p).track 0

-- ---- what the code tells

-- the lane that a released vehicle enters, by its turn: the next link and the lane on it
abbrev pub lane_to : Released → Place
lane_to r = record { link = r.turn.next; lane = r.turn.next_lane }

-- the lane whose buffer a released vehicle leaves, by its turn
abbrev pub lane_from : Released → Place
lane_from r = record { link = r.turn.link; lane = r.turn.lane }

-- the crossing of a released vehicle: from and to the lanes of its turn, with the vehicle as the yard has it under its
-- key; none where no car is under that key
abbrev pub crossing_in : Yard → Released → Option Crossing
crossing_in y r = option_map (λ v. record { from = lane_from r; to = lane_to r; vehicle = v }) (vehicle_with y r.key)

-- the entry of a car that goes to its next link: loose, its speed cut to that link's limit, its position in the plan
-- one further
abbrev pub sent_on : ℕ → YardEntry → YardEntry
sent_on limit e = record e { car = record e.car { speed = min e.car.speed limit; at = e.car.at + 1 }; list = None }

-- the lane that the front of a lane's buffer may enter, by the turn to its next link; none where there is no front, it
-- is not ready by the clock, its plan has no next link, or its lane no such turn
abbrev pub way_out : NetSpec → ℕ → Place → Option Queued → Option Place
way_out net clock from =
    option_and_then
    (λ q.
    if nat_le q.ready clock
    then option_and_then (λ next. option_map (λ t. record { link = next; lane = t.next_lane }) (turn net from next)) (next_link q.vehicle)
    else None)

-- that `r` has the key at the front of list n, the buffer of lane `from`, which has a car with a next link, and the
-- turn from that lane to that link
pub record IsFront (net : NetSpec) (y : Yard) (from : Place) (n : ℕ) (r : Released) : Type 0 where
  pub car : Car
  pub held : car_of y r.key ≡ Some car
  pub first : first_or (list_at y n) None ≡ Some r.key
  pub next : next_link (vehicle_of car) ≡ Some r.turn.next
  pub turn : option_map (turn_by_position from r.turn.next) (turn net from r.turn.next) ≡ Some r.turn

-- that the car of a key was taken off list n and made ready for its next link (loose, its speed cut to `limit`, one
-- further in its plan), and nothing else changed; the new yard's lists and entries agree
pub record SendsOn (old new : Yard) (n key limit : ℕ) : Type 0 where
  pub list : list_at new n ≡ without key (list_at old n)
  pub others : (j : ℕ) → j ≢ n → list_at new j ≡ list_at old j
  pub sent : entry_at new key ≡ option_map (sent_on limit) (entry_at old key)
  pub entries : (j : ℕ) → j ≢ key → entry_at new j ≡ entry_at old j
  pub count : length new.lists ≡ length old.lists
  pub room : new.room ≡ old.room
  pub whole : IsWhole new

-- that the front of list n was dealt with: if the mouth of the lane that it would enter is shut, nothing changed; if
-- open, it was sent on, loose, within its next link's limit, put behind those told before, and that mouth is shut now
pub record SendsFront (net : NetSpec) (n : ℕ) (front : Released) (old new : Yard) (open_old open_new : List Bool) (before after : List Released) : Type 0 where
  pub shut : mouth open_old (lane_to front) ≡ false → (new ≡ old) × (open_new ≡ open_old) × (after ≡ before)
  pub goes : mouth open_old (lane_to front) ≡ true → SendsOn old new n front.key (link_at net front.turn.next).limit
  pub closes : mouth open_old (lane_to front) ≡ true → open_new ≡ slice_set open_old (slot_of (lane_to front)) false
  pub told : mouth open_old (lane_to front) ≡ true → after ≡ before ++ front ∷ []

-- ---- the walk over the first k buffers

-- that each of the released vehicles `more` was sent on (loose, its speed cut to its next link's limit, one further in
-- its plan), and that no other key's entry, no list but the buffers ns, nor the room changed
pub record Sends (net : NetSpec) (ns : List ℕ) (old new : Yard) (more : List Released) : Type 0 where
  pub sent : All (λ r. entry_at new r.key ≡ option_map (sent_on (link_at net r.turn.next).limit) (entry_at old r.key)) more
  pub rest : (key : ℕ) → All (λ r. key ≢ r.key) more → entry_at new key ≡ entry_at old key
  pub lists : (n : ℕ) → Away n ns → list_at new n ≡ list_at old n
  pub count : length new.lists ≡ length old.lists
  pub room : new.room ≡ old.room

-- that of a node's first k buffers, the lists ns, exactly the fronts that the rule lets go in traffic m are gone, told
-- in order by `more`, and the mouth of a lane that begins there is open exactly if its cell 0 was free and no ready
-- front of these k may enter it
pub record ReleasesFirst (net : NetSpec) (node : ℕ) (ns : List ℕ) (m : Traffic) (k : ℕ) (new : Yard) (mouths : List Bool) (more : List Released) : Type 0 where
  pub queues : (j : ℕ) (p : Place) → j < k → slice_get (in_places net node) j ≡ Some p → queue_of new (slice_index_or ns j 0) ≡ queue_after m p
  pub shut : AreShut m (IsAhead net node) (in_places net node) k mouths
  pub crossings : map (crossing_in new) more ≡ map (λ c. Some c) (filter_map (crossing m) (take k (in_places net node)))

-- that a node's buffers, the lists ns, let go the fronts `more`, as the rule says for any traffic that the old lists
-- and mouths show; `more` stands behind the releases told before, and no other car or list changed
pub record Releases (net : NetSpec) (node clock : ℕ) (ns : List ℕ) (old new : Yard) (open_old open_new : List Bool)
    (before after : List Released) : Type 0 where
  pub more : List Released
  pub told : after ≡ before ++ more
  pub sends : Sends net ns old new more
  pub goes : (m : Traffic) → Shows net node clock ns old open_old m → ReleasesFirst net node ns m (length (in_places net node)) new open_new more
