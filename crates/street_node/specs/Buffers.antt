-- The buffers of a node, as lists of a yard.
use Rattle.std.specs.Prelude.{◌≡◌, ℕ, ◌<◌, ◌≤◌, List, [], ◌∷◌, ◌++◌, length, filter_map, Some, option_map, slice_set, slice_index_or, All}
use Rattle.street_base.specs.declared.net.NetSpec.{NetSpec}
use Rattle.street_base.specs.declared.net.NodeSpec.{NodeSpec}
use Rattle.street_base.specs.declared.car.Car.{Car}
use Rattle.street_base.specs.Prelude.{most_plan, vehicle_of, Queued}
use Rattle.street_net.specs.Prelude.{in_places}
use Rattle.street_yard.specs.Prelude.{Yard, list_at, car_of, car_set, list_set, IsApart}

-- the buffers of a node: its position, how many vehicles each may hold, and the list of each lane that runs to it, in
-- the order of release
pub record Buffers : Type 0 where
  pub node : ℕ
  pub capacity : ℕ
  pub lists : List ℕ

-- the list of the buffer of a node's lane, which is named by its position among the lanes that run to the node, in the
-- order of release; 0 where there is none
abbrev pub list_of : Buffers → ℕ → ℕ
list_of b lane = slice_index_or b.lists lane 0

-- the node at a position of the network; one of identifier, residence and capacity 0 past the last
abbrev pub node_at : NetSpec → ℕ → NodeSpec
node_at net node = slice_index_or net.nodes node (record { id = 0; residence = 0; capacity = 0 })

-- that these buffers fit the network: their node is one of its nodes, with its capacity, and there are as many lists as
-- lanes that run to it
pub record AreOf (net : NetSpec) (b : Buffers) : Type 0 where
  pub node : b.node < length net.nodes
  pub capacity : b.capacity ≡ (node_at net b.node).capacity
  pub one_each : length b.lists ≡ length (in_places net b.node)

-- that all these numbers are lists of the yard, and no two are the same
pub record AreListed (y : Yard) (ns : List ℕ) : Type 0 where
  pub within : All (λ n. n < length y.lists) ns
  pub apart : IsApart ns

-- that the lists of a node's buffers are lists of the yard, and no two are the same
abbrev pub AreIn : Yard → Buffers → Type 0
AreIn y b = AreListed y b.lists

-- that no car of the yard has a plan of more than `most_plan` links
abbrev pub HaveShortPlans : Yard → Type 0
HaveShortPlans y = (key : ℕ) (car : Car) → car_of y key ≡ Some car → length car.plan.value ≤ most_plan

-- the buffered vehicle of the definitions that a car of the code stands for; the car's step is the one from which it
-- may go on
abbrev pub queued_of : Car → Queued
queued_of car = record { vehicle = vehicle_of car; ready = car.step }

-- the buffer that list n of the yard stands for: for each of its keys, the front first, the vehicle and the step from
-- which it may go on; keys without a car are left out
abbrev pub queue_of : Yard → ℕ → List Queued
queue_of y n = filter_map (λ k. option_map queued_of (car_of y k)) (list_at y n)

-- the yard after key k was put at the back of list n, a buffer: the key is noted as on that list, and `ready` is the
-- step from which its car may go on
abbrev pub taken_in : Yard → ℕ → ℕ → ℕ → Yard
taken_in y n k ready = record y {
  lists = slice_set y.lists n (list_at y n ++ k ∷ []);
  kept = car_set (list_set y.kept k (Some n)) k (λ c. record c { step = ready });
}
