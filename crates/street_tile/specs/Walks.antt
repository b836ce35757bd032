-- A tile's walk over its buffers.
use Rattle.std.specs.Prelude.{◌≡◌, ℕ, ◌≤◌, List, [], ◌∷◌, ◌++◌, Bool, true, false, Option, Some, IsSome, filter_map, slice_get, slice_set}
use Rattle.street_base.specs.declared.net.NetSpec.{NetSpec}
use Rattle.street_base.specs.declared.names.Place.{Place}
use Rattle.street_base.specs.Prelude.{next_link, Traffic, LaneState, Queued, lane_at, target}
use Rattle.street_net.specs.Prelude.{slot_of, mouth}
use Rattle.street_node.specs.Prelude.{IsWalk}
use Rattle.street_lanes.specs.Prelude.{LaneStands, without_front, Lanes, GoesAt, lane_of, place_at, LanesStand, IsOn}
use Rattle.street_tile.specs.Halves.{Transfer, crossing, entry_on}
use Rattle.street_tile.specs.Tiles.{Shows}

-- that releases may begin from this traffic: it is of the network and formed (`IsOn`), at this clock, own lanes stand
-- for it, mouths show cell 0 of each lane of the network, and a walk over the own buffers finds the machine's givers
-- (`IsWalk`)
pub record IsReleasing (net : NetSpec) (clock : ℕ) (own : Lanes) (mouths : List Bool) (m : Traffic) : Type 0 where
  pub on : IsOn net m
  pub in_time : m.clock ≡ clock
  pub walk : IsWalk m own.places
  pub stand : LanesStand own.places own.lanes m
  pub shows : Shows net mouths m

-- that `after` is the hand-overs `before` with the fronts that go behind them, own buffer by own buffer, in all traffic
-- from which releases may begin (`IsReleasing`)
abbrev pub HandsOver : NetSpec → ℕ → Lanes → List Bool → List Transfer → List Transfer → Type 0
HandsOver net clock own mouths before after = (m : Traffic) → IsReleasing net clock own mouths m
    → after ≡ before ++ filter_map (crossing m) own.places

-- that `to` is the lane that the front of lane n's buffer may enter, or none where there is no front, it is not ready
-- or no turn leads on for it, in all traffic of the network at this clock for which lane n stands
abbrev pub Targets : NetSpec → ℕ → Lanes → ℕ → Option Place → Type 0
Targets net clock own n to =
    (m : Traffic) → m.network ≡ net → m.clock ≡ clock → LaneStands (lane_of own n) (lane_at m (place_at own n)) → to ≡ target m (place_at own n)

-- that there is a lane of the machine, for which lane n stands, whose buffer has q as its front
pub record HasFront (own : Lanes) (n : ℕ) (q : Queued) : Type 0 where
  pub lane : LaneState
  pub stands : LaneStands (lane_of own n) lane
  pub first : slice_get lane.queue 0 ≡ Some q

-- that, where the mouth of lane `to` is shut, nothing has changed; where it is open, and lane n's buffer has a front,
-- the lane lost it, that mouth is shut, and the front, if its plan goes on, is handed over behind `before` as it enters
-- `to`; other lanes are as they were, and there is no less room
pub record ReleasesFront (net : NetSpec) (n : ℕ) (to : Place) (old new : Lanes) (open_old open_new : List Bool) (before after : List Transfer) : Type 0 where
  pub shut : mouth open_old to ≡ false → (new ≡ old) × (open_new ≡ open_old) × (after ≡ before)
  pub goes : mouth open_old to ≡ true → GoesAt n without_front old new
  pub mouths : mouth open_old to ≡ true → (q : Queued) → HasFront old n q → open_new ≡ slice_set open_old (slot_of to) false
  pub handed : mouth open_old to ≡ true → (q : Queued) → HasFront old n q → IsSome (next_link q.vehicle) → after ≡ before ++ entry_on net q.vehicle to ∷ []
  pub room : old.room ≤ new.room
