-- Lane changes on a link of two lanes of a tile.
use Rattle.std.specs.Prelude.{◌≡◌, ◌≢◌, ℕ, ◌+◌, List, [], ◌∷◌}
use Rattle.street_base.specs.declared.net.NetSpec.{NetSpec}
use Rattle.street_base.specs.Prelude.{Changing, changed_cells, link_at, Traffic, LaneState, changing_on, with_cells}
use Rattle.street_gap.specs.declared.closures.Stretch.{Stretch}
use Rattle.street_yard.specs.Prelude.{Yard, IsLane}
use Rattle.street_lanes.specs.Views.{LaneView, LaneStands, IsLaneOf}
use Rattle.street_lanes.specs.Lanes.{Lanes, lane_of, place_at, Same}
use Rattle.street_lanes.specs.Lists.{cells_list, lane_seen, NoneLoose, Touches}

-- that P holds of any traffic m of the network at the clock with any two lanes that l and r show: the same cells,
-- closed cells and buffers, and who waits sorted (`IsLaneOf`); the lanes need not be m's
abbrev pub WhereBothSeen : NetSpec → ℕ → LaneView → LaneView → (Traffic → LaneState → LaneState → Type 0) → Type 0
WhereBothSeen net clock l r P = (m : Traffic) (a b : LaneState) → m.network ≡ net → m.clock ≡ clock → IsLaneOf l a → IsLaneOf r b → P m a b

-- that P holds of any traffic m of the network at the clock with any two lanes of the machine for which l and r stand
-- (`LaneStands`); the lanes need not be m's
abbrev pub WhereBothStand : NetSpec → ℕ → LaneView → LaneView → (Traffic → LaneState → LaneState → Type 0) → Type 0
WhereBothStand net clock l r P = (m : Traffic) (a b : LaneState) → m.network ≡ net → m.clock ≡ clock → LaneStands l a → LaneStands r b → P m a b

-- one of a link's two lanes after lane changes: `own`, which has number `lane`, beside `other`, both as they were
-- before; only its cells may differ
abbrev pub changed_lane : Changing → ℕ → LaneState → LaneState → LaneState
changed_lane changing lane own other = with_cells own (changed_cells changing lane own.track other.track)

-- that the lists of lanes n and n + 1, with closed stretches `own` and `other`, show lanes 0 and 1 of `link` after the
-- lane changes of the network at the clock, whatever two lanes they showed before; only these lanes' lists of cells,
-- and the cars on them, may differ
pub record ChangesLanes (net : NetSpec) (clock link : ℕ) (own other : List Stretch) (n : ℕ) (old new : Yard) : Type 0 where
  pub touches : Touches (cells_list n ∷ cells_list (n + 1) ∷ []) old new
  pub room : new.room ≡ old.room
  pub none_loose : NoneLoose old → NoneLoose new
  pub first_lane : IsLane new (cells_list n) (link_at net link).length
  pub second_lane : IsLane new (cells_list (n + 1)) (link_at net link).length
  pub first : WhereBothSeen net clock (lane_seen old own (link_at net link).length n) (lane_seen old other (link_at net link).length (n + 1))
      (λ m a b. IsLaneOf (lane_seen new own (link_at net link).length n) (changed_lane (changing_on m link) 0 a b))
  pub second : WhereBothSeen net clock (lane_seen old own (link_at net link).length n) (lane_seen old other (link_at net link).length (n + 1))
      (λ m a b. IsLaneOf (lane_seen new other (link_at net link).length (n + 1)) (changed_lane (changing_on m link) 1 b a))

-- that lanes n and n + 1 stand for lanes 0 and 1 of the link of lane n after the lane changes of the network at the
-- clock, whatever two lanes they stood for; all other lanes, and places, sizes, loose vehicles, odds and room are as
-- they were
pub record ChangesAt (net : NetSpec) (clock n : ℕ) (x y : Lanes) : Type 0 where
  pub same : Same x y
  pub others : (k : ℕ) → k ≢ n → k ≢ n + 1 → lane_of y k ≡ lane_of x k
  pub room : y.room ≡ x.room
  pub first : WhereBothStand net clock (lane_of x n) (lane_of x (n + 1))
      (λ m a b. LaneStands (lane_of y n) (changed_lane (changing_on m (place_at x n).link) 0 a b))
  pub second : WhereBothStand net clock (lane_of x n) (lane_of x (n + 1))
      (λ m a b. LaneStands (lane_of y (n + 1)) (changed_lane (changing_on m (place_at x n).link) 1 b a))
