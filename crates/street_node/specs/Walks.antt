-- A walk over buffers, against the choice by entrance.
use Rattle.std.specs.Prelude.{◌≡◌, ℕ, ◌≤◌, List, Bool, true, not, ◌&&◌, Some, find, sum_by, slice_get, take}
use Rattle.std.specs.List.{list_any}
use Rattle.street_base.specs.declared.names.Place.{Place}
use Rattle.street_base.specs.Prelude.{is_place, places, is_free, Traffic, lane_at, one_if, may_give}
use Rattle.street_net.specs.Prelude.{mouth}

-- how often the lane q stands in a list of lanes
abbrev pub times : Place → List Place → ℕ
times q ps = sum_by (λ p. one_if (is_place q p)) ps

-- that no lane stands twice in a list of lanes
abbrev pub AtMostOnce : List Place → Type 0
AtMostOnce ps = (q : Place) → times q ps ≤ 1

-- that no lane stands twice in `ps`, and that for each lane `to` to which a front of these buffers may go the first
-- such buffer of `ps` is also the first of the whole network: going through `ps` in order finds the giver of the rule
pub record IsWalk (m : Traffic) (ps : List Place) : Type 0 where
  pub once : AtMostOnce ps
  pub firsts : (k : ℕ) (to from : Place) → slice_get ps k ≡ Some from → may_give m to from ≡ true
      → find (may_give m to) ps ≡ find (may_give m to) (places m.network)

-- that after the first k buffers of `ps` the mouth of each lane of which `Among` holds is open exactly if its cell 0 is
-- free and no ready front of those k buffers may go there
abbrev pub AreShut : Traffic → (Place → Type 0) → List Place → ℕ → List Bool → Type 0
AreShut m Among ps k mouths = (p : Place) → Among p → mouth mouths p ≡ is_free (lane_at m p).track 0 && not (list_any (may_give m p) (take k ps))
