-- What a refused load or plan tells.
use Rattle.std.specs.Prelude.{◌≡◌, ℕ, nat_le, List, Option, Some, None, if◌then◌else◌, Bool, true, false, MatchOption, slice_index}
use Rattle.std.specs.Option.{option_map_or}
use Rattle.street_base.specs.declared.net.NetSpec.{NetSpec}
use Rattle.street_base.specs.Prelude.{link_at, serves, Fault, plan_fault, is_bad_entry, entry_of}
use Rattle.street_net.specs.declared.faults.NetFault.{NetFault}
use Rattle.street_net.specs.declared.faults.NetFault.TheVariants.{Bad as BadLoad, Starved as StarvedLoad}
use Rattle.street_net.specs.declared.faults.PlanFault.{PlanFault}
use Rattle.street_net.specs.declared.faults.PlanFault.TheVariants.{Bad as BadPlan, Lane, Starved as StarvedPlan}
use Rattle.std.specs.List.{list_any, range_with_len}

-- that the fault told of a load, by part and position, is the load's first fault; or that it is lack of memory, which
-- says nothing of the load
abbrev pub TellsFault : Option Fault → NetFault → Type 0
TellsFault first (BadLoad part at) = first ≡ Some (record { part = part; at = at })
TellsFault first StarvedLoad = Unit {0}

-- ---- plans

-- whether some lane of the link at a position has a turn to the next link, both named by position
abbrev pub has_turn : NetSpec → ℕ → ℕ → Bool
has_turn net link next = list_any (λ lane. serves net (record { link = link; lane = lane }) next) (range_with_len 0 (link_at net link).lanes)

-- that the entry at position `at` of a plan is good where looking it up found a link, and bad where it found none: past
-- the most links, no link, or one to which the entry before does not lead; which link was found is not said
abbrev pub TellsEntry : NetSpec → List ℕ → ℕ → Option ℕ → Type 0
TellsEntry net plan at found =
    let is_bad = is_bad_entry net plan at (slice_index plan at) in
    MatchOption found (is_bad ≡ true) (λ link. is_bad ≡ false)

-- how many lanes the first link of a vehicle's plan has; identifiers of no link are passed over, and where the plan has
-- no link the network's first stands in; `lane` does not matter
abbrev pub entry_lanes : NetSpec → List ℕ → ℕ → ℕ
entry_lanes net plan lane = (link_at net (entry_of net plan lane).link).lanes

-- why a plan without bad entries is refused: its first link has no lane of this number; none where it has
abbrev pub lane_refusal : NetSpec → List ℕ → ℕ → Option PlanFault
lane_refusal net plan lane = if nat_le (entry_lanes net plan lane) lane then Some Lane else None

-- why a vehicle's plan and lane are refused: the position of the plan's first bad entry (0 for an empty plan), or else
-- that its first link has no such lane; none where they are good
abbrev pub plan_refusal : NetSpec → List ℕ → ℕ → Option PlanFault
plan_refusal net plan lane = option_map_or (λ at. Some (BadPlan at)) (plan_fault net plan) (lane_refusal net plan lane)

-- that the refusal told of a plan (its bad entry, or no such lane) is the reason why it is refused; or, where there is
-- no reason, that it is lack of memory
abbrev pub TellsRefusal : Option PlanFault → PlanFault → Type 0
TellsRefusal reason StarvedPlan = reason ≡ None
TellsRefusal reason (BadPlan at) = reason ≡ Some (BadPlan at)
TellsRefusal reason Lane = reason ≡ Some Lane
