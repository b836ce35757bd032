-- How a signal plan is kept, and what it shows.
use Rattle.std.specs.Prelude.{◌≡◌, ℕ, ◌+◌, ◌*◌, ◌-◌, ◌%◌, ◌<◌, nat_lt, List, [], ◌∷◌, map, Bool, false, Option, Some, None, slice_index_or}
use Rattle.std.specs.Prelude.{if◌then◌else◌, length, All}
use Rattle.std.specs.Int.{bit_at}
use Rattle.std.specs.declared.cmp.Ordering.{Ordering}
use Rattle.std.specs.Ordering.{nat_cmp, is_lt, then_cmp, on}
use Rattle.std.specs.List.Sorted.{IsPermutation, IsSortedBy}
use Rattle.street_base.specs.declared.net.NetSpec.{NetSpec}
use Rattle.street_base.specs.declared.names.Place.{Place}
use Rattle.street_base.specs.Prelude.{Green, Phase, SignalPlan, cycle, lists, is_green, phase_of_spec}
use Rattle.street_node.specs.declared.phase.GreenTurn.{GreenTurn}
use Rattle.street_node.specs.declared.faults.SignalFault.{SignalFault}
use Rattle.street_node.specs.declared.faults.SignalFault.TheVariants.{Bad, Starved}
use Rattle.street_base.specs.declared.command.PhaseSpec.{PhaseSpec}

-- the order of two green turns: by link, then by lane, then by next link
abbrev pub turn_cmp : GreenTurn → GreenTurn → Ordering
turn_cmp = then_cmp (on (λ t. t.link) nat_cmp) (then_cmp (on (λ t. t.lane) nat_cmp) (on (λ t. t.next) nat_cmp))

-- a green turn as one number, which gives the same order as `turn_cmp` (link, lane, next link) where lanes have 8 bits
-- and links 16
abbrev pub turn_rank : GreenTurn → ℕ
turn_rank t = t.link * 16777216 + t.lane * 65536 + t.next

-- that green turns stand in the order of link, then lane, then next link; equal ones may stand beside each other
abbrev pub IsInOrder : List GreenTurn → Type 0
IsInOrder turns = IsSortedBy (λ a b. is_lt (turn_cmp a b)) turns

-- the bit, 0 to 63, that stands for a link among the marks of a phase; links 64 apart share one
abbrev pub mark_of : ℕ → ℕ
mark_of link = link % 64

-- that for each of these green turns the bit of its link, link % 64, is set among the marks; other bits may be set too
abbrev pub HasMarks : ℕ → List GreenTurn → Type 0
HasMarks marks turns = All (λ t. bit_at marks (mark_of t.link) ≡ 1) turns

-- that the green turns kept of a phase are in the order of link, lane and next link, and that the bit of each one's
-- link (link % 64) is set among the marks; other bits may be set too
pub record AreKeptGreens (marks : ℕ) (turns : List GreenTurn) : Type 0 where
  pub ordered : IsInOrder turns
  pub marked : HasMarks marks turns

-- the green turn of the definitions that one of the code stands for: the same link, lane and next link
abbrev pub green_seen : GreenTurn → Green
green_seen t = record { link = t.link; lane = t.lane; next = t.next }

-- the phase of the definitions that a duration and the green turns of the code stand for, turn by turn
abbrev pub phase_seen : ℕ → List GreenTurn → Phase
phase_seen duration turns = record { duration = duration; greens = map green_seen turns }

-- the signal plan of the definitions that an offset and phases stand for: these two put together
abbrev pub plan_seen : ℕ → List Phase → SignalPlan
plan_seen offset phases = record { offset = offset; phases = phases }

-- that the number kept is the cycle of these phases (the sum of their durations), and that the offset is below it
pub record IsCycle (offset kept : ℕ) (phases : List Phase) : Type 0 where
  pub cycle_is : kept ≡ cycle (plan_seen offset phases)
  pub within : offset < kept

-- that a phase lasts as long as another and has the same green turns, in whatever order
pub record IsSamePhase (phase other : Phase) : Type 0 where
  pub duration : phase.duration ≡ other.duration
  pub greens : IsPermutation other.greens phase.greens

-- that these phases are, one by one, those of the command: each lasts as long and has the same green turns in whatever
-- order, links named by position in place of identifier; phases behind them, if any, do not matter
abbrev pub AreSamePhases : NetSpec → List PhaseSpec → List Phase → Type 0
AreSamePhases net told phases =
    (k : ℕ) (d : Phase) (e : PhaseSpec) → k < length told → IsSamePhase (slice_index_or phases k d) (phase_of_spec net (slice_index_or told k e))

-- that two signal plans show the same turns green in every step and have cycles of the same length
pub record ShowsAs (plan other : SignalPlan) : Type 0 where
  pub cycle_is : cycle plan ≡ cycle other
  pub green_is : (place : Place) (next step : ℕ) → is_green (Some plan) place next step ≡ is_green (Some other) place next step

-- whether a turn from the lane at `place` to `next` is green at a time from the start of these phases, by the phase in
-- whose duration that time falls; no past the last phase
abbrev pub shown : Place → ℕ → List Phase → ℕ → Bool
shown place next [] time = false
shown place next (phase ∷ phases) time = if nat_lt time phase.duration then lists phase place next else shown place next phases (time - phase.duration)

-- the identifier of the node at a position; 0 past the last node
abbrev pub node_id : NetSpec → ℕ → ℕ
node_id net node = (slice_index_or net.nodes node (record { id = 0; residence = 0; capacity = 0 })).id

-- that the fault told of a signal plan is at the position of its first fault; or that it is lack of memory, which is
-- told only where the plan has no fault
abbrev pub TellsSignalFault : Option ℕ → SignalFault → Type 0
TellsSignalFault first (Bad at) = first ≡ Some at
TellsSignalFault first Starved = first ≡ None
