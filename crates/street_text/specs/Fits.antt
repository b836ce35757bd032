-- Commands of numbers of 64 bits.
use Rattle.std.specs.Prelude.{ℕ, ◌<◌, ◌^◌, All}
use Rattle.street_base.specs.declared.command.Command.{Command}
use Rattle.street_base.specs.declared.command.Command.TheVariants.{Load, Enter, Signal, Advance, CloseLane, ReopenLane, TakeOut, PlaceMeter, ReadMeter, Vehicle, Lane, Count}
use Rattle.street_base.specs.declared.command.GreenSpec.{GreenSpec}
use Rattle.street_base.specs.declared.command.PhaseSpec.{PhaseSpec}
use Rattle.street_base.specs.declared.net.NodeSpec.{NodeSpec}
use Rattle.street_base.specs.declared.net.LinkSpec.{LinkSpec}
use Rattle.street_base.specs.declared.net.TurnSpec.{TurnSpec}

-- that a number is below 2^64
abbrev pub IsWord : ℕ → Type 0
IsWord n = n < 2 ^ 64

-- that each number of a node (identifier, residence, capacity) is below 2^64
abbrev pub NodeFits : NodeSpec → Type 0
NodeFits n = IsWord n.id × IsWord n.residence × IsWord n.capacity

-- that each number of a link (identifier, from, to, lanes, length, limit) is below 2^64
abbrev pub LinkFits : LinkSpec → Type 0
LinkFits l = IsWord l.id × IsWord l.from × IsWord l.to × IsWord l.lanes × IsWord l.length × IsWord l.limit

-- that each number of a turn (link, lane, next link, next lane) is below 2^64
abbrev pub TurnFits : TurnSpec → Type 0
TurnFits t = IsWord t.link × IsWord t.lane × IsWord t.next × IsWord t.next_lane

-- that each number of a green turn (link, lane, next link) is below 2^64
abbrev pub GreenFits : GreenSpec → Type 0
GreenFits g = IsWord g.link × IsWord g.lane × IsWord g.next

-- that a phase's duration and each number of its green turns are below 2^64
abbrev pub PhaseFits : PhaseSpec → Type 0
PhaseFits p = IsWord p.duration × All GreenFits p.greens

-- that each number of a command, also in its lists, is below 2^64, as the numbers of lines must be; true of `count`,
-- which has none
abbrev pub Fits : Command → Type 0
Fits (Load net) =
    All NodeFits net.nodes × All LinkFits net.links × All TurnFits net.turns
    × IsWord net.zone × IsWord net.dawdle × IsWord net.change × IsWord net.seed × IsWord net.start
Fits (Enter plan lane depart size) = All IsWord plan × IsWord lane × IsWord depart × IsWord size
Fits (Signal node offset phases) = IsWord node × IsWord offset × All PhaseFits phases
Fits (Advance steps) = IsWord steps
Fits (CloseLane link lane first last) = IsWord link × IsWord lane × IsWord first × IsWord last
Fits (ReopenLane link lane first last) = IsWord link × IsWord lane × IsWord first × IsWord last
Fits (TakeOut car) = IsWord car
Fits (PlaceMeter link lane cell period) = IsWord link × IsWord lane × IsWord cell × IsWord period
Fits (ReadMeter meter) = IsWord meter
Fits (Vehicle car) = IsWord car
Fits (Lane link lane) = IsWord link × IsWord lane
Fits Count = Unit {0}
