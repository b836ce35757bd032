-- What is told of steps: the traffic before each of them, one after another.
use Rattle.std.specs.Prelude.{◌≡◌, ℕ, zero, suc, List, [], ◌∷◌, Some, None}
use Rattle.std.specs.List.{FoldsTo}
use Rattle.street_base.specs.declared.command.Command.{Command}
use Rattle.street_base.specs.declared.command.Command.TheVariants.{Advance}
use Rattle.street_base.specs.declared.reply.Reply.{Reply}
use Rattle.street_base.specs.declared.reply.Reply.TheVariants.{Clock, Short as ShortReply}
use Rattle.street_base.specs.Prelude.{IsSoundTraffic, State, Traffic, blocks, step}
use Rattle.street_tile.specs.Prelude.{HaveStepped}
use Rattle.street_engine.specs.Streets.{StreetsView, StreetsStandFor}
use Rattle.street_engine.specs.Refines.{EngineView, StandsFor}

-- that the streets have just made the step from traffic m, which was sound (`IsSoundTraffic`): they stand for the next state,
-- and each tile holds the rows of those who arrived from its lanes
pub record HasStepped (x : StreetsView) (m : Traffic) : Type 0 where
  pub stands : StreetsStandFor x (step m)
  pub tiles : HaveStepped x.tiles m
  pub sound : IsSoundTraffic m

-- the traffic before each of n steps from m, in their order, m first; none where n is 0
abbrev pub befores : ℕ → Traffic → List Traffic
befores zero m = []
befores (suc n) m = m ∷ befores n (step m)

-- the count of steps that an advance of n steps made, by its reply: n where it is a clock, the count that it tells
-- where it tells of a stop short, 0 of any other reply (a refusal, starved)
abbrev pub advanced : ℕ → Reply → ℕ
advanced n (Clock clock) = n
advanced n (ShortReply clock made) = made
advanced n reply = 0

-- the count of steps that a command made, by its reply: for an advance all where that is a clock, as many as it tells
-- where it tells of a stop short, else 0; 0 for any other command
abbrev pub steps_made : Command → Reply → ℕ
steps_made (Advance n) reply = advanced n reply
steps_made command reply = 0

-- the traffic before each step that a command made from this state, by its reply, in order; none where nothing is
-- loaded or no step was made
abbrev pub befores_in : State → Command → Reply → List Traffic
befores_in None command reply = []
befores_in (Some m) command reply = befores (steps_made command reply) m

-- the bytes that a command adds to the record of a run: a block for each step that it made from this state, by its
-- reply, in order; none where nothing is loaded or no step was made
abbrev pub recorded_in : State → Command → Reply → List ℕ
recorded_in None command reply = []
recorded_in (Some m) command reply = blocks (steps_made command reply) m

-- that the sink went from `old` to `new` by being told of each of `made` steps from the streets' traffic, in order, and
-- of nothing else, whatever traffic that was; `notes` is what telling it of one step does
abbrev pub ToldOf : {K : Type 0} → (K → Traffic → K → Type 0) → StreetsView → ℕ → K → K → Type 0
ToldOf notes x made old new = (m : Traffic) → StreetsStandFor x m → FoldsTo notes old (befores made m) new

-- that the sink went from `old` to `new` by being told of each step that the command made, by its reply, in order, and
-- of nothing else, whatever state the engine x stood for before; `notes` is what telling it of one step does
abbrev pub ToldSteps : {K : Type 0} → (K → Traffic → K → Type 0) → EngineView → Command → Reply → K → K → Type 0
ToldSteps notes x command reply old new = (m : State) → StandsFor x m → FoldsTo notes old (befores_in m command reply) new

-- that the sink is as it was where the command made no step, by its reply; nothing is said where it made one
abbrev pub KeepsSink : {K : Type 0} → Command → Reply → K → K → Type 0
KeepsSink command reply old new = steps_made command reply ≡ 0 → new ≡ old
