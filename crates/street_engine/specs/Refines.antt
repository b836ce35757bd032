-- What an engine stands for, and what it owes at each command.
use Rattle.std.specs.Prelude.{◌≡◌, ℕ, List, ◌++◌, length, Bool, true, false, Option, Some, None}
use Rattle.street_base.specs.declared.command.Command.{Command}
use Rattle.street_base.specs.declared.command.Command.TheVariants.{CloseLane, ReopenLane}
use Rattle.street_base.specs.declared.refusal.Refusal.{Refusal}
use Rattle.street_base.specs.declared.reply.Reply.{Reply}
use Rattle.street_base.specs.declared.reply.Reply.TheVariants.{Refused}
use Rattle.street_base.specs.declared.reply.Outcome.{Outcome}
use Rattle.street_base.specs.declared.net.NetSpec.{NetSpec}
use Rattle.street_base.specs.Prelude.{first_of, lane_tests, enter_refusal, State, Traffic, Answers, Runs}
use Rattle.street_engine.specs.Streets.{StreetsView, StreetsStandFor}

-- what contracts see of an engine: its streets; none where no network is loaded
abbrev pub EngineView : Type 0
EngineView = Option StreetsView

-- that an engine stands for a state of the machine: neither has a network loaded, or both have and the engine's streets
-- stand for the state's traffic (`StreetsStandFor`)
unfoldable pub StandsFor : EngineView → State → Type 0
StandsFor None None = Unit {0}
StandsFor None (Some m) = ⊥
StandsFor (Some x) None = ⊥
StandsFor (Some x) (Some m) = StreetsStandFor x m

-- that a command was served: for any state for which the engine stood before, the machine allows the outcome, the reply
-- is the machine's (`Answers`), and the engine stands for the machine's state after it
abbrev pub Serves : EngineView → Command → Reply → Outcome → EngineView → Type 0
Serves before command reply outcome after = (old : State) → StandsFor before old → (new : State) × Answers old command reply outcome new × StandsFor after new

-- that the engine is as it was where the reply is a refusal; nothing is said of any other reply
abbrev pub KeepsRefused : EngineView → Reply → EngineView → Type 0
KeepsRefused before reply after = (refusal : Refusal) → reply ≡ Refused refusal → after ≡ before

-- that the network has a link with identifier `link`, and it a lane with number `lane`: the tests of them refuse
-- nothing in any of its traffic, so that those of a command come to what the further tests `rest` say
abbrev pub PassesLane : NetSpec → ℕ → ℕ → Type 0
PassesLane net link lane = (m : Traffic) (rest : List (Bool × Refusal)) → m.network ≡ net
    → first_of (lane_tests link lane m ++ rest) ≡ first_of rest

-- that the tests of the link with identifier `link` and its lane with number `lane` refuse with `refusal` in all
-- traffic of this network, whatever further tests `rest` follow
abbrev pub RefusesLane : NetSpec → ℕ → ℕ → Refusal → Type 0
RefusesLane net link lane refusal = (m : Traffic) (rest : List (Bool × Refusal)) → m.network ≡ net
    → first_of (lane_tests link lane m ++ rest) ≡ Some refusal

-- that `refusal` is what the machine refuses an `enter` of this plan of links' identifiers, lane, depart and size with,
-- none where it does not, in all traffic of the streets' network with as many numbers given to vehicles
abbrev pub TellsEntry : StreetsView → List ℕ → ℕ → ℕ → ℕ → Option Refusal → Type 0
TellsEntry s plan lane depart size refusal = (m : Traffic) → m.network ≡ s.tiles.network → length m.ends ≡ length s.ends
    → refusal ≡ enter_refusal plan lane depart size m

-- the command for the cells `first` to `last` of a lane, named by its link's identifier and its number: to close them
-- where the truth value is true, else to open them again
abbrev pub closing : Bool → ℕ → ℕ → ℕ → ℕ → Command
closing true link lane first last = CloseLane link lane first last
closing false link lane first last = ReopenLane link lane first last

-- that a list of commands was served, one after another, with these replies and outcomes: for any state for which the
-- engine stood, they are a run of the machine, and the engine stands for the state after it
abbrev pub ServesAll : EngineView → List Command → List (Reply × Outcome) → EngineView → Type 0
ServesAll before commands replies after = (old : State) → StandsFor before old → (new : State) × Runs old commands replies new × StandsFor after new
