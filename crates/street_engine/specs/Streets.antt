-- What contracts see of the traffic on a loaded network, and when it stands for traffic of the machine.
use Rattle.std.specs.Prelude.{ℕ, ◌≡◌, ◌≤◌, List, [], length, Option, Some}
use Rattle.street_base.specs.declared.reply.End.{End}
use Rattle.street_base.specs.Prelude.{last_clock, node_of, SignalPlan, signalled, entered, plan_links, Traffic, IsSoundTraffic}
use Rattle.street_node.specs.Prelude.{ShowsAs}
use Rattle.street_tile.specs.Prelude.{TilesView, TilesStandFor, NobodyArrived, no_network}
use Rattle.street_engine.specs.declared.sites.DetectorSite.{DetectorSite}
use Rattle.street_engine.specs.Sites.{AreDetectorSites}

-- what contracts see of the traffic on a loaded network: its tiles with the network, for each detector its lane and
-- number there (`sites`), the clock, and by vehicle number how each has ended, if it has
pub record StreetsView : Type 0 where
  pub tiles : TilesView
  pub sites : List DetectorSite
  pub clock : ℕ
  pub ends : List (Option End)

-- the streets that are made of these tiles, detectors' sites, clock and ends
abbrev pub streets_of : TilesView → List DetectorSite → ℕ → List (Option End) → StreetsView
streets_of tiles sites clock ends = record { tiles = tiles; sites = sites; clock = clock; ends = ends }

-- the streets of no network, with no tiles, sites or ends and clock 0, for a contract or a default that must have some
-- streets
abbrev pub no_streets : StreetsView
no_streets = record { tiles = record { network = no_network; tiles = [] }; sites = []; clock = 0; ends = [] }

-- that streets x stand for traffic m, which is sound: clock and ends are the same, tiles and meters stand for lanes and
-- detectors, there are as many entries of signal plans as nodes, and the sites name the detectors
pub record IsTrafficOf (x : StreetsView) (m : Traffic) : Type 0 where
  pub clock : x.clock ≡ m.clock
  pub ends : x.ends ≡ m.ends
  pub tiles : TilesStandFor x.tiles m
  pub sound : IsSoundTraffic m
  pub signals : length m.signals ≡ length x.tiles.network.nodes
  pub sites : AreDetectorSites x.tiles.network x.sites m.detectors

-- that streets x stand for traffic m of the machine, which is sound: the same clock and ends, and tiles, meters and
-- sites that stand for it (`IsTrafficOf`, which a proof has to unfold)
unfoldable pub StreetsStandFor : StreetsView → Traffic → Type 0
StreetsStandFor x m = IsTrafficOf x m

-- that, whatever traffic the streets x stood for, the streets y stand for f of it; so always where x stood for none
abbrev pub StreetsGo : (Traffic → Traffic) → StreetsView → StreetsView → Type 0
StreetsGo f x y = (m : Traffic) → StreetsStandFor x m → StreetsStandFor y (f m)

-- that, whatever traffic the streets x stood for, the streets y stand for it with one more vehicle of this depart and
-- size, who waits on `lane` of its plan's first link; `plan` has positions of links, and nothing is said where no
-- identifiers name these
abbrev pub StreetsAdmit : List ℕ → ℕ → ℕ → ℕ → StreetsView → StreetsView → Type 0
StreetsAdmit plan lane depart size x y = (ids : List ℕ) → plan ≡ plan_links x.tiles.network ids
    → StreetsGo (λ m. entered m ids lane depart size) x y

-- that, whatever traffic the streets x stood for, the streets y stand for it with any signal plan of the same greens
-- and cycle as `plan` at the node at position `node`, in place of its plan; nothing is said where no identifier names
-- the node
abbrev pub StreetsSignal : ℕ → SignalPlan → StreetsView → StreetsView → Type 0
StreetsSignal node plan x y = (id : ℕ) (other : SignalPlan) → node_of x.tiles.network id ≡ Some node → ShowsAs plan other
    → StreetsGo (λ m. signalled m id other) x y

-- that streets are as a command leaves them: no number of one who arrived is still to be noted, the clock is at most
-- the last, and there is traffic, which is sound, for which they stand (`IsTrafficOf`)
pub record IsKept (x : StreetsView) : Type 0 where
  pub nobody : NobodyArrived x.tiles
  pub in_time : x.clock ≤ last_clock
  pub some : (m : Traffic) × IsTrafficOf x m
