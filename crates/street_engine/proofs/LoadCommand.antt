-- Loads, and what is refused before the first.
use Rattle.std.proofs.Common.{◌≡◌, ℕ, length, refl, ap, Option, Some, None}
use Rattle.street_base.specs.declared.net.NetSpec.{NetSpec}
use Rattle.street_base.specs.declared.command.Command.{Command}
use Rattle.street_base.specs.declared.command.Command.TheVariants.{Load, Signal, Enter, Advance, CloseLane, ReopenLane, TakeOut, PlaceMeter, ReadMeter, Vehicle as AskVehicle, Lane as AskLane, Count}
use Rattle.street_base.specs.declared.refusal.Part.{Part}
use Rattle.street_base.specs.declared.refusal.Refusal.TheVariants.{NotLoaded, BadNetwork}
use Rattle.street_base.specs.declared.reply.Reply.TheVariants.{Loaded, Refused, Starved as StarvedReply}
use Rattle.street_base.specs.declared.reply.Outcome.TheVariants.{Whole, Starved}
use Rattle.street_base.specs.Prelude.{Fault, network_fault, bad_network, loaded, refusal, done, answered, MayStarve, MayStarveUnder}
use Rattle.street_engine.specs.Prelude.{StreetsView, StreetsStandFor, StandsFor, Serves}
use Rattle.street_engine.proofs.Serves.{serves-refused, serves-starved, serves-done, at-none, some-stands}

-- a load takes memory while it checks
may-starve : (o : Option Fault) → MayStarveUnder (bad_network o)
may-starve None = tt
may-starve (Some fault) = tt

module _ (net : NetSpec) where
  pub load-done : (s : StreetsView) (links nodes turns : ℕ) → links ≡ length net.links → nodes ≡ length net.nodes → turns ≡ length net.turns → network_fault net ≡ None → StreetsStandFor s (loaded net) → Serves None (Load net) (Loaded links nodes turns) Whole (Some s)
  load-done s links nodes turns a b d faultless stands = serves-done None (Load net) _ (Some s) (at-none
      (λ m. (refusal m (Load net) ≡ None) × (Loaded links nodes turns ≡ answered m (Load net)) × StandsFor (Some s) (done m (Load net)))
      (ap bad_network faultless, rw (a, b, d) refl, some-stands s (loaded net) stands))

  pub load-refused : (part : Part) (at : ℕ) → network_fault net ≡ Some (record { part = part; at = at }) → Serves None (Load net) (Refused (BadNetwork part at)) Whole None
  load-refused part at fault = serves-refused None (Load net) (BadNetwork part at) (at-none (λ m. refusal m (Load net) ≡ Some (BadNetwork part at)) (ap bad_network fault))

  pub load-starved : Serves None (Load net) StarvedReply Starved None
  load-starved = serves-starved None (Load net) None (at-none (λ m. MayStarve m (Load net)) (may-starve (network_fault net))) (λ m stands. stands)

-- ---- nothing loaded

-- every command but a load is refused
refused-unloaded : (c : Command) → ((net : NetSpec) → c ≡ Load net → ⊥) → refusal None c ≡ Some NotLoaded
refused-unloaded (Load net) h = absurd (h net refl)
refused-unloaded (Signal node offset phases) h = refl
refused-unloaded (Enter plan lane depart size) h = refl
refused-unloaded (Advance steps) h = refl
refused-unloaded (CloseLane link lane first last) h = refl
refused-unloaded (ReopenLane link lane first last) h = refl
refused-unloaded (TakeOut car) h = refl
refused-unloaded (PlaceMeter link lane cell period) h = refl
refused-unloaded (ReadMeter meter) h = refl
refused-unloaded (AskVehicle car) h = refl
refused-unloaded (AskLane link lane) h = refl
refused-unloaded Count h = refl

pub not-loaded : (c : Command) → ((net : NetSpec) → c ≡ Load net → ⊥) → Serves None c (Refused NotLoaded) Whole None
not-loaded c h = serves-refused None c NotLoaded (at-none (λ m. refusal m c ≡ Some NotLoaded) (refused-unloaded c h))
