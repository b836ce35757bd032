-- Signal plans set.
use Rattle.std.proofs.Common.{◌≡◌, ℕ, List, [], ◌∷◌, refl, sym, ◌∙◌, ap, subst, Option, Some, None, is_some, unwrap_or, not, ◌==◌}
use Rattle.std.proofs.lemmas.Bool.{eqb-true}
use Rattle.std.proofs.lemmas.List.Quantifiers.{position-Some}
use Rattle.street_base.specs.declared.net.NetSpec.{NetSpec}
use Rattle.street_base.specs.declared.net.NodeSpec.{NodeSpec}
use Rattle.street_base.specs.declared.command.PhaseSpec.{PhaseSpec}
use Rattle.street_base.specs.declared.command.Command.TheVariants.{Signal}
use Rattle.street_base.specs.declared.refusal.Refusal.{Refusal}
use Rattle.street_base.specs.declared.refusal.Refusal.TheVariants.{NoNode, BadSignal}
use Rattle.street_base.specs.declared.reply.Reply.TheVariants.{Signalled, Refused, Starved as StarvedReply}
use Rattle.street_base.specs.declared.reply.Outcome.TheVariants.{Whole, Starved}
use Rattle.street_base.specs.Prelude.{node_of, signal_fault, SignalPlan, cycle, Traffic, plan_of, signalled, first_of, signal_refusal, MayStarveUnder}
use Rattle.street_node.specs.Prelude.{ShowsAs, node_id}
use Rattle.street_engine.specs.Prelude.{StreetsView, StreetsStandFor, StreetsGo, Serves}
use Rattle.street_engine.proofs.Serves.{same-network, streets-refused, streets-starving, streets-done}

-- the node at the position of an identifier has it
same-node : (net : NetSpec) (node position : ℕ) → node_of net node ≡ Some position → node_id net position ≡ node
same-node net node position e = eqb-true _ _ (position-Some (λ (n : NodeSpec). n.id == node) net.nodes position (record { id = 0; residence = 0; capacity = 0 }) e).1

-- the refusal by what is found and what is wrong
judged : Option ℕ → Option ℕ → Option Refusal
judged found fault = first_of ((not (is_some found), NoNode) ∷ (is_some fault, BadSignal (unwrap_or fault 0)) ∷ [])

module _ (s : StreetsView) (node offset : ℕ) (phases : List PhaseSpec) where
  refusal-as : (found fault : Option ℕ) → node_of s.tiles.network node ≡ found → signal_fault s.tiles.network node offset phases ≡ fault → (m : Traffic) → StreetsStandFor s m → signal_refusal node offset phases m ≡ judged found fault
  unfolding judged
  refusal-as found fault a b m stands =
      ap (λ (net : NetSpec). judged (node_of net node) (signal_fault net node offset phases)) (same-network s m stands)
      ∙ ap (λ (o : Option ℕ). judged o (signal_fault s.tiles.network node offset phases)) a
      ∙ ap (λ (o : Option ℕ). judged found o) b

  pub no-node : node_of s.tiles.network node ≡ None → Serves (Some s) (Signal node offset phases) (Refused NoNode) Whole (Some s)
  unfolding judged
  no-node none = streets-refused s (Signal node offset phases) NoNode (refusal-as None (signal_fault s.tiles.network node offset phases) none refl)

  module _ (position : ℕ) (found : node_of s.tiles.network node ≡ Some position) where
    fault-as : signal_fault s.tiles.network (node_id s.tiles.network position) offset phases ≡ signal_fault s.tiles.network node offset phases
    fault-as = ap (λ n. signal_fault s.tiles.network n offset phases) (same-node s.tiles.network node position found)

    pub bad-signal : (at : ℕ) → signal_fault s.tiles.network (node_id s.tiles.network position) offset phases ≡ Some at → Serves (Some s) (Signal node offset phases) (Refused (BadSignal at)) Whole (Some s)
    unfolding judged
    bad-signal at fault = streets-refused s (Signal node offset phases) (BadSignal at) (refusal-as (Some position) (Some at) found (sym fault-as ∙ fault))

    module _ (faultless : signal_fault s.tiles.network (node_id s.tiles.network position) offset phases ≡ None) where
      accepted : (m : Traffic) → StreetsStandFor s m → signal_refusal node offset phases m ≡ None
      unfolding judged
      accepted = refusal-as (Some position) None found (sym fault-as ∙ faultless)

      pub signal-starved : Serves (Some s) (Signal node offset phases) StarvedReply Starved (Some s)
      signal-starved = streets-starving s (Signal node offset phases) (λ m stands. subst MayStarveUnder (sym (accepted m stands)) tt)

      pub signal-done : (t : StreetsView) (plan : SignalPlan) (told : ℕ) → told ≡ cycle plan → ShowsAs plan (plan_of s.tiles.network offset phases) → ((id : ℕ) (other : SignalPlan) → node_of s.tiles.network id ≡ Some position → ShowsAs plan other → StreetsGo (λ m. signalled m id other) s t) → Serves (Some s) (Signal node offset phases) (Signalled told) Whole (Some t)
      signal-done t plan told told_is shows goes = streets-done s (Signal node offset phases) t (Signalled told) (λ m. signalled m node (plan_of m.network offset phases)) (λ m. refl)
          (λ m stands. subst (λ (net : NetSpec). StreetsStandFor t (signalled m node (plan_of net offset phases))) (sym (same-network s m stands)) (goes node (plan_of s.tiles.network offset phases) found shows m stands))
          (λ m stands. (accepted m stands, ap (λ n. Signalled n) (told_is ∙ shows.cycle_is ∙ ap (λ (net : NetSpec). cycle (plan_of net offset phases)) (sym (same-network s m stands)))))
