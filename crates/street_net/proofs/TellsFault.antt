-- A load's first fault, part by part.
use Rattle.std.proofs.Common.{◌≡◌, ◌∙◌, refl, sym, ap, subst, Option, Some, None}
use Rattle.street_base.specs.declared.net.NetSpec.{NetSpec}
use Rattle.street_base.specs.declared.refusal.Part.TheVariants.{Nodes, Links, Turns, Values}
use Rattle.street_base.specs.Prelude.{Fault, in_part, nodes_fault, links_fault, turns_fault, values_fault, network_fault}
use Rattle.street_net.specs.declared.faults.NetFault.{NetFault}
use Rattle.street_net.specs.declared.faults.NetFault.TheVariants.{Bad, Starved}
use Rattle.street_net.specs.Prelude.{TellsFault}

-- what tells the first fault of a part tells that of parts of which it is the first
first-of : (part all : Option Fault) (e : NetFault) → ((fault : Fault) → part ≡ Some fault → all ≡ Some fault) → TellsFault part e → TellsFault all e
first-of part all (Bad p at) h t = h (record { part = p; at = at }) t
first-of part all Starved h t = tt

module _ (net : NetSpec) where
  pub tells-nodes : (e : NetFault) → TellsFault (in_part Nodes (nodes_fault net)) e → TellsFault (network_fault net) e
  unfolding network_fault
  tells-nodes e t = first-of (in_part Nodes (nodes_fault net)) _ e (λ fault h. rw h refl) t

  module _ (nodes : nodes_fault net ≡ None) where
    pub tells-links : (e : NetFault) → TellsFault (in_part Links (links_fault net)) e → TellsFault (network_fault net) e
    unfolding network_fault
    tells-links e t = first-of (in_part Links (links_fault net)) _ e (λ fault h. rw (nodes, h) refl) t

    module _ (links : links_fault net ≡ None) where
      pub tells-turns : (e : NetFault) → TellsFault (in_part Turns (turns_fault net)) e → TellsFault (network_fault net) e
      unfolding network_fault
      tells-turns e t = first-of (in_part Turns (turns_fault net)) _ e (λ fault h. rw (nodes, links, h) refl) t

      -- with no fault in the three lists, the first fault is that of the values
      values-tell : turns_fault net ≡ None → network_fault net ≡ in_part Values (values_fault net)
      unfolding network_fault
      values-tell turns = rw (nodes, links, turns) refl

      pub tells-values : turns_fault net ≡ None → (e : NetFault) → TellsFault (in_part Values (values_fault net)) e → TellsFault (network_fault net) e
      tells-values turns e t = subst (λ first. TellsFault first e) (sym (values-tell turns)) t

      pub nothing-told : turns_fault net ≡ None → values_fault net ≡ None → network_fault net ≡ None
      nothing-told turns values = values-tell turns ∙ ap (in_part Values) values
