-- The value of a command has no float, and is no deeper than the parser reads.
use Rattle.std.proofs.Common.{◌≡◌, ℕ, ◌≤◌, ◌==◌, List, [], ◌∷◌, false, refl, inl, inr, arith}
use Rattle.std.proofs.lemmas.Bool.{cases_Bool}
use Rattle.serde_json.specs.Data.{Data, depth, items_depth}
use Rattle.serde_json.specs.Read.{max_depth}
use Rattle.serde_json.specs.Written.{has_float, items_have_float}
use Rattle.street_base.specs.declared.command.Command.{Command}
use Rattle.street_base.specs.declared.command.Command.TheVariants.{Load, Enter, Signal, Advance, CloseLane, ReopenLane, TakeOut, PlaceMeter, ReadMeter, Vehicle, Lane, Count}
use Rattle.street_base.specs.declared.command.PhaseSpec.{PhaseSpec}
use Rattle.street_text.specs.CommandTexts.{command_data}
use Rattle.street_text.specs.ReplyLines.{items_from, number_data, node_data, link_data, turn_data, green_data, phase_data}

-- ---- it has no float

whole_list : {T : Type 0} (one : T → Data) → ((x : T) → has_float (one x) ≡ false) → (xs : List T) → items_have_float (items_from one xs) ≡ false
whole_list one whole [] = refl
whole_list one whole (x ∷ xs) = rw (whole x) (whole_list one whole xs)

whole_phase : (p : PhaseSpec) → has_float (phase_data p) ≡ false
whole_phase p = rw (whole_list green_data (λ g. refl) p.greens) refl

pub whole_command : (c : Command) → has_float (command_data c) ≡ false
whole_command (Load net) = rw (whole_list link_data (λ l. refl) net.links, whole_list node_data (λ n. refl) net.nodes, whole_list turn_data (λ t. refl) net.turns) refl
whole_command (Enter plan lane depart size) = elim (cases_Bool (size == 1)) as (λ _. has_float (command_data (Enter plan lane depart size)) ≡ false) [
  | inl one ↦ rw (one, whole_list number_data (λ n. refl) plan) refl
  | inr other ↦ rw (other, whole_list number_data (λ n. refl) plan) refl
]
whole_command (Signal node offset phases) = rw (whole_list phase_data whole_phase phases) refl
whole_command (Advance steps) = refl
whole_command (CloseLane link lane first last) = refl
whole_command (ReopenLane link lane first last) = refl
whole_command (TakeOut car) = refl
whole_command (PlaceMeter link lane cell period) = refl
whole_command (ReadMeter meter) = refl
whole_command (Vehicle car) = refl
whole_command (Lane link lane) = refl
whole_command Count = refl

-- ---- it is no deeper than the parser reads

list_depth : {T : Type 0} (one : T → Data) (n : ℕ) → ((x : T) → depth (one x) ≤ n) → (xs : List T) → items_depth (items_from one xs) ≤ n
list_depth one n each [] = omega arith
list_depth one n each (x ∷ xs) = let first = each x in let rest = list_depth one n each xs in omega arith

phase_depth : (p : PhaseSpec) → depth (phase_data p) ≤ 3
phase_depth p = let greens = list_depth green_data 1 (λ g. omega arith) p.greens in omega arith

pub flat_command : (c : Command) → depth (command_data c) ≤ 5
flat_command (Load net) =
    let links = list_depth link_data 1 (λ l. omega arith) net.links in
    let nodes = list_depth node_data 1 (λ n. omega arith) net.nodes in
    let turns = list_depth turn_data 1 (λ t. omega arith) net.turns in
    omega arith
flat_command (Enter plan lane depart size) =
    let links = list_depth number_data 1 (λ n. omega arith) plan in
    elim (cases_Bool (size == 1)) as (λ _. depth (command_data (Enter plan lane depart size)) ≤ 5) [
      | inl one ↦ rw one (omega arith)
      | inr other ↦ rw other (omega arith)
    ]
flat_command (Signal node offset phases) = let each = list_depth phase_data 3 phase_depth phases in omega arith
flat_command (Advance steps) = omega arith
flat_command (CloseLane link lane first last) = omega arith
flat_command (ReopenLane link lane first last) = omega arith
flat_command (TakeOut car) = omega arith
flat_command (PlaceMeter link lane cell period) = omega arith
flat_command (ReadMeter meter) = omega arith
flat_command (Vehicle car) = omega arith
flat_command (Lane link lane) = omega arith
flat_command Count = omega arith

pub shallow_command : (c : Command) → depth (command_data c) ≤ max_depth
shallow_command c = let flat = flat_command c in omega arith
