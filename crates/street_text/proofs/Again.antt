-- The value of a command says that command, and is plain.
use Rattle.std.proofs.Common.{◌≡◌, ℕ, ◌==◌, Bool, true, false, not, List, [], ◌∷◌, All, Option, Some, refl, sym, ap, inl, inr}
use Rattle.std.proofs.lemmas.Bool.{cases_Bool, eqb-true, true≢false}
use Rattle.std.proofs.lemmas.List.Elements.{All-head, All-tail}
use Rattle.json.proofs.Printed.Utf8.{IsUtf8-are_ascii}
use Rattle.serde_json.specs.Data.{Data}
use Rattle.street_base.specs.declared.command.Command.{Command}
use Rattle.street_base.specs.declared.command.Command.TheVariants.{Load, Enter, Signal, Advance, CloseLane, ReopenLane, TakeOut, PlaceMeter, ReadMeter, Vehicle, Lane, Count}
use Rattle.street_base.specs.declared.command.GreenSpec.{GreenSpec}
use Rattle.street_base.specs.declared.command.PhaseSpec.{PhaseSpec}
use Rattle.street_base.specs.declared.net.NodeSpec.{NodeSpec}
use Rattle.street_base.specs.declared.net.LinkSpec.{LinkSpec}
use Rattle.street_base.specs.declared.net.TurnSpec.{TurnSpec}
use Rattle.street_text.specs.CommandTexts.{command_data, tells_size}
use Rattle.street_text.specs.ReplyLines.{items_from, number_data, node_data, link_data, turn_data, green_data, phase_data}
use Rattle.street_text.specs.LineCommands.{entries_of, number_in, row_in, node_in, link_in, turn_in, green_in, phase_in, command_in, named, load_in, numbers_in, signal_in, enter_in, advance_in, close_in, reopen_in, take_out_in, place_meter_in, read_meter_in, vehicle_in, lane_in}
use Rattle.street_text.specs.Fits.{IsWord, NodeFits, LinkFits, TurnFits, GreenFits, PhaseFits, Fits}
use Rattle.street_text.proofs.Plain.{IsPlain, AreItemsPlain}

-- ---- it says the command

list_again : {T : Type 0} (entry : Data → Option T) (one : T → Data) → ((x : T) → entry (one x) ≡ Some x) → (xs : List T) → entries_of entry (items_from one xs) ≡ Some xs
list_again entry one each [] = refl
list_again entry one each (x ∷ xs) = rw (each x, list_again entry one each xs) refl

node_again : (n : NodeSpec) → node_in (node_data n) ≡ Some n
unfolding node_in row_in
node_again n = refl

link_again : (l : LinkSpec) → link_in (link_data l) ≡ Some l
unfolding link_in row_in
link_again l = refl

turn_again : (t : TurnSpec) → turn_in (turn_data t) ≡ Some t
unfolding turn_in row_in
turn_again t = refl

green_again : (g : GreenSpec) → green_in (green_data g) ≡ Some g
unfolding green_in row_in
green_again g = refl

phase_again : (p : PhaseSpec) → phase_in (phase_data p) ≡ Some p
unfolding phase_in
phase_again p = rw (list_again green_in green_data green_again p.greens) refl

enter_again : (b sized : Bool) (plan : List ℕ) (lane depart size : ℕ) → (size == 1) ≡ b → (not (size == 1) ≡ true → sized ≡ true) → command_in sized (command_data (Enter plan lane depart size)) ≡ Some (Enter plan lane depart size)
unfolding command_in named enter_in
enter_again true true plan lane depart size one told = rw (eqb-true size 1 one, list_again number_in number_data (λ n. refl) plan) refl
enter_again true false plan lane depart size one told = rw (eqb-true size 1 one, list_again number_in number_data (λ n. refl) plan) refl
enter_again false true plan lane depart size other told = rw (other, list_again number_in number_data (λ n. refl) plan) refl
enter_again false false plan lane depart size other told = absurd (true≢false (sym (told (ap not other))))

-- where a size is told, sizes are read
pub command_again : (sized : Bool) (c : Command) → (tells_size c ≡ true → sized ≡ true) → command_in sized (command_data c) ≡ Some c
unfolding command_in named load_in numbers_in signal_in enter_in advance_in close_in reopen_in take_out_in place_meter_in read_meter_in vehicle_in lane_in
command_again sized (Load net) told =
    rw (list_again node_in node_data node_again net.nodes, list_again link_in link_data link_again net.links, list_again turn_in turn_data turn_again net.turns) refl
command_again sized (Enter plan lane depart size) told = enter_again (size == 1) sized plan lane depart size refl told
command_again sized (Signal node offset phases) told = rw (list_again phase_in phase_data phase_again phases) refl
command_again sized (Advance steps) told = refl
command_again sized (CloseLane link lane first last) told = refl
command_again sized (ReopenLane link lane first last) told = refl
command_again sized (TakeOut car) told = refl
command_again sized (PlaceMeter link lane cell period) told = refl
command_again sized (ReadMeter meter) told = refl
command_again sized (Vehicle car) told = refl
command_again sized (Lane link lane) told = refl
command_again sized Count told = refl

-- ---- with numbers of 64 bits it is plain

list_plain : {T : Type 0} (P : T → Type 0) (one : T → Data) → ((x : T) → P x → IsPlain (one x)) → (xs : List T) → All P xs → AreItemsPlain (items_from one xs)
list_plain P one each [] h = tt
list_plain P one each (x ∷ xs) h = (each x (All-head P x xs h), list_plain P one each xs (All-tail P x xs h))

node_plain : (n : NodeSpec) → NodeFits n → IsPlain (node_data n)
node_plain n h = (h.0, (h.1, (h.2, tt)))

link_plain : (l : LinkSpec) → LinkFits l → IsPlain (link_data l)
link_plain l h = (h.0, (h.1, (h.2, (h.3, (h.4, (h.5, tt))))))

turn_plain : (t : TurnSpec) → TurnFits t → IsPlain (turn_data t)
turn_plain t h = (h.0, (h.1, (h.2, (h.3, tt))))

green_plain : (g : GreenSpec) → GreenFits g → IsPlain (green_data g)
green_plain g h = (h.0, (h.1, (h.2, tt)))

phase_plain : (p : PhaseSpec) → PhaseFits p → IsPlain (phase_data p)
phase_plain p h = (h.0, (list_plain GreenFits green_data green_plain p.greens h.1, tt))

pub command_plain : (c : Command) → Fits c → IsPlain (command_data c)
command_plain (Load net) h =
    let links = list_plain LinkFits link_data link_plain net.links h.1 in
    let nodes = list_plain NodeFits node_data node_plain net.nodes h.0 in
    let turns = list_plain TurnFits turn_data turn_plain net.turns h.2 in
    ((IsUtf8-are_ascii _ refl, h.5, (IsUtf8-are_ascii _ refl, IsUtf8-are_ascii _ refl, (IsUtf8-are_ascii _ refl, h.4, (IsUtf8-are_ascii _ refl, links, (IsUtf8-are_ascii _ refl, nodes, (IsUtf8-are_ascii _ refl, h.6, (IsUtf8-are_ascii _ refl, h.7, (IsUtf8-are_ascii _ refl, turns, (IsUtf8-are_ascii _ refl, h.3, tt))))))))), refl)
command_plain (Enter plan lane depart size) h =
    let links = list_plain IsWord number_data (λ n fits. fits) plan h.0 in
    elim (cases_Bool (size == 1)) as (λ _. IsPlain (command_data (Enter plan lane depart size))) [
      | inl one ↦ rw one ((IsUtf8-are_ascii _ refl, IsUtf8-are_ascii _ refl, (IsUtf8-are_ascii _ refl, h.2, (IsUtf8-are_ascii _ refl, h.1, (IsUtf8-are_ascii _ refl, links, tt)))), refl)
      | inr other ↦ rw other ((IsUtf8-are_ascii _ refl, IsUtf8-are_ascii _ refl, (IsUtf8-are_ascii _ refl, h.2, (IsUtf8-are_ascii _ refl, h.1, (IsUtf8-are_ascii _ refl, links, (IsUtf8-are_ascii _ refl, h.3, tt))))), refl)
    ]
command_plain (Signal node offset phases) h =
    let each = list_plain PhaseFits phase_data phase_plain phases h.2 in
    ((IsUtf8-are_ascii _ refl, IsUtf8-are_ascii _ refl, (IsUtf8-are_ascii _ refl, h.0, (IsUtf8-are_ascii _ refl, h.1, (IsUtf8-are_ascii _ refl, each, tt)))), refl)
command_plain (Advance steps) h = ((IsUtf8-are_ascii _ refl, IsUtf8-are_ascii _ refl, (IsUtf8-are_ascii _ refl, h, tt)), refl)
command_plain (CloseLane link lane first last) h =
    ((IsUtf8-are_ascii _ refl, IsUtf8-are_ascii _ refl, (IsUtf8-are_ascii _ refl, h.2, (IsUtf8-are_ascii _ refl, h.1, (IsUtf8-are_ascii _ refl, h.3, (IsUtf8-are_ascii _ refl, h.0, tt))))), refl)
command_plain (ReopenLane link lane first last) h =
    ((IsUtf8-are_ascii _ refl, IsUtf8-are_ascii _ refl, (IsUtf8-are_ascii _ refl, h.2, (IsUtf8-are_ascii _ refl, h.1, (IsUtf8-are_ascii _ refl, h.3, (IsUtf8-are_ascii _ refl, h.0, tt))))), refl)
command_plain (TakeOut car) h = ((IsUtf8-are_ascii _ refl, h, (IsUtf8-are_ascii _ refl, IsUtf8-are_ascii _ refl, tt)), refl)
command_plain (PlaceMeter link lane cell period) h =
    ((IsUtf8-are_ascii _ refl, h.2, (IsUtf8-are_ascii _ refl, IsUtf8-are_ascii _ refl, (IsUtf8-are_ascii _ refl, h.1, (IsUtf8-are_ascii _ refl, h.0, (IsUtf8-are_ascii _ refl, h.3, tt))))), refl)
command_plain (ReadMeter meter) h = ((IsUtf8-are_ascii _ refl, IsUtf8-are_ascii _ refl, (IsUtf8-are_ascii _ refl, h, tt)), refl)
command_plain (Vehicle car) h = ((IsUtf8-are_ascii _ refl, h, (IsUtf8-are_ascii _ refl, IsUtf8-are_ascii _ refl, tt)), refl)
command_plain (Lane link lane) h = ((IsUtf8-are_ascii _ refl, IsUtf8-are_ascii _ refl, (IsUtf8-are_ascii _ refl, h.1, (IsUtf8-are_ascii _ refl, h.0, tt))), refl)
command_plain Count h = ((IsUtf8-are_ascii _ refl, IsUtf8-are_ascii _ refl, tt), refl)
